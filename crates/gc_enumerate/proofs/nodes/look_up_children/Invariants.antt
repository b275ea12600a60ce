use Rattle.std.proofs.Common.{◌≡◌}
use Rattle.gc_enumerate.proofs.Children.{LookedUp}
use Rattle.gc_enumerate.proofs.nodes.look_up_children.Given as goal

-- the children before this one
abbrev pub invariant-loop-child : goal.invariant-loop-child
invariant-loop-child g l =
    (l.child-items ≡ l.node.children)
    × (l.level ≡ l.node.level)
    × LookedUp (g.C.Copies.places l.fn.copies) l.node.level l.node.children l.child-index l.found.items
    × g.C.Copies.later l.fn.copies l.copies
    × (g.C.Copies.failures l.copies ≡ g.C.Copies.failures l.fn.copies)
    × g.C.Copies.serves l.copies
