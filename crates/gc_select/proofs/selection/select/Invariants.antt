use Rattle.std.proofs.Common.{◌≡◌, ◌≤◌, take, length}
use Rattle.container_meta.specs.declared.kind.Kind.TheVariants.{Leaf, Tree}
use Rattle.gc_select.specs.Selecting.{ids_of, of_kind, selected}
use Rattle.gc_select.proofs.selection.select.Given as goal

-- the ids of the containers before this one
abbrev pub invariant-loop-container : goal.invariant-loop-container
invariant-loop-container l =
    (l.container-items ≡ l.liveness)
    × (l.container-index ≤ length l.liveness)
    × (l.ids.items ≡ ids_of (of_kind Leaf (selected l.snapshot l.percent (take l.container-index l.liveness))))
    × (l.tree_ids.items ≡ ids_of (of_kind Tree (selected l.snapshot l.percent (take l.container-index l.liveness))))
