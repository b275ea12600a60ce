use Rattle.gc_steps.proofs.Prelude.{◌≡◌, first_slot, is_tree_slot}
use Rattle.gc_steps.proofs.slots.next_tree.Given as goal

-- none of the slots before is such a one
abbrev pub invariant-loop-slot : goal.invariant-loop-slot
invariant-loop-slot l = first_slot l.held (is_tree_slot l.snapshot l.held) l.from ≡ first_slot l.held (is_tree_slot l.snapshot l.held) l.slot
