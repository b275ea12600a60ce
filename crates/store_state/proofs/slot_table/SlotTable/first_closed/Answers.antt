use Rattle.std.proofs.Common.{ℕ, List, take, ◌∙◌, ap, arith, inl, inr}
use Rattle.store_state.proofs.Closed.{zeros_from, zeros_closed, all_found}
use Rattle.store_state.proofs.slot_table.SlotTable.first_closed.Goals as goal
use Rattle.store_state.proofs.slot_table.SlotTable.first_closed.Goals.{else-loop-slot-test, then-loop-slot-test+then-len-count}

pub returns : goal.returns
returns c = λ held are right.
    let ids = c.args.self.now.ids.items in
    all_found c.args.count c.loop-slot.slot ids c.loop-slot.slots.items c.loop-slot.invariant.0 c.loop-slot.invariant.1
    (elim c.loop-slot-test.branch [ else-loop-slot-test w ↦ inr (grind arith) | then-loop-slot-test+then-len-count w ↦ inl (grind arith) ])
    ∙ ap (λ (l : List ℕ). take c.args.count (zeros_from 0 l)) are
    ∙ ap (take c.args.count) (zeros_closed 0 held right)
