use Rattle.std.proofs.Common.{◌≡◌, ◌≤◌, ◌++◌, length, take, drop}
use Rattle.store_state.proofs.Closed.{zeros_from}
use Rattle.store_state.proofs.slot_table.SlotTable.first_closed.Given as goal

-- those before this one were looked at
abbrev pub invariant-loop-slot : goal.invariant-loop-slot
invariant-loop-slot l =
    (take l.count (l.slots.items ++ zeros_from l.slot (drop l.slot l.self.ids.items)) ≡ take l.count (zeros_from 0 l.self.ids.items))
    × (length l.slots.items ≤ l.count)
