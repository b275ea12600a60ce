-- Where the slots of the reserve are closed by the table.
use Rattle.store_core.proofs.Prelude.{◌≡◌, ℕ, ◌+◌, ◌≤◌, List, Option, ap, subst, ◌∙◌, arith, HeaderValue, RESERVE, End, IsSweeping, free_in, taken_from, Collection, HasRoom, HasStage, IsUnderWay, AreHeaders, free_slots, RepresentsSlots, SlotTable}
use Rattle.std.proofs.Common.{count_by}
use Rattle.std.specs.Prelude.{◌==◌}
use Rattle.gc_sweep.specs.declared.sweep.Next.{Next}
use Rattle.gc_steps.specs.declared.collection.Stage.TheVariants.{Sweep}
use Rattle.store_model.proofs.Free.{zeros_free}

-- as many slots are closed by the table as the store has
pub free_held : (held : List (Option HeaderValue)) (t : SlotTable) → RepresentsSlots held t → AreHeaders held → free_in t ≡ free_slots held
free_held held t slots headers = ap (λ (ids : List ℕ). count_by (λ id. id == 0) ids) slots.ids_are ∙ zeros_free held headers

pub has_room : (held : List (Option HeaderValue)) (t : SlotTable) → RepresentsSlots held t → AreHeaders held → RESERVE ≤ free_slots held → HasRoom t
has_room held t slots headers enough = omega (arith, enough, free_held held t slots headers)

-- they are where a collection comes to its end
pub room_ended : (t : SlotTable) (c : Collection) → c.stage ≡ Sweep → c.sweep.next ≡ End → IsUnderWay t c → HasRoom t
room_ended t c stage next under =
    let sweeping : IsSweeping t c.snapshot c.sweep = subst (HasStage t c) stage under.stage_is in
    let room : RESERVE ≤ free_in t + 0 = subst (λ (n : Next). RESERVE ≤ free_in t + taken_from n) next sweeping.room in
    omega (arith, room)
