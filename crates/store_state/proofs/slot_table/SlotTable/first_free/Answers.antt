use Rattle.std.proofs.Common.{◌∙◌, ap, sym}
use Rattle.std.specs.List.{position}
use Rattle.store_model.proofs.Free.{is_zero, place_free, no_place_free}
use Rattle.store_state.proofs.slot_table.SlotTable.first_free.Goals as goal

pub returns-clause-some : goal.returns-clause-some
returns-clause-some c = λ held are right.
    let is = place_free held c.in_ok-slot.slot right (sym (ap (position is_zero) (c.deref.ensures.value ∙ are)) ∙ sym c.in_ok-slot.ensures) in
    record { first = is.0; within = is.1; closed = is.2 }

pub returns-in_err-slot-clause-none : goal.returns-in_err-slot-clause-none
returns-in_err-slot-clause-none c = λ none held are right.
    no_place_free held right (sym (ap (position is_zero) (c.deref.ensures.value ∙ are)) ∙ sym c.in_err-slot.ensures)
