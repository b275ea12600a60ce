use Rattle.std.proofs.Common.{◌∙◌, ap}
use Rattle.std.specs.List.{count_by}
use Rattle.store_model.proofs.Free.{is_zero, zeros_free}
use Rattle.store_state.proofs.slot_table.SlotTable.free.Goals as goal

pub returns : goal.returns
returns c = λ held are right. c.zeros_in.ensures ∙ ap (count_by is_zero) (c.deref.ensures.value ∙ are) ∙ zeros_free held right
