use Rattle.std.proofs.Common.{List, ℕ, map, set, ap, sym, ◌∙◌, arith}
use Rattle.store_model.specs.Slots.{ids_of}
use Rattle.store_state.specs.declared.slot_table.SlotCount.{SlotCount}
use Rattle.store_state.specs.Tables.{count_of}
use Rattle.store_state.proofs.Taken.{ids_with, counts_with, last_with}
use Rattle.store_state.proofs.slot_table.SlotTable.take_container.Goals as goal

pub returns-clause-holds : goal.returns-clause-holds
returns-clause-holds c = λ held h id_is count_is before.
    let slot = c.args.slot in
    record {
      ids_are = ap (λ (l : List ℕ). set l slot c.args.id) before.ids_are ∙ ap (set (ids_of held) slot) (sym id_is) ∙ sym (ids_with slot h held);
      counts_are = ap (λ (l : List SlotCount). set l slot c.args.count) before.counts_are
          ∙ ap (set (map count_of held) slot) (sym count_is)
          ∙ sym (counts_with slot h held);
      last_id_is = omega (arith, last_with slot h held, before.last_id_is, c.max-self.ensures, id_is);
    }
