use Rattle.std.proofs.Common.{List, ℕ, map, set, ap, sym, ◌∙◌, arith}
use Rattle.store_state.specs.declared.slot_table.SlotCount.{SlotCount}
use Rattle.store_state.specs.Tables.{count_of}
use Rattle.store_state.proofs.Taken.{ids_without, counts_without, last_without}
use Rattle.store_state.proofs.slot_table.SlotTable.give_back.Goals as goal

pub returns-clause-holds : goal.returns-clause-holds
returns-clause-holds c = λ held before.
    let slot = c.args.slot in
    record {
      ids_are = ap (λ (l : List ℕ). set l slot 0) before.ids_are ∙ sym (ids_without slot held);
      counts_are = ap (λ (l : List SlotCount). set l slot c.closed.result) before.counts_are
          ∙ ap (set (map count_of held) slot) c.closed.ensures
          ∙ sym (counts_without slot held);
      last_id_is = omega (arith, last_without slot held, before.last_id_is);
    }
