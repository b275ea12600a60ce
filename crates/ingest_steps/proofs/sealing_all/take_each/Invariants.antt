use Rattle.ingest_steps.proofs.Prelude.{◌≡◌, ◌+◌, take, Store, Tables}
use Rattle.container_log.specs.Many.{placed}
use Rattle.store_model.specs.Together.{with_all}
use Rattle.store_state.specs.Tables.{RepresentsSlots}
use Rattle.ingest_steps.proofs.sealing_all.take_each.Given as goal

abbrev pub invariant-loop-i : goal.invariant-loop-i
invariant-loop-i l =
    (l.tables ≡ (let x : Tables = record l.fn.tables { held = l.tables.held } in x))
    × (l.tables.held.last_id ≡ l.fn.tables.held.last_id + l.i)
    × ((store : Store) → RepresentsSlots store.held l.fn.tables.held
    → RepresentsSlots (with_all (placed (take l.i l.slots) l.id l.filled) store).held l.tables.held)
