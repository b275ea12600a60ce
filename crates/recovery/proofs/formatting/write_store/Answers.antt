use Rattle.recovery.proofs.Prelude.{WriteCall, ending, passed, never_refused}
use Rattle.recovery.proofs.Storing.{WritesStore, sync_broken, sync_left, all_blank, store_on, store_left}
use Rattle.recovery.proofs.formatting.write_store.Goals as goal

pub returns-in_err-sync_all-clause-writes : goal.returns-in_err-sync_all-clause-writes
returns-in_err-sync_all-clause-writes g c =
    let view = g.D.Disk.view in
    passed (λ e. WritesStore c.args.slots e (view c.args.disk.now) (view c.sync_all.new.disk)) (λ _. WriteCall) c.from_residual.result c.in_err-sync_all.field-0.0
    c.from_residual.ensures.1
    (sync_broken c.args.slots _ _ c.in_err-sync_all.ensures.reads)

pub returns-in_err-sync_all-clause-left : goal.returns-in_err-sync_all-clause-left
returns-in_err-sync_all-clause-left g c =
    let reads = c.in_err-sync_all.ensures.reads in
    sync_left c.args.slots _ _ c.requires.blank reads.only

pub write_cells-requires-clause-blank : goal.write_cells-requires-clause-blank
write_cells-requires-clause-blank g c = all_blank c.args.slots _ _ c.requires.blank c.in_ok-sync_all.ensures.reads c.in_ok-sync_all.ensures.durable

pub returns-clause-writes : goal.returns-clause-writes
returns-clause-writes g c =
    store_on c.args.slots _ _ _ c.requires.blank c.in_ok-sync_all.ensures.reads c.in_ok-sync_all.ensures.durable
    (ending (λ _. WriteCall) c.write_cells.result) (never_refused c.write_cells.result) c.write_cells.ensures

pub returns-clause-left : goal.returns-clause-left
returns-clause-left g c =
    store_left c.args.slots _ _ _ c.requires.blank c.in_ok-sync_all.ensures.reads c.in_ok-sync_all.ensures.durable (ending (λ _. WriteCall) c.write_cells.result)
    c.write_cells.ensures
