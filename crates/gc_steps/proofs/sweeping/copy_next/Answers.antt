use Rattle.gc_steps.proofs.Prelude.{refl, Done, ending_of, blames, GoesBy}
use Rattle.std.proofs.lemmas.Result.{err_from_is_err_and}
use Rattle.dd_disk.proofs.Moves.{passed}
use Rattle.gc_steps.proofs.SweepSteps.{copy_goes, copy_made, copy_refused}
use Rattle.gc_steps.proofs.sweeping.copy_next.Goals as goal

pub returns-in_err-copy_source-clause-step : goal.returns-in_err-copy_source-clause-step
returns-in_err-copy_source-clause-step g c =
    let view = g.D.Disk.view in
    let did = c.in_err-copy_source.ensures in
    let runs = c.requires.runs.1 in
    let p = err_from_is_err_and c.from_residual.result c.from_residual.ensures.1 in
    rw (p.1, p.2) (record {
      made = tt;
      refused = copy_refused c.args.tables.now c.args.tables.now (g.X.Index.places c.args.index.now (view c.args.disk.now).content)
          (g.X.Index.places c.copy_source.new.index (view c.copy_source.new.disk).content)
          (view c.args.disk.now)
          (view c.copy_source.new.disk) c.args.collection.now c.copy_source.new.sweep c.args.source c.args.entry c.requires.stage c.requires.under_way c.requires.next refl
          (did.changes runs.store.slots runs.valid.size_is).later.size_is c.in_err-copy_source.field-0.0 did.unchanged did.refused did.kept;
    })

pub returns-in_err-copy_source-clause-disk : goal.returns-in_err-copy_source-clause-disk
returns-in_err-copy_source-clause-disk g c =
    let view = g.D.Disk.view in
    let e = c.in_err-copy_source.field-0.0 in
    let runs = c.requires.runs.1 in
    passed (λ x. GoesBy c.args.collection.now c.args.tables.now x (view c.args.disk.now) (view c.copy_source.new.disk)) blames c.from_residual.result e c.from_residual.ensures.1
    (copy_goes c.args.tables.now c.args.tables.now (g.X.Index.places c.args.index.now (view c.args.disk.now).content)
    (g.X.Index.places c.copy_source.new.index (view c.copy_source.new.disk).content)
    (view c.args.disk.now)
    (view c.copy_source.new.disk) c.args.collection.now c.copy_source.new.sweep c.args.source c.args.entry c.requires.stage c.requires.under_way c.requires.next
    (ending_of (blames e)) runs.store.slots runs.valid.size_is (c.in_err-copy_source.ensures.changes))

pub returns-clause-step : goal.returns-clause-step
returns-clause-step g c =
    let view = g.D.Disk.view in
    let did = c.in_ok-copy_source.ensures in
    let runs = c.requires.runs.1 in
    record {
      made = copy_made c.args.tables.now c.args.tables.now (g.X.Index.places c.args.index.now (view c.args.disk.now).content)
          (g.X.Index.places c.copy_source.new.index (view c.copy_source.new.disk).content)
          (view c.args.disk.now)
          (view c.copy_source.new.disk) c.args.collection.now c.copy_source.new.sweep c.args.source c.args.entry c.requires.stage c.requires.under_way c.requires.next refl
          (did.changes runs.store.slots runs.valid.size_is).later.size_is did.ok;
      refused = tt;
    }

pub returns-clause-disk : goal.returns-clause-disk
returns-clause-disk g c =
    let view = g.D.Disk.view in
    let runs = c.requires.runs.1 in
    copy_goes c.args.tables.now c.args.tables.now (g.X.Index.places c.args.index.now (view c.args.disk.now).content)
    (g.X.Index.places c.copy_source.new.index (view c.copy_source.new.disk).content)
    (view c.args.disk.now)
    (view c.copy_source.new.disk) c.args.collection.now c.copy_source.new.sweep c.args.source c.args.entry c.requires.stage c.requires.under_way c.requires.next
    Done runs.store.slots runs.valid.size_is (c.in_ok-copy_source.ensures.changes)
