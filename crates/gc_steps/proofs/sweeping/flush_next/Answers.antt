use Rattle.gc_steps.proofs.Prelude.{None, arith, refl}
use Rattle.gc_steps.specs.declared.collection.Stage.TheVariants.{Sweep}
use Rattle.gc_steps.proofs.SweepSteps.{flush_made, swept}
use Rattle.gc_steps.proofs.UnderWay.{at_stage, runs_alone, swept_on}
use Rattle.gc_steps.proofs.sweeping.flush_next.Goals as goal

pub returns-clause-step : goal.returns-clause-step
returns-clause-step g c =
    let view = g.D.Disk.view in
    let did = c.in_ok-flush_copies.ensures in
    record {
      made = flush_made c.args.tables.now c.flush_copies.new.tables (g.X.Index.places c.args.index.now (view c.args.disk.now).content)
          (g.X.Index.places c.flush_copies.new.index (view c.flush_copies.new.disk).content)
          (view c.args.disk.now)
          (view c.flush_copies.new.disk) c.args.collection.now c.flush_copies.new.sweep c.args.source c.args.entry c.requires.stage c.requires.under_way c.requires.next
          did.disk.later.size_is did.written.0 did.written.1 did.written.2.told did.sweep;
      refused = tt;
    }

pub returns-clause-under_way : goal.returns-clause-under_way
returns-clause-under_way g c =
    let view = g.D.Disk.view in
    let did = c.in_ok-flush_copies.ensures in
    let now = c.args.collection.now in
    let runs = c.requires.runs.1 in
    let alone = runs_alone (view c.args.disk.now).size c.requires.runs.0 c.args.tables.now runs in
    let writes = did.written.1 in
    swept_on (view c.args.disk.now).size _ c.args.tables.now.held c.flush_copies.new.tables now (swept now c.flush_copies.new.sweep) (writes.written.runs None (omega arith) alone)
    (omega (arith, writes.written.last_is)) c.requires.under_way c.requires.stage refl did.sweep.sources_are
    (did.under_way now.snapshot (at_stage c.args.tables.now.held now Sweep c.requires.under_way c.requires.stage))
