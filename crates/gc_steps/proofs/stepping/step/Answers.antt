use Rattle.gc_steps.proofs.MakesSteps.{mark_made, record_made}
use Rattle.gc_steps.proofs.stepping.step.Goals as goal

pub returns-in_ok-mark_container-in-Mark-clause-step : goal.returns-in_ok-mark_container-in-Mark-clause-step
returns-in_ok-mark_container-in-Mark-clause-step g c =
    let view = g.D.Disk.view in
    let did = c.in_ok-mark_container-in-Mark.ensures in
    record {
      made = mark_made c.args.tables.now (g.X.Index.places c.args.index.now (view c.args.disk.now).content)
          (g.X.Index.places c.mark_container.new.index (view c.mark_container.new.disk).content)
          (view c.args.disk.now) (view c.mark_container.new.disk) c.args.collection.now c.mark_container.new.collection c.requires.under_way did.reads.only.later.size_is did.map
          c.in-Mark.level c.in-Mark.slot c.in-Mark.is did.ok;
      refused = tt;
    }

pub returns-in_ok-record_container-in-Filter-clause-step : goal.returns-in_ok-record_container-in-Filter-clause-step
returns-in_ok-record_container-in-Filter-clause-step g c =
    let view = g.D.Disk.view in
    let did = c.in_ok-record_container-in-Filter.ensures in
    record {
      made = record_made c.args.tables.now (g.X.Index.places c.args.index.now (view c.args.disk.now).content)
          (g.X.Index.places c.record_container.new.index (view c.record_container.new.disk).content)
          (view c.args.disk.now) (view c.record_container.new.disk) c.args.collection.now c.record_container.new.collection c.requires.under_way did.reads.only.later.size_is
          did.map c.in-Filter.slot c.in-Filter.is did.ok;
      refused = tt;
    }
