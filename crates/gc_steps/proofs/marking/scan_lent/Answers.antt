use Rattle.std.proofs.Common.{rules}
use Rattle.gc_steps.proofs.Prelude.{view}
use Rattle.gc_steps.proofs.Scans.{kept_at, marks_at}
use Rattle.gc_steps.proofs.marking.scan_lent.Goals as goal

pub returns-clause-marks : goal.returns-clause-marks
returns-clause-marks g c =
    let old = g.D.Disk.view c.args.disk.now in
    marks_at g.row.D.Denot g.D.Disk.view (g.X.Index.places c.args.index.now old.content) old c.args.slot c.args.level
    (view c.args.meta.now) c.args.live.now c.scan_container.new.live c.scan_container.new.copies.disk.now _ (search rules)
    c.scan_container.result c.scan_container.ensures.marks c.scan_container.ensures.children

pub returns-clause-kept : goal.returns-clause-kept
returns-clause-kept g c =
    let old = g.D.Disk.view c.args.disk.now in
    kept_at g.row.D.Denot g.D.Disk.view (g.X.Index.places c.args.index.now old.content) old c.args.slot c.args.level
    (view c.args.meta.now) c.args.live.now c.scan_container.new.live c.scan_container.new.copies.disk.now _ (search rules)
    c.scan_container.result c.scan_container.ensures.kept
