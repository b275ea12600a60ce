use Rattle.ingest_steps.proofs.HeldPins.{was_held}
use Rattle.ingest_steps.proofs.claiming.look_up.Goals as goal

pub returns-in-Some-clause-found : goal.returns-in-Some-clause-found
returns-in-Some-clause-found g c =
    let old = g.D.Disk.view c.args.disk.now in
    let is = c.in_ok-compare_one.ensures in
    was_held old.size (g.X.Index.places c.args.index.now old.content) c.args.seg.now old (g.D.Disk.view c.compare_one.new.disk) c.kind.result c.digest.result c.bytes.result.now
    c.in_ok-compare_one.field-0 c.in-Some.field-0 c.kind.ensures c.digest.ensures c.bytes.ensures c.in-Some.is is.had.0 is.had.1 is.length is.fit
