use Rattle.ingest_session.proofs.KeyTimes.{taken}
use Rattle.ingest_session.proofs.counting.discount_containers.Goals as goal

pub loop-i-preserved : goal.loop-i-preserved
loop-i-preserved c = λ key.
    taken c.args.counts.now c.loop-i.counts c.discount_all.new.counts c.args.containers.now c.loop-i.i c.index-containers-i.result c.kind.result
    c.entries.result.now c.loop-i-test.true c.index-containers-i.is c.kind.ensures c.entries.ensures.entries key (c.loop-i.invariant key) (c.discount_all.ensures key)
