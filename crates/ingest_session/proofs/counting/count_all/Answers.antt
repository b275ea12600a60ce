use Rattle.ingest_session.proofs.Prelude.{arith}
use Rattle.ingest_session.proofs.KeyTimes.{among_few}
use Rattle.ingest_session.proofs.counting.count_all.Goals as goal

pub count-requires : goal.count-requires
count-requires c =
    let key = c.key_of.result in
    record {
      few = omega (arith, c.loop-i.invariant key, c.requires.few key, among_few c.args.kind c.args.entries.now c.loop-i.i key c.loop-i-test.true);
    }
