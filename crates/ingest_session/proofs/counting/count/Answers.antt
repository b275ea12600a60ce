use Rattle.std.proofs.lemmas.Result.{on_ok_weaker}
use Rattle.ingest_session.proofs.Prelude.{◌+◌, ℕ, ap}
use Rattle.ingest_session.proofs.KeyTimes.{counted_more}
use Rattle.ingest_session.proofs.counting.count.Goals as goal

pub returns-clause-ok : goal.returns-clause-ok
returns-clause-ok c =
    on_ok_weaker c.insert.result
    (λ is. counted_more c.args.counts.now c.insert.new.self c.args.key.now _ is (ap (λ (n : ℕ). n + 1) c.counted-times.ensures))
    c.insert.ensures.ok
