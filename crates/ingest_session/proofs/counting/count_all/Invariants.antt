use Rattle.ingest_session.proofs.Prelude.{◌≡◌, ◌+◌, ℕ, List, take}
use Rattle.ingest_session.specs.KeyTimes.{times, times_among}
use Rattle.ingest_session.proofs.counting.count_all.Given as goal

abbrev pub invariant-loop-i : goal.invariant-loop-i
invariant-loop-i l = (k : List ℕ) → times l.counts k ≡ times l.fn.counts k + times_among l.kind (take l.i l.entries) k
