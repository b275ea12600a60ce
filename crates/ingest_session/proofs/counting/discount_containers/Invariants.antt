use Rattle.ingest_session.proofs.Prelude.{◌≡◌, ◌-◌, ℕ, List, take}
use Rattle.ingest_session.specs.KeyTimes.{times, times_in}
use Rattle.ingest_session.proofs.counting.discount_containers.Given as goal

abbrev pub invariant-loop-i : goal.invariant-loop-i
invariant-loop-i l = (k : List ℕ) → times l.counts k ≡ times l.fn.counts k - times_in (take l.i l.containers) k
