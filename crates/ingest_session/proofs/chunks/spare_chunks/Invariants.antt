use Rattle.ingest_session.proofs.Prelude.{AllByRecursion, length, ◌≡◌, ◌≤◌}
use Rattle.std.proofs.Common.{vec_capacity}
use Rattle.ingest_session.specs.Buffers.{IsSpare}
use Rattle.ingest_session.proofs.chunks.spare_chunks.Given as goal

abbrev pub invariant-loop : goal.invariant-loop
invariant-loop l = (length l.spare.items ≡ l.counter) × (l.count ≤ vec_capacity l.spare) × AllByRecursion IsSpare l.spare.items
