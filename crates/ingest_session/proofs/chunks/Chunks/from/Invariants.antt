use Rattle.ingest_session.proofs.Prelude.{◌≡◌, ◌≤◌, ◌+◌, ◌++◌, drop, length, map}
use Rattle.std.proofs.Common.{vec_capacity}
use Rattle.ingest_session.proofs.chunks.Chunks.from.Given as goal

abbrev pub invariant-loop-i : goal.invariant-loop-i
invariant-loop-i l =
    (map (λ t. t.now) l.texts.items ++ drop l.i l.self.segments ≡ drop l.n l.self.segments)
    × (l.n + length l.texts.items ≡ l.i)
    × (l.i-end ≤ l.n + vec_capacity l.texts)
    × (l.i-end ≡ length l.self.segments)
