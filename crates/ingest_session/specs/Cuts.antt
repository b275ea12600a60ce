-- How many segments end in bytes that are taken.
use Rattle.std.specs.Prelude.{◌≡◌, ◌≤◌, ℕ, ◌+◌, ◌*◌, length, ◌⊎◌}
use Rattle.disk_format.specs.declared.numbers.TheConstants.{LEAST_SEGMENT}
use Rattle.ingest_session.specs.State.{SessionState}

-- the least length of each segment that waits, and the bytes in hand
abbrev pub least_waiting : SessionState → ℕ
least_waiting s = LEAST_SEGMENT * length s.queue + length s.hand.bytes

-- At most one segment ended in so many bytes that were taken, and then none of them is in hand. It has the least length.
pub record CutsOne (taken : ℕ) (old new : SessionState) : Type 0 where
  pub one : (length new.queue ≡ length old.queue) ⊎ ((length new.queue ≡ length old.queue + 1) × (length new.hand.bytes ≡ 0))
  pub least : least_waiting new ≤ least_waiting old + taken
