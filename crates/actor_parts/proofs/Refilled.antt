-- What is written into a buffer that was lent.
use Rattle.std.proofs.Common.{◌≡◌, ℕ, List, length, drop}
use Rattle.std.proofs.lemmas.List.{take_at}
use Rattle.actor_parts.specs.Buffer.{refilled}

-- bytes that fill it are what it has
pub refilled_whole : (old bytes : List ℕ) → length bytes ≡ length old → refilled old bytes ≡ bytes
refilled_whole old bytes same = take_at bytes (drop (length bytes) old) (length old) same
