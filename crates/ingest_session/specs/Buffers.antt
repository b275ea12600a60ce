-- A queue, and its memory: buffers for all segments that may wait at once, and the digests of the first ones.
use Rattle.std.specs.Prelude.{◌≡◌, ℕ, ◌+◌, ◌-◌, ◌*◌, ◌/◌, ◌<◌, ◌≤◌, List, [], ◌∷◌, ◌++◌, length, vec_capacity}
use Rattle.std.specs.Global.{Vec}
use Rattle.std.specs.List.{AllByRecursion, flat_map}
use Rattle.sha2.specs.Sha256.{sha256}
use Rattle.disk_format.specs.declared.numbers.TheConstants.{MOST_SEGMENT}
use Rattle.digests.specs.Texts.{Texts}
use Rattle.ingest_session.specs.declared.chunks.TheConstants.{CHUNK}
use Rattle.ingest_session.specs.declared.queue.TheConstants.{LONG_QUEUE}

-- the segments that wait, in order, and how many wait at most while the file goes on; its end adds one more
pub record Waiting : Type 0 where
  pub most : ℕ
  pub segments : List (List ℕ)

-- the digests that are kept are those of the first segments, in order
abbrev pub AreDigests : List (List ℕ) → List (List ℕ) → Type 0
AreDigests [] segments = Unit {0}
AreDigests (d ∷ ds) [] = ⊥
AreDigests (d ∷ ds) (s ∷ ss) = (d ≡ sha256 s) × AreDigests ds ss

-- ---- buffers

-- a buffer, with room for as many segments as it may have
pub record IsChunk (t : Texts) : Type 0 where
  pub places : CHUNK ≤ t.places
  pub room : CHUNK * MOST_SEGMENT ≤ t.room
  pub few : length t.all ≤ CHUNK
  pub each : AllByRecursion (λ s. length s ≤ MOST_SEGMENT) t.all

abbrev pub IsFull : Texts → Type 0
IsFull t = IsChunk t × (length t.all ≡ CHUNK)

abbrev pub IsSpare : Texts → Type 0
IsSpare t = IsChunk t × (t.all ≡ [])

-- the segments that are in buffers, of which the last may be filled
abbrev pub all_in : List Texts → Texts → List (List ℕ)
all_in full last = flat_map (λ t. t.all) full ++ last.all

-- how many buffers there are beside the one that is filled
abbrev pub others : ℕ → ℕ
others most = (most + CHUNK - 1) / CHUNK

-- So many segments wait, behind those of the first buffer that are gone. Each buffer is full, or the last, or spare, and there is room for
-- all of them on both sides.
pub record AreChunks (most count gone : ℕ) (full : List Texts) (capacity : ℕ) (last : Texts) (spare : Vec Texts) : Type 0 where
  pub limit : most ≤ LONG_QUEUE
  pub count_is : gone + count ≡ length (all_in full last)
  pub at_most : count ≤ most + 1
  pub begun : gone < CHUNK
  pub all : length full + length spare.items ≡ others most
  pub room_full : others most ≤ capacity
  pub room_spare : others most ≤ vec_capacity spare
  pub each : AllByRecursion IsFull full
  pub filled : IsChunk last
  pub empty : AllByRecursion IsSpare spare.items
