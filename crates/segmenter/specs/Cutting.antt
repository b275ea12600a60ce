-- What contracts say of a cutter in mid-stream.
use Rattle.std.specs.Prelude.{◌≡◌, ℕ, ◌+◌, ◌<◌, ◌≤◌, Bool, true, false, ◌&&◌, nat_le, List, [], ◌∷◌, ◌++◌, length, take, if◌then◌else◌}
use Rattle.std.specs.List.{concat}
use Rattle.disk_format.specs.declared.numbers.TheConstants.{LEAST_SEGMENT, MOST_SEGMENT}
use Rattle.segmenter.specs.declared.cutting.Taken.{Taken}
use Rattle.segmenter.specs.Segments.{segments_of, is_boundary, is_hit, window_value, window_at}

-- what contracts see of a cutter: the bytes of the segment in hand, and whether that segment is whole
pub record Hand : Type 0 where
  pub bytes : List ℕ
  pub whole : Bool

-- a segment of which nothing is there yet
abbrev pub empty_hand : Hand
empty_hand = record { bytes = []; whole = false }

-- the segment in hand as a list of segments: one where it is whole, and else none
abbrev pub whole_segments : Hand → List (List ℕ)
whole_segments hand = if hand.whole then hand.bytes ∷ [] else []

-- a segment has to end where these bytes do: they are at least 2,048, and there is a boundary at their end
unfoldable pub ends_segment : List ℕ → Bool
ends_segment bytes = nat_le LEAST_SEGMENT (length bytes) && is_boundary bytes (length bytes)

-- these bytes are the first segment of the stream, however it goes on after them
pub record IsFirstSegment (bytes : List ℕ) : Type 0 where
  pub first : (more : List ℕ) → segments_of (bytes ++ more) ≡ bytes ∷ segments_of more

-- Of the bytes taken so far, the segments shown are the first, and the bytes in hand are those after them. However
-- the stream goes on, its segments are those shown, and then those of the bytes in hand and what is still to come.
pub record HasCut (taken : List ℕ) (shown : List (List ℕ)) (hand : Hand) : Type 0 where
  pub kept : taken ≡ concat shown ++ hand.bytes
  pub first : (more : List ℕ) → segments_of (taken ++ more) ≡ shown ++ segments_of (hand.bytes ++ more)
  pub whole : hand.whole ≡ true → IsFirstSegment hand.bytes

-- What a cutter takes of a piece. It stops before the piece's end only where the segment in hand is whole, and then it
-- took something; where that was whole before, it takes nothing.
pub record Takes (old : Hand) (piece : List ℕ) (taken : Taken) (new : Hand) : Type 0 where
  pub within : taken.taken ≤ length piece
  pub bytes : new.bytes ≡ old.bytes ++ take taken.taken piece
  pub whole : new.whole ≡ taken.whole
  pub all : taken.whole ≡ false → taken.taken ≡ length piece
  pub some : old.whole ≡ false → 0 < length piece → 0 < taken.taken
  pub unchanged : old.whole ≡ true → (taken.taken ≡ 0) × (new ≡ old)

-- Bytes are whole exactly where a segment has to end, and are then the first segment of the stream.
pub record Ends (bytes : List ℕ) (whole : Bool) : Type 0 where
  pub ends : whole ≡ ends_segment bytes
  pub first : whole ≡ true → IsFirstSegment bytes
  pub at_least : whole ≡ true → LEAST_SEGMENT ≤ length bytes

-- bytes that are one segment, whole or not, or none
pub record IsOne (bytes : List ℕ) : Type 0 where
  pub one : 0 < length bytes → segments_of bytes ≡ bytes ∷ []
  pub at_most : length bytes ≤ MOST_SEGMENT

-- ---- what the private functions keep

-- no segment that begins these bytes ends before n of them
abbrev pub NoBoundary : List ℕ → ℕ → Type 0
NoBoundary bytes n = (k : ℕ) → LEAST_SEGMENT ≤ k → k < n → is_boundary bytes k ≡ false

-- what a cutter holds: the bytes of one segment, in a buffer with room for the greatest, and the value of the window
-- at their end where one is looked at
pub record IsHeld (bytes : List ℕ) (capacity value : ℕ) (whole : Bool) : Type 0 where
  pub room : MOST_SEGMENT ≤ capacity
  pub at_most : length bytes ≤ MOST_SEGMENT
  pub uncut : NoBoundary bytes (length bytes)
  pub not_empty : whole ≡ true → 0 < length bytes
  pub ongoing : whole ≡ false → NoBoundary bytes (length bytes + 1)
  pub rolled : whole ≡ false → LEAST_SEGMENT ≤ length bytes → value ≡ window_value (window_at bytes (length bytes))

-- the first window that hits, of those that end at `from` or later, ends at `end`; with no hit, `end` is the end of the bytes
pub record IsFirstHit (bytes : List ℕ) (from end value : ℕ) (hit : Bool) : Type 0 where
  pub after : from ≤ end
  pub within : end ≤ length bytes
  pub rolled : value ≡ window_value (window_at bytes end)
  pub misses : (k : ℕ) → from ≤ k → k < end → is_hit (window_at bytes k) ≡ false
  pub tested : hit ≡ is_hit (window_at bytes end)
  pub all : hit ≡ false → end ≡ length bytes

-- the first segment of the bytes ends at `end`; where it may go on after them, `end` is the end of the bytes
pub record IsCut (bytes : List ℕ) (seen end value : ℕ) (whole : Bool) : Type 0 where
  pub after : seen ≤ end
  pub within : end ≤ length bytes
  pub uncut : NoBoundary bytes end
  pub ended : whole ≡ true → (LEAST_SEGMENT ≤ end) × (is_boundary bytes end ≡ true)
  pub ongoing : whole ≡ false → (end ≡ length bytes) × NoBoundary bytes (length bytes + 1)
  pub rolled : whole ≡ false → LEAST_SEGMENT ≤ end → value ≡ window_value (window_at bytes end)
