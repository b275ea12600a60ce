-- The content-defined segmentation of a list of bytes (docs/FORMAT.md, "Segmenting").
use Rattle.std.specs.Prelude.{◌≡◌, ℕ, suc, zero, ◌+◌, ◌-◌, ◌*◌, ◌/◌, ◌%◌, ◌^◌, ◌≤◌, ◌<◌, Bool, ◌==◌, ◌||◌, nat_le, if◌then◌else◌, List, [], ◌∷◌, length, take, drop, All, sum_by}
use Rattle.std.specs.List.{concat, AllByRecursion}
use Rattle.disk_format.specs.declared.numbers.TheConstants.{LEAST_SEGMENT, MOST_SEGMENT, MOST_FILE, MOST_CHILDREN, MOST_LEVEL}

-- the sum of the bytes, each times the multiplier to the power of how many bytes follow it: of a window of 48, the
-- byte at i is multiplied by the multiplier to the power of 47 - i
unfoldable pub weighted_sum : List ℕ → ℕ
weighted_sum [] = 0
weighted_sum (byte ∷ rest) = byte * 0x9E3779B97F4A7C15 ^ length rest + weighted_sum rest

-- the value of a window of 48 bytes: that sum modulo 2^64
unfoldable pub window_value : List ℕ → ℕ
window_value window = weighted_sum window % 2 ^ 64

-- a window hits where the top 12 of the 64 bits of its value are all ones
unfoldable pub is_hit : List ℕ → Bool
is_hit window = (window_value window / 2 ^ 52) == 4095

-- the window that ends after n bytes: the last 48 of the first n
unfoldable pub window_at : List ℕ → ℕ → List ℕ
window_at bytes n = drop (n - 48) (take n bytes)

-- a segment of at least 2,048 bytes ends after n bytes: it is of the greatest length, or the window there hits
unfoldable pub is_boundary : List ℕ → ℕ → Bool
is_boundary bytes n = (n == MOST_SEGMENT) || is_hit (window_at bytes n)

-- the least of the `count` numbers from n on that pass the test, and n + count where none of them does
unfoldable pub first_from : (ℕ → Bool) → ℕ → ℕ → ℕ
first_from test n zero = n
first_from test n (suc count) = if test n then n else first_from test (n + 1) count

-- the length of the first segment: all bytes where they are at most 2,048, and else up to the first boundary from
-- 2,048 on, or up to the end where there is none
unfoldable pub first_length : List ℕ → ℕ
first_length bytes =
    if nat_le (length bytes) LEAST_SEGMENT then length bytes
    else first_from (is_boundary bytes) LEAST_SEGMENT (length bytes - LEAST_SEGMENT)

-- the first segments, at most `count` of them: a segment, and then the segments of what follows it
unfoldable pub segments_up_to : ℕ → List ℕ → List (List ℕ)
segments_up_to zero bytes = []
segments_up_to (suc count) [] = []
segments_up_to (suc count) (byte ∷ rest) =
    take (first_length (byte ∷ rest)) (byte ∷ rest) ∷ segments_up_to count (drop (first_length (byte ∷ rest)) (byte ∷ rest))

-- the segments of a list: there are never more of them than bytes, since none is empty
unfoldable pub segments_of : List ℕ → List (List ℕ)
segments_of bytes = segments_up_to (length bytes) bytes

-- each but the last has the property
abbrev pub AllButLast : (List ℕ → Type 0) → List (List ℕ) → Type 0
AllButLast P [] = Unit {0}
AllButLast P (segment ∷ []) = Unit {0}
AllButLast P (segment ∷ next ∷ rest) = P segment × AllButLast P (next ∷ rest)

-- these segments are the bytes, cut into lengths that the format allows
pub record IsSegmentation (bytes : List ℕ) (segments : List (List ℕ)) : Type 0 where
  pub together : concat segments ≡ bytes
  pub not_empty : All (λ segment. 0 < length segment) segments
  pub at_most : All (λ segment. length segment ≤ MOST_SEGMENT) segments
  pub at_least : AllButLast (λ segment. LEAST_SEGMENT ≤ length segment) segments

-- ---- what every segmentation has, where a tree is built over it

-- a segment isn't empty, and has at most the greatest length
abbrev pub HasRightLength : List ℕ → Type 0
HasRightLength segment = (1 ≤ length segment) × (length segment ≤ MOST_SEGMENT)

-- Bytes that are no more than the least segment has are one.
abbrev pub ShortIsOne : Type 0
ShortIsOne = (bytes : List ℕ) → 0 < length bytes → length bytes ≤ LEAST_SEGMENT → segments_of bytes ≡ bytes ∷ []

abbrev pub HaveRightLengths : Type 0
HaveRightLengths = (bytes : List ℕ) → AllByRecursion HasRightLength (segments_of bytes)

abbrev pub LengthsAddUp : Type 0
LengthsAddUp = (bytes : List ℕ) → sum_by length (segments_of bytes) ≡ length bytes

-- The greatest file has no more segments than a tree of the most levels has room for.
abbrev pub AreFew : Type 0
AreFew = (bytes : List ℕ) → length bytes ≤ MOST_FILE → length (segments_of bytes) ≤ MOST_CHILDREN ^ MOST_LEVEL
