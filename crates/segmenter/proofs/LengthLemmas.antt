-- How long the segments of a list are, and how many there are.
use Rattle.std.proofs.Common.{◌≡◌, ℕ, suc, zero, ◌+◌, ◌*◌, ◌≤◌, List, [], ◌∷◌, length, take, drop, refl, ap, ◌∙◌, arith, length-append}
use Rattle.std.specs.Prelude.{sum_by}
use Rattle.std.specs.List.{concat, AllByRecursion}
use Rattle.std.proofs.lemmas.List.{length-take-le, drop_all}
use Rattle.std.proofs.lemmas.List.Sums.{sum_by-cons}
use Rattle.std.proofs.Math.Seq.{take-length}
use Rattle.disk_format.specs.declared.numbers.TheConstants.{LEAST_SEGMENT}
use Rattle.segmenter.specs.Segments.{first_length, segments_up_to, segments_of, AllButLast, HasRightLength, ShortIsOne, HaveRightLengths, LengthsAddUp, AreFew}
use Rattle.segmenter.proofs.SegmentLemmas.{first_length-short, first_length-le, first_length-le_greatest, first_length-pos, segments_of-none, segments_of-first, segments_of-laws}

pub short_is_one : ShortIsOne
short_is_one bytes some few =
    segments_of-first bytes some
    ∙ ap (λ n. take n bytes ∷ segments_of (drop n bytes)) (first_length-short bytes few)
    ∙ ap (λ first. first ∷ segments_of (drop (length bytes) bytes)) (take-length bytes)
    ∙ ap (λ rest. bytes ∷ segments_of rest) (drop_all (length bytes) bytes (omega arith))
    ∙ ap (λ rest. bytes ∷ rest) segments_of-none

-- ---- their lengths

right_up_to : (count : ℕ) (bytes : List ℕ) → AllByRecursion HasRightLength (segments_up_to count bytes)
unfolding segments_up_to
right_up_to zero bytes = tt
right_up_to (suc count) [] = tt
right_up_to (suc count) (x ∷ xs) =
    let first : length (take (first_length (x ∷ xs)) (x ∷ xs)) ≡ first_length (x ∷ xs) =
    length-take-le (first_length (x ∷ xs)) (x ∷ xs) (first_length-le (x ∷ xs)) in (
      (
        omega (arith, first, first_length-pos (x ∷ xs) (omega arith)),
        omega (arith, first, first_length-le_greatest (x ∷ xs)),
      ),
      right_up_to count (drop (first_length (x ∷ xs)) (x ∷ xs)),
    )

pub have_right_lengths : HaveRightLengths
unfolding segments_of
have_right_lengths bytes = right_up_to (length bytes) bytes

length-together : (segments : List (List ℕ)) → sum_by length segments ≡ length (concat segments)
length-together [] = refl
length-together (segment ∷ rest) =
    omega (arith, sum_by-cons length segment rest, length-together rest, length-append segment (concat rest))

pub lengths_add_up : LengthsAddUp
lengths_add_up bytes = length-together (segments_of bytes) ∙ ap length (segments_of-laws bytes).together

-- ---- how many they are

-- each but the last has the least bytes
counted : (segments : List (List ℕ)) → AllButLast (λ segment. LEAST_SEGMENT ≤ length segment) segments →
    LEAST_SEGMENT * length segments ≤ sum_by length segments + LEAST_SEGMENT
counted [] each = omega arith
counted (segment ∷ []) each = omega (arith, sum_by-cons length segment [])
counted (segment ∷ next ∷ rest) each =
    omega (arith, sum_by-cons length segment (next ∷ rest), each.0, counted (next ∷ rest) each.1)

pub are_few : AreFew
are_few bytes h = omega (arith, h, lengths_add_up bytes, counted (segments_of bytes) (segments_of-laws bytes).at_least)
