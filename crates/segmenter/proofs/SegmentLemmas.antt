-- The first segment of a list, and the segments of the whole.
use Rattle.std.proofs.Common.{◌≡◌, ℕ, suc, zero, ◌+◌, ◌-◌, ◌<◌, ◌≤◌, Bool, true, false, ◌||◌, inl, inr, List, [], ◌∷◌, ◌++◌, length, take, drop, refl, sym, ap, ◌∙◌, arith, length-append, length-drop, add-zero}
use Rattle.std.specs.Prelude.{◌==◌, nat_le, cond}
use Rattle.std.specs.List.{concat, AllByRecursion}
use Rattle.std.proofs.lemmas.List.{length-take-le, take-append-le, take-append-drop, drop_all}
use Rattle.std.proofs.lemmas.List.Elements.{All-from_recursion}
use Rattle.std.proofs.lemmas.Bool.{le-leb, lt-leb, cases_lt}
use Rattle.std.proofs.Math.Seq.{take-append_seam, drop-append_seam, take-length}
use Rattle.disk_format.specs.declared.numbers.TheConstants.{LEAST_SEGMENT, MOST_SEGMENT}
use Rattle.segmenter.specs.Segments.{is_hit, window_at, is_boundary, first_from, first_length, segments_up_to, segments_of, AllButLast, IsSegmentation}
use Rattle.segmenter.specs.Cutting.{NoBoundary, IsFirstSegment}

-- what follows changes no boundary within the bytes
pub is_boundary-append : (bytes more : List ℕ) (n : ℕ) → n ≤ length bytes → is_boundary (bytes ++ more) n ≡ is_boundary bytes n
unfolding is_boundary window_at
is_boundary-append bytes more n h =
    ap (λ front. (n == MOST_SEGMENT) || is_hit (drop (n - 48) front)) (take-append-le n bytes more h)

-- the greatest length is a boundary
pub is_boundary-greatest : (bytes : List ℕ) → is_boundary bytes MOST_SEGMENT ≡ true
unfolding is_boundary
is_boundary-greatest bytes = refl

-- ---- the least number that passes a test

module _ (test : ℕ → Bool) where
  pub first_from-none : (count n : ℕ) → ((k : ℕ) → n ≤ k → k < n + count → test k ≡ false) → first_from test n count ≡ n + count
  unfolding first_from
  first_from-none zero n none = sym (add-zero n)
  first_from-none (suc count) n none =
      let here : test n ≡ false = none n (omega arith) (omega arith) in
      let rest : first_from test (n + 1) count ≡ n + 1 + count =
      first_from-none count (n + 1) (λ k low high. none k (omega arith) (omega arith)) in
      rw here (omega (arith, rest))

  pub first_from-at : (count n d : ℕ) → d < count → ((k : ℕ) → n ≤ k → k < n + d → test k ≡ false) → test (n + d) ≡ true →
      first_from test n count ≡ n + d
  unfolding first_from
  first_from-at zero n d inside none found = absurd (omega arith)
  first_from-at (suc count) n zero inside none found =
      let here : test n ≡ true = ap test (sym (add-zero n)) ∙ found in
      rw here (omega arith)
  first_from-at (suc count) n (suc d) inside none found =
      let here : test n ≡ false = none n (omega arith) (omega arith) in
      let same : n + suc d ≡ n + 1 + d = omega arith in
      let there : test (n + 1 + d) ≡ true = ap test (sym same) ∙ found in
      let rest : first_from test (n + 1) count ≡ n + 1 + d =
      first_from-at count (n + 1) d (omega arith) (λ k low high. none k (omega arith) (omega arith)) there in
      rw here (omega (arith, rest))

  pub first_from-low : (count n : ℕ) → n ≤ first_from test n count
  unfolding first_from
  first_from-low zero n = omega arith
  first_from-low (suc count) n =
      elim (test n) as (λ found. n ≤ cond found n (first_from test (n + 1) count))
      [ true ↦ omega arith | false ↦ omega (arith, first_from-low count (n + 1)) ]

  pub first_from-high : (count n : ℕ) → first_from test n count ≤ n + count
  unfolding first_from
  first_from-high zero n = omega arith
  first_from-high (suc count) n =
      elim (test n) as (λ found. cond found n (first_from test (n + 1) count) ≤ n + suc count)
      [ true ↦ omega arith | false ↦ omega (arith, first_from-high count (n + 1)) ]

  -- it isn't past a number that passes
  pub first_from-le : (count n d : ℕ) → test (n + d) ≡ true → first_from test n count ≤ n + d
  unfolding first_from
  first_from-le zero n d passes = omega arith
  first_from-le (suc count) n zero passes =
      let here : test n ≡ true = ap test (sym (add-zero n)) ∙ passes in
      rw here (omega arith)
  first_from-le (suc count) n (suc d) passes =
      let same : n + suc d ≡ n + 1 + d = omega arith in
      let there : test (n + 1 + d) ≡ true = ap test (sym same) ∙ passes in
      let rest : first_from test (n + 1) count ≤ n + 1 + d = first_from-le count (n + 1) d there in
      elim (test n) as (λ found. cond found n (first_from test (n + 1) count) ≤ n + suc d)
      [ true ↦ omega arith | false ↦ omega (arith, rest) ]

-- ---- the length of the first segment

module _ (bytes : List ℕ) where
  pub first_length-short : length bytes ≤ LEAST_SEGMENT → first_length bytes ≡ length bytes
  unfolding first_length
  first_length-short h = let short : nat_le (length bytes) LEAST_SEGMENT ≡ true = le-leb (length bytes) LEAST_SEGMENT h in rw short refl

  pub first_length-long : LEAST_SEGMENT < length bytes → first_length bytes ≡ first_from (is_boundary bytes) LEAST_SEGMENT (length bytes - LEAST_SEGMENT)
  unfolding first_length
  first_length-long h = let long : nat_le (length bytes) LEAST_SEGMENT ≡ false = lt-leb (length bytes) LEAST_SEGMENT h in rw long refl

  pub first_length-le : first_length bytes ≤ length bytes
  first_length-le =
      elim (cases_lt LEAST_SEGMENT (length bytes)) [
        | inl long ↦ omega (arith, first_length-long long, first_from-high (is_boundary bytes) (length bytes - LEAST_SEGMENT) LEAST_SEGMENT)
        | inr short ↦ omega (arith, first_length-short short)
      ]

  pub first_length-le_greatest : first_length bytes ≤ MOST_SEGMENT
  first_length-le_greatest =
      elim (cases_lt LEAST_SEGMENT (length bytes)) [
        | inl long ↦ omega (
          arith,
          first_length-long long,
          first_from-le (is_boundary bytes) (length bytes - LEAST_SEGMENT) LEAST_SEGMENT 14336 (is_boundary-greatest bytes),
        )
        | inr short ↦ omega (arith, first_length-short short)
      ]

  pub first_length-pos : 0 < length bytes → 0 < first_length bytes
  first_length-pos h =
      elim (cases_lt LEAST_SEGMENT (length bytes)) [
        | inl long ↦ omega (arith, first_length-long long, first_from-low (is_boundary bytes) (length bytes - LEAST_SEGMENT) LEAST_SEGMENT)
        | inr short ↦ omega (arith, first_length-short short)
      ]

  -- a segment that isn't the last has at least 2,048 bytes
  pub first_length-least : first_length bytes < length bytes → LEAST_SEGMENT ≤ first_length bytes
  first_length-least h =
      elim (cases_lt LEAST_SEGMENT (length bytes)) [
        | inl long ↦ omega (arith, first_length-long long, first_from-low (is_boundary bytes) (length bytes - LEAST_SEGMENT) LEAST_SEGMENT)
        | inr short ↦ omega (arith, first_length-short short)
      ]

  -- bytes with no boundary before their end are one segment
  pub first_length-rest : NoBoundary bytes (length bytes) → first_length bytes ≡ length bytes
  first_length-rest uncut =
      elim (cases_lt LEAST_SEGMENT (length bytes)) [
        | inl long ↦ omega (
          arith,
          first_length-long long,
          first_from-none (is_boundary bytes) (length bytes - LEAST_SEGMENT) LEAST_SEGMENT (λ k low high. uncut k low (omega arith)),
        )
        | inr short ↦ first_length-short short
      ]

-- the first segment ends at the first boundary
pub first_length-at : (bytes : List ℕ) (n : ℕ) → LEAST_SEGMENT ≤ n → n < length bytes → NoBoundary bytes n → is_boundary bytes n ≡ true →
    first_length bytes ≡ n
first_length-at bytes n least inside uncut ends =
    let same : LEAST_SEGMENT + (n - LEAST_SEGMENT) ≡ n = omega arith in
    let ending : is_boundary bytes (LEAST_SEGMENT + (n - LEAST_SEGMENT)) ≡ true = ap (is_boundary bytes) same ∙ ends in
    first_length-long bytes (omega arith)
    ∙ first_from-at (is_boundary bytes) (length bytes - LEAST_SEGMENT) LEAST_SEGMENT (n - LEAST_SEGMENT) (omega arith) (λ k low high. uncut k low (omega arith)) ending
    ∙ same

-- up to their first boundary bytes are the first segment of whatever they begin
module _ (bytes more : List ℕ) (uncut : NoBoundary bytes (length bytes)) (least : LEAST_SEGMENT ≤ length bytes)
    (ends : is_boundary bytes (length bytes) ≡ true) where
  within : (k : ℕ) → LEAST_SEGMENT ≤ k → k < length bytes → is_boundary (bytes ++ more) k ≡ false
  within k low high = is_boundary-append bytes more k (omega arith) ∙ uncut k low high

  pub first_length-append : first_length (bytes ++ more) ≡ length bytes
  first_length-append =
      let joined : length (bytes ++ more) ≡ length bytes + length more = length-append bytes more in
      elim (cases_lt (length bytes) (length (bytes ++ more))) [
        | inl longer ↦
            first_length-at (bytes ++ more) (length bytes) least longer within
            (is_boundary-append bytes more (length bytes) (omega arith) ∙ ends)
        | inr short ↦
            omega (arith, first_length-rest (bytes ++ more) (λ k low high. within k low (omega arith)))
      ]

-- ---- the segments

-- a count as large as the number of bytes is enough
segments_up_to-enough : (m n : ℕ) (bytes : List ℕ) → length bytes ≤ m → length bytes ≤ n → segments_up_to m bytes ≡ segments_up_to n bytes
unfolding segments_up_to
segments_up_to-enough zero zero bytes p q = refl
segments_up_to-enough zero (suc n) [] p q = refl
segments_up_to-enough zero (suc n) (x ∷ xs) p q = absurd (omega arith)
segments_up_to-enough (suc m) zero [] p q = refl
segments_up_to-enough (suc m) zero (x ∷ xs) p q = absurd (omega arith)
segments_up_to-enough (suc m) (suc n) [] p q = refl
segments_up_to-enough (suc m) (suc n) (x ∷ xs) p q =
    let some : 0 < first_length (x ∷ xs) = first_length-pos (x ∷ xs) (omega arith) in
    let left : length (drop (first_length (x ∷ xs)) (x ∷ xs)) ≡ length (x ∷ xs) - first_length (x ∷ xs) =
    length-drop (first_length (x ∷ xs)) (x ∷ xs) in
    ap (λ rest. take (first_length (x ∷ xs)) (x ∷ xs) ∷ rest)
    (segments_up_to-enough m n (drop (first_length (x ∷ xs)) (x ∷ xs)) (omega arith) (omega arith))

pub segments_of-none : segments_of [] ≡ []
unfolding segments_of segments_up_to
segments_of-none = refl

-- a list that isn't empty begins with its first segment
pub segments_of-first : (bytes : List ℕ) → 0 < length bytes →
    segments_of bytes ≡ take (first_length bytes) bytes ∷ segments_of (drop (first_length bytes) bytes)
unfolding segments_of segments_up_to
segments_of-first [] h = absurd (omega arith)
segments_of-first (x ∷ xs) h =
    let some : 0 < first_length (x ∷ xs) = first_length-pos (x ∷ xs) h in
    let left : length (drop (first_length (x ∷ xs)) (x ∷ xs)) ≡ length (x ∷ xs) - first_length (x ∷ xs) =
    length-drop (first_length (x ∷ xs)) (x ∷ xs) in
    ap (λ rest. take (first_length (x ∷ xs)) (x ∷ xs) ∷ rest)
    (segments_up_to-enough (length xs) (length (drop (first_length (x ∷ xs)) (x ∷ xs))) (drop (first_length (x ∷ xs)) (x ∷ xs))
    (omega arith) (omega arith))

-- bytes with no boundary before their end are one segment
pub segments_of-rest : (bytes : List ℕ) → 0 < length bytes → NoBoundary bytes (length bytes) → segments_of bytes ≡ bytes ∷ []
segments_of-rest bytes h uncut =
    let all : first_length bytes ≡ length bytes = first_length-rest bytes uncut in
    segments_of-first bytes h
    ∙ ap (λ n. take n bytes ∷ segments_of (drop n bytes)) all
    ∙ ap (λ first. first ∷ segments_of (drop (length bytes) bytes)) (take-length bytes)
    ∙ ap (λ rest. bytes ∷ segments_of rest) (drop_all (length bytes) bytes (omega arith))
    ∙ ap (λ rest. bytes ∷ rest) segments_of-none

-- up to their first boundary bytes are the first segment of whatever they begin
pub first_segment : (bytes : List ℕ) → NoBoundary bytes (length bytes) → LEAST_SEGMENT ≤ length bytes → is_boundary bytes (length bytes) ≡ true →
    IsFirstSegment bytes
first_segment bytes uncut least ends = record {
  first = λ more.
      let joined : length (bytes ++ more) ≡ length bytes + length more = length-append bytes more in
      segments_of-first (bytes ++ more) (omega arith)
      ∙ ap (λ n. take n (bytes ++ more) ∷ segments_of (drop n (bytes ++ more))) (first_length-append bytes more uncut least ends)
      ∙ ap (λ first. first ∷ segments_of (drop (length bytes) (bytes ++ more))) (take-append_seam bytes more)
      ∙ ap (λ rest. bytes ∷ segments_of rest) (drop-append_seam bytes more);
}

-- ---- what every segmentation has

together_up_to : (count : ℕ) (bytes : List ℕ) → length bytes ≤ count → concat (segments_up_to count bytes) ≡ bytes
unfolding segments_up_to
together_up_to zero [] h = refl
together_up_to zero (x ∷ xs) h = absurd (omega arith)
together_up_to (suc count) [] h = refl
together_up_to (suc count) (x ∷ xs) h =
    let some : 0 < first_length (x ∷ xs) = first_length-pos (x ∷ xs) (omega arith) in
    let left : length (drop (first_length (x ∷ xs)) (x ∷ xs)) ≡ length (x ∷ xs) - first_length (x ∷ xs) =
    length-drop (first_length (x ∷ xs)) (x ∷ xs) in
    ap (λ rest. take (first_length (x ∷ xs)) (x ∷ xs) ++ rest)
    (together_up_to count (drop (first_length (x ∷ xs)) (x ∷ xs)) (omega arith))
    ∙ take-append-drop (first_length (x ∷ xs)) (x ∷ xs)

length-first : (bytes : List ℕ) → length (take (first_length bytes) bytes) ≡ first_length bytes
length-first bytes = length-take-le (first_length bytes) bytes (first_length-le bytes)

not_empty_up_to : (count : ℕ) (bytes : List ℕ) → AllByRecursion (λ segment. 0 < length segment) (segments_up_to count bytes)
unfolding segments_up_to
not_empty_up_to zero bytes = tt
not_empty_up_to (suc count) [] = tt
not_empty_up_to (suc count) (x ∷ xs) = (
  omega (arith, length-first (x ∷ xs), first_length-pos (x ∷ xs) (omega arith)),
  not_empty_up_to count (drop (first_length (x ∷ xs)) (x ∷ xs)),
)

at_most_up_to : (count : ℕ) (bytes : List ℕ) → AllByRecursion (λ segment. length segment ≤ MOST_SEGMENT) (segments_up_to count bytes)
unfolding segments_up_to
at_most_up_to zero bytes = tt
at_most_up_to (suc count) [] = tt
at_most_up_to (suc count) (x ∷ xs) = (
  omega (arith, length-first (x ∷ xs), first_length-le_greatest (x ∷ xs)),
  at_most_up_to count (drop (first_length (x ∷ xs)) (x ∷ xs)),
)

AllButLast-cons : (P : List ℕ → Type 0) (segment : List ℕ) (rest : List (List ℕ)) → (0 < length rest → P segment) → AllButLast P rest →
    AllButLast P (segment ∷ rest)
AllButLast-cons P segment [] first others = tt
AllButLast-cons P segment (next ∷ rest) first others = (first (omega arith), others)

-- where there is another segment, there are more bytes
more_bytes : (count : ℕ) (bytes : List ℕ) → 0 < length (segments_up_to count bytes) → 0 < length bytes
unfolding segments_up_to
more_bytes zero bytes h = absurd (omega arith)
more_bytes (suc count) [] h = absurd (omega arith)
more_bytes (suc count) (x ∷ xs) h = omega arith

at_least_up_to : (count : ℕ) (bytes : List ℕ) → AllButLast (λ segment. LEAST_SEGMENT ≤ length segment) (segments_up_to count bytes)
unfolding segments_up_to
at_least_up_to zero bytes = tt
at_least_up_to (suc count) [] = tt
at_least_up_to (suc count) (x ∷ xs) =
    AllButLast-cons (λ segment. LEAST_SEGMENT ≤ length segment) (take (first_length (x ∷ xs)) (x ∷ xs))
    (segments_up_to count (drop (first_length (x ∷ xs)) (x ∷ xs)))
    (λ another.
    let more : 0 < length (drop (first_length (x ∷ xs)) (x ∷ xs)) =
    more_bytes count (drop (first_length (x ∷ xs)) (x ∷ xs)) another in
    let left : length (drop (first_length (x ∷ xs)) (x ∷ xs)) ≡ length (x ∷ xs) - first_length (x ∷ xs) =
    length-drop (first_length (x ∷ xs)) (x ∷ xs) in
    omega (arith, length-first (x ∷ xs), first_length-least (x ∷ xs) (omega arith)))
    (at_least_up_to count (drop (first_length (x ∷ xs)) (x ∷ xs)))

pub segments_of-laws : (bytes : List ℕ) → IsSegmentation bytes (segments_of bytes)
unfolding segments_of
segments_of-laws bytes = record {
  together = together_up_to (length bytes) bytes (omega arith);
  not_empty = All-from_recursion (λ segment. 0 < length segment) (segments_up_to (length bytes) bytes) (not_empty_up_to (length bytes) bytes);
  at_most = All-from_recursion (λ segment. length segment ≤ MOST_SEGMENT) (segments_up_to (length bytes) bytes) (at_most_up_to (length bytes) bytes);
  at_least = at_least_up_to (length bytes) bytes;
}
