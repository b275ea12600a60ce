-- Bytes are cut in one way into segments and a hand in which none ends.
use Rattle.ingest_session.proofs.Prelude.{◌≡◌, ◌<◌, ◌+◌, ◌-◌, ◌∙◌, ℕ, zero, suc, Bool, true, false, List, [], ◌∷◌, ◌++◌, length, take, refl, sym, ap, arith, append-nil, append_assoc, length-append, length-take-le, LEAST_SEGMENT, segments_of, Hand, HasCut, HasCut-finish, IsCutInto, IsUncut}
use Rattle.std.proofs.Common.{if◌then◌else◌}
use Rattle.std.proofs.lemmas.Bool.{and_from, le-leb}
use Rattle.std.proofs.lemmas.List.{append_cancel_left, same_from_push}
use Rattle.segmenter.specs.Segments.{first_from, first_length, is_boundary}
use Rattle.segmenter.specs.Cutting.{ends_segment}
use Rattle.segmenter.proofs.SegmentLemmas.{first_length-le, first_length-least, first_length-long, is_boundary-append, segments_of-first, segments_of-none}
use Rattle.ingest_session.proofs.Waiting.{on_and_off}

-- ---- where a segment ends

passes_if : (test : ℕ → Bool) (n count : ℕ) (here : Bool) → test n ≡ here
    → (first_from test (n + 1) count < n + 1 + count → test (first_from test (n + 1) count) ≡ true)
    → (if here then n else first_from test (n + 1) count) < n + suc count → test (if here then n else first_from test (n + 1) count) ≡ true
passes_if test n count true is later within = is
passes_if test n count false is later within = later (omega (arith, within))

-- the number that is found passes the test
first_passes : (test : ℕ → Bool) (count n : ℕ) → first_from test n count < n + count → test (first_from test n count) ≡ true
unfolding first_from
first_passes test zero n within = absurd (omega (arith, within))
first_passes test (suc count) n within = passes_if test n count (test n) refl (first_passes test count (n + 1)) within

-- where bytes are the first segment of more, a segment ends with them
first_ends : (bytes : List ℕ) (x : ℕ) → first_length (bytes ++ x ∷ []) ≡ length bytes → ends_segment bytes ≡ true
unfolding ends_segment
first_ends bytes x first =
    let long = length-append bytes (x ∷ []) in
    let least = first_length-least (bytes ++ x ∷ []) (omega (arith, first, long)) in
    let found = sym (first_length-long (bytes ++ x ∷ []) (omega (arith, least, first, long))) ∙ first in
    let passes = first_passes (is_boundary (bytes ++ x ∷ [])) (length (bytes ++ x ∷ []) - LEAST_SEGMENT) LEAST_SEGMENT (omega (arith, found, long, least, first)) in
    let ends : is_boundary (bytes ++ x ∷ []) (length bytes) ≡ true = ap (is_boundary (bytes ++ x ∷ [])) (sym found) ∙ passes in
    and_from _ _ (le-leb LEAST_SEGMENT (length bytes) (omega (arith, least, first)))
    (sym (is_boundary-append bytes (x ∷ []) (length bytes) (omega arith)) ∙ ends)

head_is : (x y : List ℕ) (xs ys : List (List ℕ)) → x ∷ xs ≡ y ∷ ys → x ≡ y
head_is x y xs ys is = cc

-- a hand that goes on is not the first segment of what follows
goes_on : (bytes : List ℕ) → ends_segment bytes ≡ false → ((more : List ℕ) → segments_of (bytes ++ more) ≡ bytes ∷ segments_of more) → ⊥
goes_on bytes open_end first =
    let all = bytes ++ 0 ∷ [] in
    let long = length-append bytes (0 ∷ []) in
    let cut = sym (segments_of-first all (omega (arith, long))) ∙ first (0 ∷ []) in
    let same = ap length (head_is (take (first_length all) all) bytes _ _ cut) in
    let within = length-take-le (first_length all) all (first_length-le all) in
    on_and_off (ends_segment bytes) (first_ends bytes 0 (sym within ∙ same)) open_end

-- ---- both hands

-- one hand is empty, and one is not
one_more : (given : List ℕ) (ones others : List (List ℕ)) (hand other : Hand) → HasCut given ones hand → HasCut given others other
    → hand.bytes ≡ [] → segments_of other.bytes ≡ other.bytes ∷ [] → ends_segment other.bytes ≡ false → ⊥
one_more given ones others hand other one two empty whole open_end =
    let cut : ones ≡ others ++ other.bytes ∷ [] =
    sym (append-nil ones)
    ∙ ap (λ (ss : List (List ℕ)). ones ++ ss) (sym segments_of-none ∙ ap segments_of (sym empty))
    ∙ sym (HasCut-finish given ones hand one)
    ∙ HasCut-finish given others other two
    ∙ ap (λ (ss : List (List ℕ)). others ++ ss) whole in
    goes_on other.bytes open_end
    (λ more.
    append_cancel_left others (segments_of (other.bytes ++ more)) (other.bytes ∷ segments_of more)
    (sym (two.first more)
    ∙ one.first more
    ∙ ap (λ (b : List ℕ). ones ++ segments_of (b ++ more)) empty
    ∙ ap (λ (ss : List (List ℕ)). ss ++ segments_of more) cut
    ∙ append_assoc others (other.bytes ∷ []) (segments_of more)))

module _ (given : List ℕ) (ones others : List (List ℕ)) (hand other : Hand) (one : HasCut given ones hand) (two : HasCut given others other)
    (first : IsUncut hand) (second : IsUncut other) where
  whole_is : (h : Hand) → IsUncut h → (x : ℕ) (xs : List ℕ) → h.bytes ≡ x ∷ xs → segments_of h.bytes ≡ h.bytes ∷ []
  whole_is h is x xs some = is.0.one (let long = ap length some in omega (arith, long))

  ends_alike : segments_of hand.bytes ≡ [] → segments_of other.bytes ≡ [] → ones ≡ others
  ends_alike none nothing =
      sym (append-nil ones)
      ∙ ap (λ (ss : List (List ℕ)). ones ++ ss) (sym none)
      ∙ sym (HasCut-finish given ones hand one)
      ∙ HasCut-finish given others other two
      ∙ ap (λ (ss : List (List ℕ)). others ++ ss) nothing
      ∙ append-nil others

  cut_by : (b d : List ℕ) → hand.bytes ≡ b → other.bytes ≡ d → ones ≡ others
  cut_by [] [] none nothing = ends_alike (ap segments_of none ∙ segments_of-none) (ap segments_of nothing ∙ segments_of-none)
  cut_by [] (y ∷ ys) none some = absurd (one_more given ones others hand other one two none (whole_is other second y ys some) second.1)
  cut_by (x ∷ xs) [] some none = absurd (one_more given others ones other hand two one none (whole_is hand first x xs some) first.1)
  cut_by (x ∷ xs) (y ∷ ys) some more =
      (same_from_push ones others hand.bytes other.bytes
      (ap (λ (ss : List (List ℕ)). ones ++ ss) (sym (whole_is hand first x xs some))
      ∙ sym (HasCut-finish given ones hand one)
      ∙ HasCut-finish given others other two
      ∙ ap (λ (ss : List (List ℕ)). others ++ ss) (whole_is other second y ys more))).0

  pub cut_once : ones ≡ others
  cut_once = cut_by hand.bytes other.bytes refl refl

-- the same bytes in two sessions, before the end or after it
pub cut_alike : (ended : Bool) (given : List ℕ) (ones others : List (List ℕ)) (hand other : Hand) → IsCutInto ended given ones hand
    → IsCutInto ended given others other → IsUncut hand → IsUncut other → ones ≡ others
cut_alike true given ones others hand other one two first second = sym one.0 ∙ two.0
cut_alike false given ones others hand other one two first second = cut_once given ones others hand other one two first second
