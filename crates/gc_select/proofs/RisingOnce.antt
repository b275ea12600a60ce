-- Numbers, the lowest first: the list has the same numbers, they do not fall, and it is the only such list.
use Rattle.std.proofs.Common.{◌≡◌, inl, inr, ℕ, zero, suc, ◌+◌, ◌<◌, ◌≤◌, true, false, cond, List, [], ◌∷◌, refl, sym, ap, subst, ◌∙◌, arith}
use Rattle.std.specs.Prelude.{nat_lt, ◌==◌, if◌then◌else◌}
use Rattle.std.specs.List.{All, sum_by}
use Rattle.std.specs.List.Sorted.{IsPermutation, IsNonDecreasing}
use Rattle.std.proofs.lemmas.Bool.{ltb-true, ltb-false, cases_lt}
use Rattle.std.proofs.lemmas.List.Elements.{All-nil, All-cons, All-head, All-weaker}
use Rattle.std.proofs.lemmas.List.Sums.{sum_by-cons}
use Rattle.std.proofs.lemmas.List.Sorted.{IsPermutation-refl, IsPermutation-sym, IsPermutation-trans, IsPermutation-cons, IsPermutation-middle, IsNonDecreasingBy-drop, sum_by-IsPermutation}
use Rattle.gc_select.specs.Rising.{among, rising}

-- ---- the same numbers

moved_among : (n : ℕ) (ms : List ℕ) → IsPermutation (n ∷ ms) (among n ms)
moved_among n [] = IsPermutation-refl (n ∷ [])
moved_among n (m ∷ ms) =
    elim (nat_lt m n) as (λ b. IsPermutation (n ∷ m ∷ ms) (if b then m ∷ among n ms else n ∷ m ∷ ms)) [
      | true ↦ IsPermutation-trans (n ∷ m ∷ ms) (m ∷ n ∷ ms) (m ∷ among n ms)
          (IsPermutation-sym (m ∷ n ∷ ms) (n ∷ m ∷ ms) (IsPermutation-middle (m ∷ []) n ms)) (IsPermutation-cons m (n ∷ ms) (among n ms) (moved_among n ms))
      | false ↦ IsPermutation-refl (n ∷ m ∷ ms)
    ]

pub rising_moves : (ns : List ℕ) → IsPermutation ns (rising ns)
rising_moves [] = IsPermutation-refl []
rising_moves (n ∷ ns) = IsPermutation-trans (n ∷ ns) (n ∷ rising ns) (among n (rising ns)) (IsPermutation-cons n ns (rising ns) (rising_moves ns)) (moved_among n (rising ns))

-- ---- they do not fall

-- from a number on
abbrev Climbs : ℕ → List ℕ → Type 0
Climbs low [] = Unit {0}
Climbs low (n ∷ ns) = (low ≤ n) × Climbs n ns

climbs_among : (low n : ℕ) (ms : List ℕ) → low ≤ n → Climbs low ms → Climbs low (among n ms)
climbs_among low n [] above climbs = (above, tt)
climbs_among low n (m ∷ ms) above climbs =
    elim (nat_lt m n) as (λ b. nat_lt m n ≡ b → Climbs low (if b then m ∷ among n ms else n ∷ m ∷ ms)) [
      | true ↦ λ lower. (climbs.0, climbs_among m n ms (omega (arith, ltb-true m n lower)) climbs.1)
      | false ↦ λ not_lower. (above, (omega (arith, ltb-false m n not_lower), climbs.1))
    ] refl

rising_climbs : (ns : List ℕ) → Climbs 0 (rising ns)
rising_climbs [] = tt
rising_climbs (n ∷ ns) = climbs_among 0 n (rising ns) (omega arith) (rising_climbs ns)

at_least : (low : ℕ) (ns : List ℕ) → Climbs low ns → All (λ n. low ≤ n) ns
at_least low [] climbs = All-nil _
at_least low (n ∷ ns) climbs = All-cons (λ m. low ≤ m) n ns climbs.0
    (All-weaker (λ m. n ≤ m) (λ m. low ≤ m) (λ m above. omega (arith, above, climbs.0)) ns (at_least n ns climbs.1))

climbs_order : (low : ℕ) (ns : List ℕ) → Climbs low ns → IsNonDecreasing ns
climbs_order low [] climbs i j d le within = absurd (omega (arith, within))
climbs_order low (n ∷ ns) climbs zero zero d le within = omega arith
climbs_order low (n ∷ ns) climbs zero (suc j) d le within = at_least n ns climbs.1 j d (omega (arith, within))
climbs_order low (n ∷ ns) climbs (suc i) zero d le within = absurd (omega (arith, le))
climbs_order low (n ∷ ns) climbs (suc i) (suc j) d le within = climbs_order n ns climbs.1 i j d (omega (arith, le)) (omega (arith, within))

pub rising_order : (ns : List ℕ) → IsNonDecreasing (rising ns)
rising_order ns = climbs_order 0 (rising ns) (rising_climbs ns)

order_climbs : (low : ℕ) (ns : List ℕ) → All (λ n. low ≤ n) ns → IsNonDecreasing ns → Climbs low ns
order_climbs low [] above order = tt
order_climbs low (n ∷ ns) above order = (
  All-head (λ m. low ≤ m) n ns above,
  order_climbs n ns (λ k d lt. order 0 (suc k) d (omega arith) (omega arith)) (IsNonDecreasingBy-drop (λ m. m) 1 (n ∷ ns) order),
)

-- ---- one list alone

-- how often a number stands in a list
abbrev count_of : ℕ → List ℕ → ℕ
count_of t ns = sum_by (λ n. cond (n == t) 1 0) ns

count_first : (n : ℕ) (ns : List ℕ) → count_of n (n ∷ ns) ≡ 1 + count_of n ns
count_first n ns = sum_by-cons (λ m. cond (m == n) 1 0) n ns ∙ grind arith

count_none : (t low : ℕ) (ns : List ℕ) → t < low → Climbs low ns → count_of t ns ≡ 0
count_none t low [] less climbs = refl
count_none t low (n ∷ ns) less climbs = sum_by-cons (λ m. cond (m == t) 1 0) n ns ∙ grind (arith, less, climbs.0, count_none t n ns (omega (arith, less, climbs.0)) climbs.1)

-- the first of one list is not lower than that of the other
not_lower : (m n : ℕ) (ms ns : List ℕ) → Climbs n ns → count_of m (m ∷ ms) ≡ count_of m (n ∷ ns) → n ≤ m
not_lower m n ms ns climbs same =
    elim (cases_lt m n) [
      | inl less ↦ absurd (omega (arith, count_first m ms, same, count_none m n (n ∷ ns) less (omega arith, climbs)))
      | inr above ↦ above
    ]

climbs_once : (low : ℕ) (ms ns : List ℕ) → Climbs low ms → Climbs low ns → ((t : ℕ) → count_of t ms ≡ count_of t ns) → ms ≡ ns
climbs_once low [] [] one other same = refl
climbs_once low [] (n ∷ ns) one other same = absurd (omega (arith, same n, count_first n ns))
climbs_once low (m ∷ ms) [] one other same = absurd (omega (arith, same m, count_first m ms))
climbs_once low (m ∷ ms) (n ∷ ns) one other same =
    let first : m ≡ n = omega (arith, not_lower m n ms ns other.1 (same m), not_lower n m ns ms one.1 (sym (same n))) in
    let counts : (t : ℕ) → count_of t ms ≡ count_of t ns =
    λ t. omega (arith, sum_by-cons (λ k. cond (k == t) 1 0) m ms, sum_by-cons (λ k. cond (k == t) 1 0) n ns, same t, ap {B = ℕ} (λ k. cond (k == t) 1 0) first) in
    let rest : ms ≡ ns = climbs_once m ms ns one.1 (subst (λ k. Climbs k ns) (sym first) other.1) counts in
    ap (λ k. k ∷ ms) first ∙ ap (λ ks. n ∷ ks) rest

pub rising_once : (ns ms : List ℕ) → IsPermutation ns ms → IsNonDecreasing ms → ms ≡ rising ns
rising_once ns ms moved order =
    let moves = IsPermutation-trans ms ns (rising ns) (IsPermutation-sym ns ms moved) (rising_moves ns) in
    climbs_once 0 ms (rising ns) (order_climbs 0 ms (λ k d lt. omega arith) order) (rising_climbs ns)
    (λ t. sym (sum_by-IsPermutation (λ n. cond (n == t) 1 0) ms (rising ns) moves))
