-- Lists by their numbers.
use Rattle.std.proofs.Common.{◌≡◌, ◌≢◌, inl, inr, ℕ, zero, suc, ◌<◌, ◌≤◌, Bool, true, false, cond, List, [], ◌∷◌, map, refl, sym, ap, subst, ◌∙◌, arith}
use Rattle.std.specs.Prelude.{nat_lt, ◌==◌, ◌&&◌, not, if◌then◌else◌}
use Rattle.std.specs.Ordering.{nat_cmp, is_lt}
use Rattle.std.specs.declared.cmp.Ordering.TheVariants.{Less, Equal, Greater}
use Rattle.std.specs.List.{All, filter}
use Rattle.std.specs.List.Sorted.{IsPermutation, IsNonDecreasingBy, IsStableByKey, ties}
use Rattle.std.proofs.lemmas.Bool.{ltb-true, ltb-false}
use Rattle.std.proofs.lemmas.Bool.Decides.{eqb_tells}
use Rattle.std.proofs.lemmas.List.Elements.{All-nil, All-cons, All-head, All-weaker}
use Rattle.std.proofs.lemmas.List.Sorted.{IsPermutation-refl, IsPermutation-sym, IsPermutation-trans, IsPermutation-cons, IsPermutation-middle, IsNonDecreasingBy-drop}
use Rattle.namespace.specs.Puts.{among_by, sorted_by}

-- neither is lower just where they are one
lower_is : (a b : ℕ) → is_lt (nat_cmp a b) ≡ nat_lt a b
lower_is a b = elim (nat_lt a b) as (λ less. is_lt (cond less Less (cond (a == b) Equal Greater)) ≡ less) [
  | true ↦ refl
  | false ↦ elim (a == b) as (λ same. is_lt (cond same Equal Greater) ≡ false) [ true ↦ refl | false ↦ refl ]
]

unequal_heads : {X : Type 0} (x : X) (xs : List X) → (let none : List X = [] in none) ≡ x ∷ xs → ⊥
unequal_heads x xs e = cc

heads : {X : Type 0} (x y : X) (xs ys : List X) → x ∷ xs ≡ y ∷ ys → x ≡ y
heads x y xs ys e = cc

tails : {X : Type 0} (x y : X) (xs ys : List X) → x ∷ xs ≡ y ∷ ys → xs ≡ ys
tails x y xs ys e = cc

both_ways : (b : Bool) → b ≡ true → b ≡ false → ⊥
both_ways b one other = cc

-- two tests of which one fails, in either order
swapped : {X : Type 0} (a b : Bool) (x y : X) (l : List X) → (a ≡ true → b ≡ true → ⊥)
    → cond b (y ∷ cond a (x ∷ l) l) (cond a (x ∷ l) l) ≡ cond a (x ∷ cond b (y ∷ l) l) (cond b (y ∷ l) l)
swapped true true x y l one = absurd (one refl refl)
swapped true false x y l one = refl
swapped false true x y l one = refl
swapped false false x y l one = refl

by_both : (a b : ℕ) → (a < b → ⊥) → (b < a → ⊥) → a ≡ b
by_both a b less more = elim (eqb_tells a b) [ inl same ↦ same.1 | inr differ ↦ absurd (omega (arith, less, more, differ.1)) ]

module _ {X : Type 0} (number : X → ℕ) where
  -- from a number on they do not fall
  abbrev pub Climbs : ℕ → List X → Type 0
  Climbs n [] = Unit {0}
  Climbs n (x ∷ xs) = (n ≤ number x) × Climbs (number x) xs

  -- of one number
  abbrev tie : X → X → Bool
  tie = ties (λ a b. is_lt (nat_cmp (number a) (number b)))

  tied : (x y : X) → number x ≡ number y → tie x y ≡ true
  tied x y same =
      ap (λ (b : Bool). not b && not (is_lt (nat_cmp (number y) (number x)))) (lower_is (number x) (number y))
      ∙ ap (λ (b : Bool). not (nat_lt (number x) (number y)) && not b) (lower_is (number y) (number x))
      ∙ grind (arith, same)

  apart : (x y : X) → number x ≢ number y → tie x y ≡ false
  apart x y differ =
      ap (λ (b : Bool). not b && not (is_lt (nat_cmp (number y) (number x)))) (lower_is (number x) (number y))
      ∙ ap (λ (b : Bool). not (nat_lt (number x) (number y)) && not b) (lower_is (number y) (number x))
      ∙ grind (arith, differ)

  -- ---- what `sorted_by` leaves

  climbs_among : (n : ℕ) (x : X) (ys : List X) → n ≤ number x → Climbs n ys → Climbs n (among_by number x ys)
  climbs_among n x [] above climbs = (above, tt)
  climbs_among n x (y ∷ ys) above climbs =
      elim (nat_lt (number y) (number x)) as (λ b. nat_lt (number y) (number x) ≡ b → Climbs n (if b then y ∷ among_by number x ys else x ∷ y ∷ ys)) [
        | true ↦ λ lower. (climbs.0, climbs_among (number y) x ys (omega (arith, ltb-true (number y) (number x) lower)) climbs.1)
        | false ↦ λ not_lower. (above, (omega (arith, ltb-false (number y) (number x) not_lower), climbs.1))
      ] refl

  pub sorted_climbs : (xs : List X) → Climbs 0 (sorted_by number xs)
  sorted_climbs [] = tt
  sorted_climbs (x ∷ xs) = climbs_among 0 x (sorted_by number xs) (omega arith) (sorted_climbs xs)

  same_number : (x y : X) → tie x y ≡ true → number x ≡ number y
  same_number x y is =
      elim (eqb_tells (number x) (number y)) [
        | inl same ↦ same.1
        | inr differ ↦ absurd (both_ways (tie x y) is (apart x y differ.1))
      ]

  -- of each number the same stand in the same order
  tied_among : (t x : X) (ys : List X) → filter (tie t) (among_by number x ys) ≡ filter (tie t) (x ∷ ys)
  tied_among t x [] = refl
  tied_among t x (y ∷ ys) =
      elim (nat_lt (number y) (number x)) as (λ b. nat_lt (number y) (number x) ≡ b → filter (tie t) (if b then y ∷ among_by number x ys else x ∷ y ∷ ys) ≡ filter (tie t)
      (x ∷ y ∷ ys)) [
        | true ↦ λ lower.
            ap (λ (l : List X). cond (tie t y) (y ∷ l) l) (tied_among t x ys)
            ∙ swapped (tie t x) (tie t y) x y (filter (tie t) ys) (λ one other. omega (arith, ltb-true (number y) (number x) lower, same_number t x one, same_number t y other))
        | false ↦ λ not_lower. refl
      ] refl

  pub tied_sorted : (t : X) (xs : List X) → filter (tie t) (sorted_by number xs) ≡ filter (tie t) xs
  tied_sorted t [] = refl
  tied_sorted t (x ∷ xs) = tied_among t x (sorted_by number xs) ∙ ap (λ (l : List X). cond (tie t x) (x ∷ l) l) (tied_sorted t xs)

  moved_among : (x : X) (ys : List X) → IsPermutation (x ∷ ys) (among_by number x ys)
  moved_among x [] = IsPermutation-refl (x ∷ [])
  moved_among x (y ∷ ys) =
      elim (nat_lt (number y) (number x)) as (λ b. IsPermutation (x ∷ y ∷ ys) (if b then y ∷ among_by number x ys else x ∷ y ∷ ys)) [
        | true ↦ IsPermutation-trans (x ∷ y ∷ ys) (y ∷ x ∷ ys) (y ∷ among_by number x ys)
            (IsPermutation-sym (y ∷ x ∷ ys) (x ∷ y ∷ ys) (IsPermutation-middle (y ∷ []) x ys)) (IsPermutation-cons y (x ∷ ys) (among_by number x ys) (moved_among x ys))
        | false ↦ IsPermutation-refl (x ∷ y ∷ ys)
      ]

  -- it has the same values
  pub moved_sorted : (xs : List X) → IsPermutation xs (sorted_by number xs)
  moved_sorted [] = IsPermutation-refl []
  moved_sorted (x ∷ xs) =
      IsPermutation-trans (x ∷ xs) (x ∷ sorted_by number xs) (among_by number x (sorted_by number xs))
      (IsPermutation-cons x xs (sorted_by number xs) (moved_sorted xs)) (moved_among x (sorted_by number xs))

  -- ---- one list alone is so

  none_tied : (t : X) (n : ℕ) (zs : List X) → number t < n → Climbs n zs → filter (tie t) zs ≡ []
  none_tied t n [] less climbs = refl
  none_tied t n (z ∷ zs) less climbs =
      ap (λ (b : Bool). cond b (z ∷ filter (tie t) zs) (filter (tie t) zs)) (apart t z (λ e. omega (arith, less, climbs.0, e)))
      ∙ none_tied t (number z) zs (omega (arith, less, climbs.0)) climbs.1

  -- a value that ties stands first
  first_tied : (t z : X) (zs : List X) → number t ≡ number z → filter (tie t) (z ∷ zs) ≡ z ∷ filter (tie t) zs
  first_tied t z zs same = ap (λ (b : Bool). cond b (z ∷ filter (tie t) zs) (filter (tie t) zs)) (tied t z same)

  not_below : (y z : X) (ys zs : List X) → Climbs (number z) zs → ((t : X) → filter (tie t) (y ∷ ys) ≡ filter (tie t) (z ∷ zs)) → number y < number z → ⊥
  not_below y z ys zs climbs same less =
      unequal_heads y (filter (tie y) ys) (sym (none_tied y (number z) (z ∷ zs) less (omega arith, climbs)) ∙ sym (same y) ∙ first_tied y y ys refl)

  one_more : (t x : X) (ys zs : List X) → filter (tie t) (x ∷ ys) ≡ filter (tie t) (x ∷ zs) → filter (tie t) ys ≡ filter (tie t) zs
  one_more t x ys zs same =
      elim (tie t x) as (λ b. cond b (x ∷ filter (tie t) ys) (filter (tie t) ys) ≡ cond b (x ∷ filter (tie t) zs) (filter (tie t) zs) → filter (tie t) ys ≡ filter (tie t) zs) [
        | true ↦ λ e. tails x x (filter (tie t) ys) (filter (tie t) zs) e
        | false ↦ λ e. e
      ] same

  pub climbs_once : (n : ℕ) (ys zs : List X) → Climbs n ys → Climbs n zs → ((t : X) → filter (tie t) ys ≡ filter (tie t) zs) → ys ≡ zs
  climbs_once n [] [] one other same = refl
  climbs_once n [] (z ∷ zs) one other same = absurd (unequal_heads z (filter (tie z) zs) (same z ∙ first_tied z z zs refl))
  climbs_once n (y ∷ ys) [] one other same = absurd (unequal_heads y (filter (tie y) ys) (sym (same y) ∙ first_tied y y ys refl))
  climbs_once n (y ∷ ys) (z ∷ zs) one other same =
      let not_less = not_below y z ys zs other.1 same in
      let not_more = not_below z y zs ys one.1 (λ t. sym (same t)) in
      let level : number y ≡ number z = by_both (number y) (number z) not_less not_more in
      let first : y ≡ z = heads y z (filter (tie y) ys) (filter (tie y) zs) (sym (first_tied y y ys refl) ∙ same y ∙ first_tied y z zs level) in
      let rest : ys ≡ zs =
      climbs_once (number y) ys zs one.1 (subst (λ (k : ℕ). Climbs k zs) (sym level) other.1)
      (λ t. one_more t y ys zs (same t ∙ ap (λ (x : X). filter (tie t) (x ∷ zs)) (sym first))) in
      ap (λ (x : X). x ∷ ys) first ∙ ap (λ (l : List X). z ∷ l) rest

  -- ---- what a sort of the library leaves

  climbs_from : (n : ℕ) (xs : List X) → All (λ x. n ≤ number x) xs → IsNonDecreasingBy number xs → Climbs n xs
  climbs_from n [] above order = tt
  climbs_from n (x ∷ xs) above order = (
    All-head (λ y. n ≤ number y) x xs above,
    climbs_from (number x) xs (λ k d lt. order 0 (suc k) d (omega arith) (omega arith)) (IsNonDecreasingBy-drop number 1 (x ∷ xs) order),
  )

  pub sort_is : (xs ys : List X) → IsNonDecreasingBy number ys → IsStableByKey number nat_cmp xs ys → ys ≡ sorted_by number xs
  sort_is xs ys order stable =
      climbs_once 0 ys (sorted_by number xs) (climbs_from 0 ys (λ k d lt. omega arith) order) (sorted_climbs xs) (λ t. stable t ∙ sym (tied_sorted t xs))

  -- ---- by places

  at_least : (n : ℕ) (xs : List X) → Climbs n xs → All (λ x. n ≤ number x) xs
  at_least n [] climbs = All-nil _
  at_least n (x ∷ xs) climbs =
      All-cons (λ y. n ≤ number y) x xs climbs.0
      (All-weaker (λ y. number x ≤ number y) (λ y. n ≤ number y) (λ y above. omega (arith, above, climbs.0)) xs (at_least (number x) xs climbs.1))

  pub order_of : (n : ℕ) (xs : List X) → Climbs n xs → IsNonDecreasingBy number xs
  order_of n [] climbs i j d le within = absurd (omega (arith, within))
  order_of n (x ∷ xs) climbs zero zero d le within = omega arith
  order_of n (x ∷ xs) climbs zero (suc j) d le within = at_least (number x) xs climbs.1 j d (omega (arith, within))
  order_of n (x ∷ xs) climbs (suc i) zero d le within = absurd (omega (arith, le))
  order_of n (x ∷ xs) climbs (suc i) (suc j) d le within = order_of (number x) xs climbs.1 i j d (omega (arith, le)) (omega (arith, within))

-- ---- seen otherwise

module _ {X Y : Type 0} (view : X → Y) (number : Y → ℕ) where
  seen_among : (x : X) (ys : List X) → map view (among_by (λ y. number (view y)) x ys) ≡ among_by number (view x) (map view ys)
  seen_among x [] = refl
  seen_among x (y ∷ ys) =
      elim (nat_lt (number (view y)) (number (view x))) as
      (λ b. map view (if b then y ∷ among_by (λ z. number (view z)) x ys else x ∷ y ∷ ys) ≡
      (if b then view y ∷ among_by number (view x) (map view ys) else view x ∷ view y ∷ map view ys)) [
        | true ↦ ap (λ (l : List Y). view y ∷ l) (seen_among x ys)
        | false ↦ refl
      ]

  pub seen_sorted : (xs : List X) → map view (sorted_by (λ x. number (view x)) xs) ≡ sorted_by number (map view xs)
  seen_sorted [] = refl
  seen_sorted (x ∷ xs) = seen_among x (sorted_by (λ y. number (view y)) xs) ∙ ap (among_by number (view x)) (seen_sorted xs)
