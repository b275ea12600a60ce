-- Sums over views, and what holds of each view.
use Rattle.std.proofs.Common.{◌≡◌, ◌≢◌, ℕ, zero, suc, ◌+◌, ◌<◌, ◌≤◌, List, [], ◌∷◌, ◌++◌, length, set, refl, sym, ap, subst, ⊎_elim, arith}
use mathlib.Core.Option.{some, some-ne-none, some-injective}
use lib.ListN.{get_elem?}
use Rattle.atomic_table.proofs.Lists.{at_set}
use Rattle.turn_lock.specs.Rule.{total}
use Rattle.turn_lock.specs.History.{times}

module _ {V : Type 0} where
  pub total_set : (f : V → ℕ) (views : List V) (p : ℕ) (v w : V) → get_elem? views p ≡ some v → total f (set views p w) + f v ≡ total f views + f w
  total_set f [] p v w e = absurd (some-ne-none v (sym e))
  total_set f (x ∷ xs) zero v w e = let s = ap f (some-injective x v e) in omega arith
  total_set f (x ∷ xs) (suc p) v w e = let h = total_set f xs p v w e in omega arith

  pub total_snoc : (f : V → ℕ) (views : List V) (w : V) → total f (views ++ w ∷ []) ≡ total f views + f w
  total_snoc f [] w = omega arith
  total_snoc f (x ∷ xs) w = let h = total_snoc f xs w in omega arith

  pub total_le : (f g : V → ℕ) (views : List V) → ((p : ℕ) (v : V) → get_elem? views p ≡ some v → f v ≤ g v) → total f views ≤ total g views
  total_le f g [] h = omega arith
  total_le f g (x ∷ xs) h = let a = h 0 x refl in let b = total_le f g xs (λ p v e. h (suc p) v e) in omega arith

  pub total_one : (f : V → ℕ) (views : List V) (p : ℕ) (v : V) → get_elem? views p ≡ some v → f v ≤ total f views
  total_one f [] p v e = absurd (some-ne-none v (sym e))
  total_one f (x ∷ xs) zero v e = let s = ap f (some-injective x v e) in omega arith
  total_one f (x ∷ xs) (suc p) v e = let h = total_one f xs p v e in omega arith

  pub total_two : (f : V → ℕ) (views : List V) (p q : ℕ) (v w : V) → p ≢ q → get_elem? views p ≡ some v → get_elem? views q ≡ some w → f v + f w ≤ total f views
  total_two f [] p q v w n e i = absurd (some-ne-none v (sym e))
  total_two f (x ∷ xs) zero zero v w n e i = absurd (n refl)
  total_two f (x ∷ xs) zero (suc q) v w n e i = let s = ap f (some-injective x v e) in let h = total_one f xs q w i in omega arith
  total_two f (x ∷ xs) (suc p) zero v w n e i = let s = ap f (some-injective x w i) in let h = total_one f xs p v e in omega arith
  total_two f (x ∷ xs) (suc p) (suc q) v w n e i = let h = total_two f xs p q v w (λ same. n (ap suc same)) e i in omega arith

  pub each_set : (P : ℕ → V → Type 0) (views : List V) (p : ℕ) (w : V) → P p w → ((q : ℕ) (u : V) → q ≢ p → get_elem? views q ≡ some u → P q u)
      → (q : ℕ) (u : V) → get_elem? (set views p w) q ≡ some u → P q u
  each_set P views p w mine others q u e = ⊎_elim
      (λ (t : (q ≡ p) × (w ≡ u)). subst (λ (y : ℕ × V). P y.0 y.1) (λ i. (sym t.0 i, t.1 i)) mine)
      (λ (t : (q ≢ p) × (get_elem? views q ≡ some u)). others q u t.0 t.1)
      (at_set views p q w u e)

pub times_append : (x : ℕ) (ys zs : List ℕ) → times x (ys ++ zs) ≡ times x ys + times x zs
times_append x [] zs = omega arith
times_append x (y ∷ ys) zs = let h = times_append x ys zs in omega arith

module _ {V : Type 0} where
  pub at_below : (views : List V) (p : ℕ) (v : V) → get_elem? views p ≡ some v → p < length views
  at_below [] p v e = absurd (some-ne-none v (sym e))
  at_below (x ∷ xs) zero v e = omega arith
  at_below (x ∷ xs) (suc p) v e = let h = at_below xs p v e in omega arith

  pub each_last : (P : ℕ → V → Type 0) (views : List V) (w : V) → P (length views) w → ((q : ℕ) (u : V) → get_elem? views q ≡ some u → P q u)
      → (q : ℕ) (u : V) → get_elem? (views ++ w ∷ []) q ≡ some u → P q u
  each_last P [] w mine others zero u e = subst (P 0) (some-injective w u e) mine
  each_last P [] w mine others (suc q) u e = absurd (some-ne-none u (sym e))
  each_last P (x ∷ xs) w mine others zero u e = others zero u e
  each_last P (x ∷ xs) w mine others (suc q) u e = each_last (λ k. P (suc k)) xs w mine (λ k y at. others (suc k) y at) q u e
