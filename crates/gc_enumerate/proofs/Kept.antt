-- How live keys are kept: as a set.
use Rattle.std.proofs.Common.{◌≡◌, ◌⊎◌, ◌↔◌, inl, inr, ℕ, Bool, true, false, cond, List, Option, Some, None, IsSome, OnOk, OnErr, Result, Ok, Err, refl, sym, ◌∙◌, subst}
use Rattle.std.specs.Cmp.{eq_by_cmp_equiv}
use Rattle.std.specs.Cmp.Lexicographic.{slice_cmp, nat_list_cmp_total}
use Rattle.std.specs.FinMap as finite
use Rattle.std.specs.Ordering.{nat_cmp, eq_by_cmp}
use Rattle.std.specs.Str.{bytes_eq}
use Rattle.std.proofs.lemmas.Map.Text.{is_eq-slice_cmp}
use Rattle.std.proofs.lemmas.Slice.Eq.{bytes_eq-Decides}
use Rattle.container_meta.specs.declared.place.Place.{Place}
use Rattle.gc_enumerate.specs.Live.{LiveKeys, IsLiveAt, SharesMark}

tied : (q key : List ℕ) → eq_by_cmp (slice_cmp nat_cmp) q key ≡ bytes_eq key q
tied q key = (eq_by_cmp_equiv nat_list_cmp_total).symm q key ∙ is_eq-slice_cmp key q

none_some : IsSome {T = Unit {0}} None → ⊥
none_some is = let none : IsSome {T = Unit {0}} None = is in cc

pub none_live : (key : List ℕ) (place : Place) → IsLiveAt finite.empty key place → ⊥
unfolding IsLiveAt
none_live key place is = none_some (subst IsSome (finite.get-empty (slice_cmp nat_cmp) key) is)

absent_not_live : (live : LiveKeys) (key : List ℕ) (place : Place) → finite.get live key ≡ None → IsLiveAt live key place → ⊥
unfolding IsLiveAt
absent_not_live live key place none is = none_some (subst IsSome none is)

pub not_live : {E : Type 0} (result : Result (Unit {0}) E) (live : LiveKeys) (key : List ℕ) (place : Place) → OnErr result (finite.get live key ≡ None)
    → OnErr result (IsLiveAt live key place → ⊥)
not_live (Ok x) live key place absent = tt
not_live (Err e) live key place absent = absent_not_live live key place absent

module _ (live : LiveKeys) (key other : List ℕ) (there place : Place) where
  same_key : eq_by_cmp (slice_cmp nat_cmp) other key ≡ true → other ≡ key
  same_key same = sym ((bytes_eq-Decides key other).0 (sym (tied other key) ∙ same))

  not_same : eq_by_cmp (slice_cmp nat_cmp) other key ≡ false → other ≡ key → ⊥
  not_same differ here =
      let true_too : true ≡ false = sym ((bytes_eq-Decides key other).1 (sym here)) ∙ sym (tied other key) ∙ differ in cc

  by_test : (b : Bool) → eq_by_cmp (slice_cmp nat_cmp) other key ≡ b
      → (IsSome (cond b (Some tt) (finite.get live other)) ↔ (IsSome (finite.get live other) ⊎ (other ≡ key)))
  by_test true same = (λ is. inr (same_key same), λ is. refl)
  by_test false differ = (
    λ is. inl is,
    λ is. elim is [
      | inl was ↦ was
      | inr here ↦ absurd (not_same differ here)
    ],
  )

  inserted : IsLiveAt (finite.insert live key tt) other there ↔ (IsLiveAt live other there ⊎ SharesMark other there key place)
  unfolding IsLiveAt SharesMark
  inserted =
      subst (λ (o : Option (Unit {0})). IsSome o ↔ (IsSome (finite.get live other) ⊎ (other ≡ key)))
      (sym (finite.get-insert nat_list_cmp_total live key tt other)) (by_test (eq_by_cmp (slice_cmp nat_cmp) other key) refl)

  without : (b : Bool) → eq_by_cmp (slice_cmp nat_cmp) other key ≡ b
      → (IsSome (cond b None (finite.get live other)) ↔ (IsSome (finite.get live other) × (other ≡ key → ⊥)))
  without true same = (λ is. absurd (none_some is), λ is. absurd (is.1 (same_key same)))
  without false differ = (λ is. (is, not_same differ), λ is. is.0)

  removed : IsLiveAt (finite.remove live key) other there ↔ (IsLiveAt live other there × (SharesMark other there key place → ⊥))
  unfolding IsLiveAt SharesMark
  removed =
      subst (λ (o : Option (Unit {0})). IsSome o ↔ (IsSome (finite.get live other) × (other ≡ key → ⊥)))
      (sym (finite.get-remove nat_list_cmp_total live key other)) (without (eq_by_cmp (slice_cmp nat_cmp) other key) refl)

-- what marking a key does
pub marked : {E : Type 0} (result : Result (Unit {0}) E) (old new : LiveKeys) (key : List ℕ) (place : Place) → OnOk result (new ≡ finite.insert old key tt)
    → OnOk result ((other : List ℕ) (there : Place) → IsLiveAt new other there ↔ (IsLiveAt old other there ⊎ SharesMark other there key place))
marked (Ok x) old new key place is = λ other there.
    subst (λ (live : LiveKeys). IsLiveAt live other there ↔ (IsLiveAt old other there ⊎ SharesMark other there key place)) (sym is) (inserted old key other there place)
marked (Err e) old new key place is = tt

pub marked_live : {E : Type 0} (result : Result (Unit {0}) E) (old new : LiveKeys) (key : List ℕ) (place : Place)
    → OnOk result ((other : List ℕ) (there : Place) → IsLiveAt new other there ↔ (IsLiveAt old other there ⊎ SharesMark other there key place)) →
    OnOk result (IsLiveAt new key place)
unfolding SharesMark
marked_live (Ok x) old new key place marks = (marks key place).1 (inr refl)
marked_live (Err e) old new key place marks = tt

-- what taking a key's mark away does
pub unmarked : (old new : LiveKeys) (key : List ℕ) (place : Place) → new ≡ finite.remove old key → (other : List ℕ) (there : Place)
    → IsLiveAt new other there ↔ (IsLiveAt old other there × (SharesMark other there key place → ⊥))
unmarked old new key place is other there =
    subst (λ (live : LiveKeys). IsLiveAt live other there ↔ (IsLiveAt old other there × (SharesMark other there key place → ⊥))) (sym is) (removed old key other there place)
