-- What becomes live, key by key.
use Rattle.gc_steps.proofs.Prelude.{◌≡◌, ◌⊎◌, ◌<◌, inl, inr, ℕ, zero, suc, ◌+◌, Bool, true, false, List, [], ◌∷◌, ◌++◌, length, take, Option, Some, None, is_some, arith, refl, sym, ◌∙◌, subst, ◌||◌, slice_cmp, nat_cmp, eq_by_cmp, take_more, bytes_eq-Decides, Part, tied, LiveKeys, IsNumberKey, Marks}
use Rattle.std.proofs.Common.{◌↔◌, get_or}
use Rattle.std.specs.FinMap as finite
use Rattle.std.specs.List.{Contains, list_any}
use Rattle.gc_enumerate.specs.Live.{IsLiveAt}

pub marks_none : (P : List ℕ → Type 0) (live : LiveKeys) → ((key : List ℕ) → P key → ⊥) → Marks P live live
marks_none P live none key place = (λ is. inl is, λ is. by_case is)
  where
    by_case : IsLiveAt live key place ⊎ P key → IsLiveAt live key place
    by_case (inl is) = is
    by_case (inr p) = absurd (none key p)

pub marks_as : (P Q : List ℕ → Type 0) (old new : LiveKeys) → ((key : List ℕ) → P key ↔ Q key) → Marks P old new → Marks Q old new
marks_as P Q old new same marks key place = (λ is. to ((marks key place).0 is), λ is. (marks key place).1 (back is))
  where
    to : IsLiveAt old key place ⊎ P key → IsLiveAt old key place ⊎ Q key
    to (inl is) = inl is
    to (inr p) = inr ((same key).0 p)

    back : IsLiveAt old key place ⊎ Q key → IsLiveAt old key place ⊎ P key
    back (inl is) = inl is
    back (inr q) = inr ((same key).1 q)

pub marks_more : (P Q : List ℕ → Type 0) (old mid new : LiveKeys) → Marks P old mid → Marks Q mid new → Marks (λ key. P key ⊎ Q key) old new
marks_more P Q old mid new first second key place = (λ is. to ((second key place).0 is), λ is. (second key place).1 (back is))
  where
    to : IsLiveAt mid key place ⊎ Q key → IsLiveAt old key place ⊎ (P key ⊎ Q key)
    to (inr q) = inr (inr q)
    to (inl is) = before ((first key place).0 is)
      where
        before : IsLiveAt old key place ⊎ P key → IsLiveAt old key place ⊎ (P key ⊎ Q key)
        before (inl was) = inl was
        before (inr p) = inr (inl p)

    back : IsLiveAt old key place ⊎ (P key ⊎ Q key) → IsLiveAt mid key place ⊎ Q key
    back (inl was) = inl ((first key place).1 (inl was))
    back (inr (inl p)) = inl ((first key place).1 (inr p))
    back (inr (inr q)) = inr q

-- ---- lists, one more at the end

-- what a list has is its first, or in the rest
pub contains_first : (k key : List ℕ) (ks : List (List ℕ)) → Contains (k ∷ ks) key → (key ≡ k) ⊎ Contains ks key
contains_first k key ks (zero, below, is) = inl (sym is)
contains_first k key ks (suc i, below, is) = inr (i, omega (arith, below), is)

pub contains_next : (k key : List ℕ) (ks : List (List ℕ)) → Contains ks key → Contains (k ∷ ks) key
contains_next k key ks (i, below, is) = (suc i, omega (arith, below), is)

pub contains_head : (k : List ℕ) (ks : List (List ℕ)) → Contains (k ∷ ks) k
contains_head k ks = (0, omega arith, refl)

pub contains_none : (key : List ℕ) → Contains [] key → ⊥
contains_none key (i, below, is) = omega (arith, below)

-- a list has its first, and what the rest has
same_list : (k key : List ℕ) (ks : List (List ℕ)) → ((key ≡ k) ⊎ Contains ks key) ↔ Contains (k ∷ ks) key
same_list k key ks = (λ is. to is, contains_first k key ks)
  where
    to : (key ≡ k) ⊎ Contains ks key → Contains (k ∷ ks) key
    to (inl same) = subst (λ (x : List ℕ). Contains (k ∷ ks) x) (sym same) (contains_head k ks)
    to (inr has) = contains_next k key ks has

contains_last : (k key : List ℕ) → (Contains [] key ⊎ (key ≡ k)) ↔ Contains (k ∷ []) key
contains_last k key = (λ is. (same_list k key []).0 (to is), λ is. back ((same_list k key []).1 is))
  where
    to : Contains [] key ⊎ (key ≡ k) → (key ≡ k) ⊎ Contains [] key
    to (inl none) = inr none
    to (inr same) = inl same

    back : (key ≡ k) ⊎ Contains [] key → Contains [] key ⊎ (key ≡ k)
    back (inl same) = inr same
    back (inr none) = inl none

-- equal sides, before and after
along : {A B C D E : Type 0} → ((D ⊎ A) ↔ E) → ((D ⊎ C) ↔ B) → {F : Type 0} → ((A ⊎ F) ↔ C) → (E ⊎ F) ↔ B
along {A} {B} {C} {D} {E} first whole {F} rest = (λ is. to is, λ is. back (whole.1 is))
  where
    by_first : D ⊎ A → B
    by_first (inl d) = whole.0 (inl d)
    by_first (inr a) = whole.0 (inr (rest.0 (inl a)))

    to : E ⊎ F → B
    to (inl e) = by_first (first.1 e)
    to (inr f) = whole.0 (inr (rest.0 (inr f)))

    again : A ⊎ F → E ⊎ F
    again (inl a) = inl (first.0 (inr a))
    again (inr f) = inr f

    back : D ⊎ C → E ⊎ F
    back (inl d) = inl (first.0 (inl d))
    back (inr c) = again (rest.1 c)

pub contains_more : (ks : List (List ℕ)) (k key : List ℕ) → (Contains ks key ⊎ (key ≡ k)) ↔ Contains (ks ++ k ∷ []) key
contains_more [] k key = contains_last k key
contains_more (m ∷ ms) k key = along (same_list m key ms) (same_list m key (ms ++ k ∷ [])) (contains_more ms k key)

-- ---- the keys of a map

any_contained : (ks : List (List ℕ)) (key : List ℕ) → (list_any (eq_by_cmp (slice_cmp nat_cmp) key) ks ≡ true) ↔ Contains ks key
any_contained [] key = (λ none. absurd cc, λ none. absurd (contains_none key none))
any_contained (k ∷ ks) key =
    (λ is. (same_list k key ks).0 (to (eq_by_cmp (slice_cmp nat_cmp) key k) refl (any_contained ks key).0 is), λ is. back (any_contained ks key).1 ((same_list k key ks).1 is))
  where
    to : (b : Bool) → eq_by_cmp (slice_cmp nat_cmp) key k ≡ b → (list_any (eq_by_cmp (slice_cmp nat_cmp) key) ks ≡ true → Contains ks key)
        → (b || list_any (eq_by_cmp (slice_cmp nat_cmp) key) ks) ≡ true
        → (key ≡ k) ⊎ Contains ks key
    to true same rest is = inl (sym ((bytes_eq-Decides k key).0 (sym (tied key k) ∙ same)))
    to false other rest is = inr (rest is)

    here : (b : Bool) → b ≡ true → (b || list_any (eq_by_cmp (slice_cmp nat_cmp) key) ks) ≡ true
    here true is = refl
    here false is = absurd cc

    there : (b : Bool) → list_any (eq_by_cmp (slice_cmp nat_cmp) key) ks ≡ true → (b || list_any (eq_by_cmp (slice_cmp nat_cmp) key) ks) ≡ true
    there true is = refl
    there false is = is

    back : (Contains ks key → list_any (eq_by_cmp (slice_cmp nat_cmp) key) ks ≡ true) → (key ≡ k) ⊎ Contains ks key
        → (eq_by_cmp (slice_cmp nat_cmp) key k || list_any (eq_by_cmp (slice_cmp nat_cmp) key) ks) ≡ true
    back rest (inl same) = here (eq_by_cmp (slice_cmp nat_cmp) key k) (tied key k ∙ (bytes_eq-Decides k key).1 (sym same))
    back rest (inr has) = there (eq_by_cmp (slice_cmp nat_cmp) key k) (rest has)

some_there : {X : Type 0} (found : Option X) → (is_some found ≡ true) ↔ ((x : X) × (found ≡ Some x))
some_there None = (λ none. absurd cc, λ none. absurd cc)
some_there (Some x) = (λ is. (x, refl), λ is. refl)

pub keys_there : {X : Type 0} (m : finite.FinMap (slice_cmp nat_cmp) X) (key : List ℕ) → Contains (finite.keys m) key ↔ ((x : X) × (finite.get m key ≡ Some x))
keys_there m key = (
  λ has. (some_there (finite.get m key)).0 (finite.contains_key-keys m key ∙ (any_contained (finite.keys m) key).1 has),
  λ is. (any_contained (finite.keys m) key).0 (sym (finite.contains_key-keys m key) ∙ (some_there (finite.get m key)).1 is),
)

-- ---- loops, one turn more

-- one key more
pub keys_turn : (keys : List (List ℕ)) (i : ℕ) (old mid new : LiveKeys) → i < length keys → Marks (Contains (take i keys)) old mid → Marks (λ k. k ≡ get_or keys i []) mid new
    → Marks (Contains (take (i + 1) keys)) old new
keys_turn keys i old mid new within first second =
    let key : List ℕ = get_or keys i [] in
    subst (λ (all : List (List ℕ)). Marks (Contains all) old new) (sym (take_more keys i [] within))
    (marks_as (λ k. Contains (take i keys) k ⊎ (k ≡ key)) (Contains (take i keys ++ key ∷ [])) old new (contains_more (take i keys) key)
    (marks_more (Contains (take i keys)) (λ k. k ≡ key) old mid new first second))

-- ---- the actors, by their numbers

abbrev pub OfFirst : List Part → ℕ → List ℕ → Type 0
OfFirst parts count key = (actor : ℕ) × ((actor < count) × IsNumberKey parts actor key)
