-- Keys in lists, and maps without some keys.
use Rattle.gc_sweep.proofs.Prelude.{◌≡◌, ◌≢◌, ◌⊎◌, inl, inr, ℕ, Bool, true, false, List, [], ◌∷◌, ◌++◌, map, Option, Some, None, refl, sym, ◌∙◌, ap, subst, if◌then◌else◌, ◌||◌, AllByRecursion, bytes_eq, bytes_eq-Decides, Kind, Place, PlaceMap, Segment, segment_key, without_keys}
use Rattle.std.specs.Cmp.Lexicographic.{slice_cmp, nat_list_cmp_total}
use Rattle.std.specs.FinMap as finite
use Rattle.std.specs.List.{list_any}
use Rattle.std.specs.Ordering.{nat_cmp, eq_by_cmp}
use Rattle.std.proofs.lemmas.List.Folds.{list_any-append}
use Rattle.store_model.proofs.Indexing.{tied}

-- ---- keys in a list

-- the key is one of these
abbrev pub listed : List (List ℕ) → List ℕ → Bool
listed keys key = list_any (λ k. bytes_eq k key) keys

or_either : (a b : Bool) → a || b ≡ true → (a ≡ true) ⊎ (b ≡ true)
or_either true b is = inl refl
or_either false b is = inr is

or_left : (a b : Bool) → a ≡ true → a || b ≡ true
or_left true b is = refl
or_left false b is = absurd cc

or_right : (a b : Bool) → b ≡ true → a || b ≡ true
or_right true b is = refl
or_right false b is = is

pub listed_left : (xs ys : List (List ℕ)) (key : List ℕ) → listed xs key ≡ true → listed (xs ++ ys) key ≡ true
listed_left xs ys key has = list_any-append (λ k. bytes_eq k key) xs ys ∙ or_left (listed xs key) (listed ys key) has

pub listed_right : (xs ys : List (List ℕ)) (key : List ℕ) → listed ys key ≡ true → listed (xs ++ ys) key ≡ true
listed_right xs ys key has = list_any-append (λ k. bytes_eq k key) xs ys ∙ or_right (listed xs key) (listed ys key) has

pub listed_either : (xs ys : List (List ℕ)) (key : List ℕ) → listed (xs ++ ys) key ≡ true → (listed xs key ≡ true) ⊎ (listed ys key ≡ true)
listed_either xs ys key has = or_either (listed xs key) (listed ys key) (sym (list_any-append (λ k. bytes_eq k key) xs ys) ∙ has)

pub listed_one : (key : List ℕ) → listed (key ∷ []) key ≡ true
listed_one key = or_left (bytes_eq key key) false ((bytes_eq-Decides key key).1 refl)

-- what is so of each of them is so of one that is listed
pub listed_so : (P : List ℕ → Type 0) (keys : List (List ℕ)) (key : List ℕ) → AllByRecursion P keys → listed keys key ≡ true → P key
listed_so P [] key all has = absurd cc
listed_so P (k ∷ ks) key all has = elim (or_either (bytes_eq k key) (listed ks key) has) [
  | inl same ↦ subst P ((bytes_eq-Decides k key).0 same) all.0
  | inr later ↦ listed_so P ks key all.1 later
]

-- what is so of each of two lists is so of both
pub both_so : {X : Type 0} (P : X → Type 0) (xs ys : List X) → AllByRecursion P xs → AllByRecursion P ys → AllByRecursion P (xs ++ ys)
both_so P [] ys first second = second
both_so P (x ∷ xs) ys first second = (first.0, both_so P xs ys first.1 second)

pub each_so : {X : Type 0} (P Q : X → Type 0) (xs : List X) → ((x : X) → P x → Q x) → AllByRecursion P xs → AllByRecursion Q xs
each_so P Q [] each all = tt
each_so P Q (x ∷ xs) each all = (each x all.0, each_so P Q xs each all.1)

-- the keys of segments, one after the other
pub keys_append : (kind : Kind) (xs ys : List Segment) → map (segment_key kind) (xs ++ ys) ≡ map (segment_key kind) xs ++ map (segment_key kind) ys
keys_append kind [] ys = refl
keys_append kind (x ∷ xs) ys = ap (λ (ks : List (List ℕ)). segment_key kind x ∷ ks) (keys_append kind xs ys)

-- ---- the map without keys

removed_one : (index : PlaceMap) (k key : List ℕ) (place : Place) → finite.get (finite.remove index k) key ≡ Some place → finite.get index key ≡ Some place
removed_one index k key place has = by_test (eq_by_cmp (slice_cmp nat_cmp) key k) (sym (finite.get-remove nat_list_cmp_total index k key) ∙ has)
  where
    by_test : (b : Bool) → (if b then None else finite.get index key) ≡ Some place → finite.get index key ≡ Some place
    by_test true is = absurd cc
    by_test false is = is

-- what it has it had
pub had_before : (ks : List (List ℕ)) (index : PlaceMap) (key : List ℕ) (place : Place) → finite.get (without_keys ks index) key ≡ Some place → finite.get index key ≡ Some place
had_before [] index key place has = has
had_before (k ∷ ks) index key place has = removed_one index k key place (had_before ks (finite.remove index k) key place has)

stays_one : (index : PlaceMap) (k key : List ℕ) → k ≢ key → finite.get (finite.remove index k) key ≡ finite.get index key
stays_one index k key other = finite.get-remove nat_list_cmp_total index k key ∙ by_test (bytes_eq k key) refl
  where
    by_test : (b : Bool) → bytes_eq k key ≡ b → (if eq_by_cmp (slice_cmp nat_cmp) key k then None else finite.get index key) ≡ finite.get index key
    by_test true same = absurd (other ((bytes_eq-Decides k key).0 same))
    by_test false differ = ap (λ (b : Bool). if b then None else finite.get index key) (tied key k ∙ differ)

-- a key that is none of them keeps its place
pub place_stays : (ks : List (List ℕ)) (index : PlaceMap) (key : List ℕ) → AllByRecursion (λ k. k ≢ key) ks → finite.get (without_keys ks index) key ≡ finite.get index key
place_stays [] index key others = refl
place_stays (k ∷ ks) index key others = place_stays ks (finite.remove index k) key others.1 ∙ stays_one index k key others.0

gone_one : (index : PlaceMap) (k key : List ℕ) → bytes_eq k key ≡ true → finite.get (finite.remove index k) key ≡ None
gone_one index k key same =
    finite.get-remove nat_list_cmp_total index k key ∙ ap (λ (b : Bool). if b then None else finite.get index key) (tied key k ∙ same)

stays_gone : (ks : List (List ℕ)) (index : PlaceMap) (key : List ℕ) → finite.get index key ≡ None → finite.get (without_keys ks index) key ≡ None
stays_gone ks index key none = by_found (finite.get (without_keys ks index) key) refl
  where
    by_found : (found : Option Place) → finite.get (without_keys ks index) key ≡ found → finite.get (without_keys ks index) key ≡ None
    by_found None is = is
    by_found (Some place) is = absurd (let wrong : None ≡ Some place = sym none ∙ had_before ks index key place is in cc)

-- one that is leaves
pub gone : (ks : List (List ℕ)) (index : PlaceMap) (key : List ℕ) → listed ks key ≡ true → finite.get (without_keys ks index) key ≡ None
gone [] index key has = absurd cc
gone (k ∷ ks) index key has = elim (or_either (bytes_eq k key) (listed ks key) has) [
  | inl same ↦ stays_gone ks (finite.remove index k) key (gone_one index k key same)
  | inr later ↦ gone ks (finite.remove index k) key later
]
