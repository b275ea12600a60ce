-- Which keys are forgotten, by the map of the index: what that is after each step that moves the one or the other.
use Rattle.core_machine.proofs.Prelude.{◌≡◌, ◌≢◌, ℕ, zero, suc, ◌+◌, ◌<◌, Bool, true, false, cond, not, ◌||◌, List, [], ◌∷◌, ◌++◌, length, Option, Some, None, option_map, refl, sym, ◌∙◌, ap, subst, arith, AllByRecursion, bytes_eq, Contains-append_cases, Contains-append_left, Contains-append_right, bytes_eq-Decides, Kind, Place, PlaceMap, Segment, entries_from, segment_key, HeaderValue, without_keys, with_all_freed, with_freed, Store, HasFree, HasKey, IsIndexOf, newest, without_slot, with_sealed, forgotten_beside, TellsForgotten, ◌↔◌}
use Rattle.std.proofs.Common.{Contains, filter, get_or, nat_lt, ⊎_elim}
use Rattle.std.specs.FinMap as finite
use Rattle.std.specs.List.{list_any}
use Rattle.std.proofs.lemmas.List.Elements.{All-contains, All-contains_itself, All-filter, filter_passes}
use Rattle.std.proofs.lemmas.List.Folds.{list_any_at}
use Rattle.std.proofs.lemmas.Map.Views.{Contains-from_any}
use Rattle.gc_sweep.proofs.KeyLists.{gone, had_before, place_stays}
use Rattle.store_model.specs.Indexing.{with_entries}
use Rattle.store_model.specs.Slots.{Copy, copy_in, newer}
use Rattle.store_model.proofs.Indexing.{has_segments}
use Rattle.store_model.proofs.SealedTrees.{newest_beside}
use Rattle.store_core.proofs.ManySealed.{none_of}
use Rattle.store_machine.specs.Needs.{keys_of}
use Rattle.base_model.proofs.Checks.{not_true}

-- ---- keys in a list

neither : (a b : Bool) → (a || b) ≡ false → (a ≡ false) × (b ≡ false)
neither true b is = absurd cc
neither false b is = (refl, is)

same_key : (a b : List ℕ) → bytes_eq a b ≡ true → a ≡ b
same_key a b is = (bytes_eq-Decides a b).0 is

-- each of them is another key
all_others : (keys : List (List ℕ)) (key : List ℕ) → list_any (bytes_eq key) keys ≡ false → AllByRecursion (λ k. k ≢ key) keys
all_others [] key none = tt
all_others (k ∷ ks) key none =
    let both = neither (bytes_eq key k) (list_any (bytes_eq key) ks) none in
    ((λ same. let wrong : true ≡ false = sym ((bytes_eq-Decides key k).1 (sym same)) ∙ both.0 in absurd cc), all_others ks key both.1)

-- so is that of each segment, or one of them is of the key
other_segments : (kind : Kind) (segments : List Segment) (key : List ℕ) → AllByRecursion (λ k. k ≢ key) (keys_of kind segments)
    → AllByRecursion (λ s. segment_key kind s ≢ key) segments
other_segments kind [] key all = tt
other_segments kind (s ∷ ss) key all = (all.0, other_segments kind ss key all.1)

has_one : (P : List ℕ → Type 0) (kind : Kind) (segments : List Segment) (key : List ℕ) → AllByRecursion (λ s. P (segment_key kind s)) segments
    → list_any (bytes_eq key) (keys_of kind segments) ≡ true → P key
has_one P kind [] key all some = absurd cc
has_one P kind (s ∷ ss) key all some = by (bytes_eq key (segment_key kind s)) refl some (λ later. has_one P kind ss key all.1 later)
  where
    by : (b : Bool) → bytes_eq key (segment_key kind s) ≡ b → (b || list_any (bytes_eq key) (keys_of kind ss)) ≡ true
        → (list_any (bytes_eq key) (keys_of kind ss) ≡ true → P key) → P key
    by true same is later = subst P (sym (same_key key (segment_key kind s) same)) all.0
    by false other is later = later is

-- a key that passes a test is left
left_in : (test : List ℕ → Bool) (keys : List (List ℕ)) (key : List ℕ) (k : ℕ) → k < length keys → get_or keys k key ≡ key → test key ≡ true → Contains (filter test keys) key
left_in test [] key k below is passes = absurd (omega (arith, below))
left_in test (x ∷ xs) key zero below is passes = subst (λ (b : Bool). Contains (cond b (x ∷ filter test xs) (filter test xs)) key) (sym (ap test is ∙ passes)) (0, omega arith, is)
left_in test (x ∷ xs) key (suc k) below is passes = by (test x) (left_in test xs key k (omega (arith, below)) is passes)
  where
    by : (b : Bool) → Contains (filter test xs) key → Contains (cond b (x ∷ filter test xs) (filter test xs)) key
    by true there = (suc there.0, omega (arith, there.1), there.2)
    by false there = there

still_forgotten : (keys forgotten : List (List ℕ)) (key : List ℕ) → Contains forgotten key → list_any (bytes_eq key) keys ≡ false → Contains (forgotten_beside keys forgotten) key
still_forgotten keys forgotten key there none = left_in (λ k. not (list_any (bytes_eq k) keys)) forgotten key there.0 there.1 there.2 (ap not none)

was_forgotten : (keys forgotten : List (List ℕ)) (key : List ℕ) → Contains (forgotten_beside keys forgotten) key → Contains forgotten key × (list_any (bytes_eq key) keys ≡ false)
was_forgotten keys forgotten key there =
    let test : List ℕ → Bool = λ k. not (list_any (bytes_eq k) keys) in (
      All-contains (Contains forgotten) (filter test forgotten) key (All-filter test (Contains forgotten) forgotten (All-contains_itself forgotten)) there,
      not_true (list_any (bytes_eq key) keys) (All-contains (λ k. test k ≡ true) (filter test forgotten) key (filter_passes test forgotten) there),
    )

-- ---- places

no_place : (places : PlaceMap) (key : List ℕ) → finite.get places key ≡ None → HasKey places key → ⊥
no_place places key none has = let wrong : None ≡ Some has.0 = sym none ∙ has.1 in absurd cc

-- a key that leaves, or that had no place before
leaves : (keys : List (List ℕ)) (places : PlaceMap) (key : List ℕ) → Contains keys key → finite.get (without_keys keys places) key ≡ None
leaves keys places key there = gone keys places key (list_any_at (λ k. bytes_eq k key) keys there.0 key there.1 ((bytes_eq-Decides (get_or keys there.0 key) key).1 there.2))

lacks_still : (keys : List (List ℕ)) (places : PlaceMap) (key : List ℕ) → finite.get places key ≡ None → finite.get (without_keys keys places) key ≡ None
lacks_still keys places key none = by (finite.get (without_keys keys places) key) refl
  where
    by : (found : Option Place) → finite.get (without_keys keys places) key ≡ found → found ≡ None
    by None is = refl
    by (Some place) is = absurd (no_place places key none (place, had_before keys places key place is))

-- ---- copies

none_of_two : (a b : Option Copy) → newer a b ≡ None → (a ≡ None) × (b ≡ None)
none_of_two None b is = (refl, is)
none_of_two (Some a) None is = absurd (let wrong : Some a ≡ None = is in cc)
none_of_two (Some a) (Some b) is = absurd (by (nat_lt a.id b.id) is)
  where
    by : (less : Bool) → cond less (Some b) (Some a) ≡ None → ⊥
    by true same = let wrong : Some b ≡ None = same in cc
    by false same = let wrong : Some a ≡ None = same in cc

-- a key that no container has none has once a slot is closed
none_without : (from slot : ℕ) (held : List (Option HeaderValue)) (key : List ℕ) → newest from held key ≡ None → newest from (without_slot slot held) key ≡ None
none_without from slot [] key none = none
none_without from zero (c ∷ cs) key none = (none_of_two (copy_in from c key) (newest (from + 1) cs key) none).1
none_without from (suc slot) (c ∷ cs) key none =
    let both = none_of_two (copy_in from c key) (newest (from + 1) cs key) none in
    ap (λ (a : Option Copy). newer a (newest (from + 1) (without_slot slot cs) key)) both.0 ∙ none_without (from + 1) slot cs key both.1

held_before : (slot : ℕ) (held : List (Option HeaderValue)) (key : List ℕ) (copy : Copy) → newest 0 (without_slot slot held) key ≡ Some copy
    → (was : Copy) × (newest 0 held key ≡ Some was)
held_before slot held key copy is = by (newest 0 held key) refl
  where
    by : (o : Option Copy) → newest 0 held key ≡ o → (was : Copy) × (o ≡ Some was)
    by None none = absurd (let wrong : None ≡ Some copy = sym (none_without 0 slot held key none) ∙ is in cc)
    by (Some was) some = (was, refl)

-- ---- what is told after each step

-- an index that was made anew
pub opened_told : (held : List (Option HeaderValue)) (places : PlaceMap) → IsIndexOf held places → TellsForgotten [] held places
opened_told held places index = record {
  lacked = λ key copy is none. absurd (no_place places key none (copy.place, index key ∙ ap (option_map (λ (c : Copy). c.place)) is));
  gone = λ key there. absurd (omega (arith, there.1));
}

-- the keys of dead copies left it, and are forgotten
pub copied_told : (forgotten dead : List (List ℕ)) (held : List (Option HeaderValue)) (places : PlaceMap) → TellsForgotten forgotten held places
    → TellsForgotten (forgotten ++ dead) held (without_keys dead places)
copied_told forgotten dead held places told = record {
  lacked = λ key copy is none. by key copy is none (list_any (bytes_eq key) dead) refl;
  gone = λ key there. ⊎_elim (λ was. lacks_still dead places key (told.gone key was)) (λ now. leaves dead places key now) (Contains-append_cases forgotten dead key there);
}
  where
    by : (key : List ℕ) (copy : Copy) → newest 0 held key ≡ Some copy → finite.get (without_keys dead places) key ≡ None → (b : Bool) → list_any (bytes_eq key) dead ≡ b
        → Contains (forgotten ++ dead) key
    by key copy is none true some = Contains-append_right forgotten dead key (Contains-from_any same_key key dead some)
    by key copy is none false others =
        Contains-append_left forgotten dead key (told.lacked key copy is (sym (place_stays dead places key (all_others dead key others)) ∙ none))

-- a container more was written, and the index has just its keys more: these are forgotten no more
pub written_told : (forgotten : List (List ℕ)) (id : ℕ) (kind : Kind) (segments : List Segment) (store : Store) (places after : PlaceMap) → HasFree store.held
    → AllByRecursion (λ s. HasKey after (segment_key kind s)) segments
    → ((key : List ℕ) → AllByRecursion (λ s. segment_key kind s ≢ key) segments → finite.get after key ≡ finite.get places key) → TellsForgotten forgotten store.held places
    → TellsForgotten (forgotten_beside (keys_of kind segments) forgotten) (with_sealed id kind segments store).held after
written_told forgotten id kind segments store places after free has same told = record {
  lacked = λ key copy is none. by key copy is none (list_any (bytes_eq key) (keys_of kind segments)) refl;
  gone = λ key there.
      let was = was_forgotten (keys_of kind segments) forgotten key there in
      same key (other_segments kind segments key (all_others (keys_of kind segments) key was.1)) ∙ told.gone key was.0;
}
  where
    by : (key : List ℕ) (copy : Copy) → newest 0 (with_sealed id kind segments store).held key ≡ Some copy → finite.get after key ≡ None → (b : Bool)
        → list_any (bytes_eq key) (keys_of kind segments) ≡ b → Contains (forgotten_beside (keys_of kind segments) forgotten) key
    by key copy is none true some = absurd (no_place after key none (has_one (HasKey after) kind segments key has some))
    by key copy is none false others =
        let apart = other_segments kind segments key (all_others (keys_of kind segments) key others) in
        still_forgotten (keys_of kind segments) forgotten key
        (told.lacked key copy (sym (newest_beside id kind segments store key free apart) ∙ is) (sym (same key apart) ∙ none)) others

-- where its places were put into the map that is so
pub put_told : (forgotten : List (List ℕ)) (id slot : ℕ) (kind : Kind) (segments : List Segment) (store : Store) (places : PlaceMap) → HasFree store.held
    → TellsForgotten forgotten store.held places
    → TellsForgotten (forgotten_beside (keys_of kind segments) forgotten) (with_sealed id kind segments store).held (with_entries kind slot (entries_from 0 segments) places)
put_told forgotten id slot kind segments store places free told =
    written_told forgotten id kind segments store places (with_entries kind slot (entries_from 0 segments) places) free (has_segments kind slot 0 segments places)
    (λ key none. none_of kind slot segments places key none) told

-- where the same keys have no place
pub told_as : (forgotten : List (List ℕ)) (held : List (Option HeaderValue)) (places after : PlaceMap)
    → ((key : List ℕ) → (finite.get after key ≡ None) ↔ (finite.get places key ≡ None)) → TellsForgotten forgotten held places → TellsForgotten forgotten held after
told_as forgotten held places after same told = record {
  lacked = λ key copy is none. told.lacked key copy is ((same key).0 none);
  gone = λ key there. (same key).1 (told.gone key there);
}

-- a map that has the keys of a container, and lacks just what another one lacks beside them, lacks just what that lacks once they are put
pub put_or_not : (kind : Kind) (segments : List Segment) (key : List ℕ) (places after : PlaceMap) → AllByRecursion (λ s. HasKey after (segment_key kind s)) segments
    → (AllByRecursion (λ s. segment_key kind s ≢ key) segments → (finite.get after key ≡ None) ↔ (finite.get places key ≡ None))
    → (finite.get after key ≡ None) ↔ (finite.get (with_entries kind 0 (entries_from 0 segments) places) key ≡ None)
put_or_not kind segments key places after has same = by (list_any (bytes_eq key) (keys_of kind segments)) refl
  where
    put : PlaceMap
    put = with_entries kind 0 (entries_from 0 segments) places

    by : (b : Bool) → list_any (bytes_eq key) (keys_of kind segments) ≡ b → (finite.get after key ≡ None) ↔ (finite.get put key ≡ None)
    by true some = (
      λ none. absurd (no_place after key none (has_one (HasKey after) kind segments key has some)),
      λ none. absurd (no_place put key none (has_one (HasKey put) kind segments key (has_segments kind 0 0 segments places) some)),
    )
    by false others =
        let apart = other_segments kind segments key (all_others (keys_of kind segments) key others) in
        let is = none_of kind 0 segments places key apart in
        (λ none. is ∙ (same apart).0 none, λ none. (same apart).1 (sym is ∙ none))

-- a container was given back, and the index is the same
freed_told : (forgotten : List (List ℕ)) (slot : ℕ) (held : List (Option HeaderValue)) (places : PlaceMap) → TellsForgotten forgotten held places
    → TellsForgotten forgotten (without_slot slot held) places
freed_told forgotten slot held places told = record {
  lacked = λ key copy is none. let was = held_before slot held key copy is in told.lacked key was.0 was.1 none;
  gone = told.gone;
}

-- so it is where containers were, one after the other
pub all_freed_told : (forgotten : List (List ℕ)) (slots : List ℕ) (store : Store) (places : PlaceMap) → TellsForgotten forgotten store.held places
    → TellsForgotten forgotten (with_all_freed slots store).held places
all_freed_told forgotten [] store places told = told
all_freed_told forgotten (slot ∷ slots) store places told = all_freed_told forgotten slots (with_freed slot store) places (freed_told forgotten slot store.held places told)
