-- A seal leaves both invariants of a collection, where the keys of what is sealed become live.
use Rattle.gc_steps.proofs.Prelude.{◌≡◌, ◌⊎◌, ◌<◌, ◌≤◌, ◌+◌, inl, inr, ℕ, zero, suc, Bool, true, false, cond, List, [], ◌∷◌, length, map, option_map, Option, Some, None, refl, sym, ◌∙◌, ap, subst, arith, slice_get, All, bytes_eq, bytes_eq-Decides, sha256, ACTORS, Part, Writing, PinMap, Entry, Kind, Place, PlaceMap, Segment, entries_from, segment_key, HeaderValue, header_of, LiveKeys, Files, Store, entry_key, HasKey, IsPartialIndexOf, first_free, with_slot, IsStoreOf, KeepsCopies, with_sealed, some_same, in_head, entry_of, CoreInvariant, Collection, IsPartKey, Marks}
use Rattle.std.proofs.Common.{◌↔◌, get_or}
use Rattle.std.specs.FinMap as finite
use Rattle.std.specs.List.{Contains}
use Rattle.actor_parts.specs.Parts.{part_of, with_part}
use Rattle.container_meta.specs.Segments.{Contents, keys_of}
use Rattle.store_model.specs.Image.{names_of}
use Rattle.store_model.specs.Slots.{Copy, free_slots, newest}
use Rattle.store_model.specs.Steps.{CanSeal}
use Rattle.store_model.proofs.FreedTrees.{in_tail}
use Rattle.store_model.proofs.NewestSealed.{newest_with, newest_without}
use Rattle.gc_steps.proofs.Carried.{KeepsBoth, MovesBeside}
use Rattle.gc_steps.proofs.GainedPins.{Grows, gained}
use Rattle.gc_steps.proofs.Marked.{contains_first, contains_none}

-- the key of a segment that is sealed
abbrev pub IsSealedKey : Contents → List ℕ → Type 0
IsSealedKey filled key = Contains (keys_of filled) key

-- ---- its entry

-- a key that an entry has is that of a segment
pub key_found : (kind : Kind) (at : ℕ) (ss : List Segment) (key : List ℕ) (e : Entry) → entry_of kind (entries_from at ss) key ≡ Some e → Contains (map (segment_key kind) ss) key
key_found kind at [] key e found = absurd cc
key_found kind at (s ∷ ss) key e found = by_test (bytes_eq (segment_key kind s) key) refl found (λ rest. key_found kind (at + length s.bytes) ss key e rest)
  where
    here : Entry
    here = record { digest = sha256 s.bytes; offset = at; length = length s.bytes; level = s.level }

    by_test : (b : Bool) → bytes_eq (segment_key kind s) key ≡ b → cond b (Some here) (entry_of kind (entries_from (at + length s.bytes) ss) key) ≡ Some e
        → (entry_of kind (entries_from (at + length s.bytes) ss) key ≡ Some e → Contains (map (segment_key kind) ss) key)
        → Contains (segment_key kind s ∷ map (segment_key kind) ss) key
    by_test true same first rest =
        subst (λ (k : List ℕ). Contains (segment_key kind s ∷ map (segment_key kind) ss) k) ((bytes_eq-Decides (segment_key kind s) key).0 same)
        (in_head (segment_key kind s) (map (segment_key kind) ss))
    by_test false differ later rest = in_tail (segment_key kind s) key (map (segment_key kind) ss) (rest later)

-- and one that none has is that of none
key_lacking : (kind : Kind) (at : ℕ) (ss : List Segment) (key : List ℕ) → entry_of kind (entries_from at ss) key ≡ None → Contains (map (segment_key kind) ss) key → ⊥
key_lacking kind at [] key none has = contains_none key has
key_lacking kind at (s ∷ ss) key none has =
    by_test (bytes_eq (segment_key kind s) key) refl none (contains_first (segment_key kind s) key (map (segment_key kind) ss) has)
    (λ rest later. key_lacking kind (at + length s.bytes) ss key rest later)
  where
    here : Entry
    here = record { digest = sha256 s.bytes; offset = at; length = length s.bytes; level = s.level }

    by_test : (b : Bool) → bytes_eq (segment_key kind s) key ≡ b → cond b (Some here) (entry_of kind (entries_from (at + length s.bytes) ss) key) ≡ None
        → (key ≡ segment_key kind s) ⊎ Contains (map (segment_key kind) ss) key
        → (entry_of kind (entries_from (at + length s.bytes) ss) key ≡ None → Contains (map (segment_key kind) ss) key → ⊥) → ⊥
    by_test true same wrong is others = absurd cc
    by_test false differ rest (inr later) others = others rest later
    by_test false differ rest (inl same) others = absurd (let wrong : false ≡ true = sym differ ∙ (bytes_eq-Decides (segment_key kind s) key).1 (sym same) in cc)

-- each entry has such a key
pub entries_sealed : (kind : Kind) (at : ℕ) (ss : List Segment) → All (λ e. Contains (map (segment_key kind) ss) (entry_key kind e)) (entries_from at ss)
entries_sealed kind at [] k d within = absurd (omega (arith, within))
entries_sealed kind at (s ∷ ss) zero d within = in_head (segment_key kind s) (map (segment_key kind) ss)
entries_sealed kind at (s ∷ ss) (suc k) d within =
    in_tail (segment_key kind s) (entry_key kind (get_or (entries_from (at + length s.bytes) ss) k d)) (map (segment_key kind) ss)
    (entries_sealed kind (at + length s.bytes) ss k d (omega (arith, within)))

-- ---- the slots

pub with_there : (at : ℕ) (h : HeaderValue) (held : List (Option HeaderValue)) (slot : ℕ) (g : HeaderValue) → slice_get (with_slot at h held) slot ≡ Some (Some g)
    → (slice_get held slot ≡ Some (Some g)) ⊎ (h ≡ g)
with_there at h [] slot g is = absurd cc
with_there zero h (c ∷ cs) zero g is = inr (some_same h g (some_same (Some h) (Some g) is))
with_there zero h (c ∷ cs) (suc slot) g is = inl is
with_there (suc at) h (c ∷ cs) zero g is = inl is
with_there (suc at) h (c ∷ cs) (suc slot) g is = with_there at h cs slot g is

-- one that was there stays there
pub stays_there : (h : HeaderValue) (held : List (Option HeaderValue)) (slot : ℕ) (g : HeaderValue) → slice_get held slot ≡ Some (Some g)
    → slice_get (with_slot (first_free held) h held) slot ≡ Some (Some g)
stays_there h [] slot g is = absurd cc
stays_there h (None ∷ cs) zero g is = absurd (let wrong : None ≡ Some g = some_same None (Some g) is in cc)
stays_there h (None ∷ cs) (suc slot) g is = is
stays_there h (Some x ∷ cs) zero g is = is
stays_there h (Some x ∷ cs) (suc slot) g is = stays_there h cs slot g is

-- the container is in that
pub there_now : (h : HeaderValue) (held : List (Option HeaderValue)) → 1 ≤ free_slots held → slice_get (with_slot (first_free held) h held) (first_free held) ≡ Some (Some h)
there_now h [] some = absurd (omega (arith, some))
there_now h (None ∷ cs) some = refl
there_now h (Some x ∷ cs) some = there_now h cs some

-- ---- the store

-- What containers that are sealed make of a store: P holds of their keys, of which there was no newer copy, and their ids are from this
-- one on. The others stay.
pub record Comes (P : List ℕ → Type 0) (id : ℕ) (s t : Store) : Type 0 where
  pub names_stay : names_of t ≡ names_of s
  pub decided : (key : List ℕ) → P key ⊎ (P key → ⊥)
  pub same : (key : List ℕ) → (P key → ⊥) → newest 0 t.held key ≡ newest 0 s.held key
  pub stand : (slot : ℕ) (h : HeaderValue) → slice_get s.held slot ≡ Some (Some h) → slice_get t.held slot ≡ Some (Some h)
  pub came : (slot : ℕ) (h : HeaderValue) → slice_get t.held slot ≡ Some (Some h)
      → (slice_get s.held slot ≡ Some (Some h)) ⊎ ((id ≤ h.id) × All (λ e. P (entry_key h.kind e)) h.entries)
  pub lies : (key : List ℕ) (copy : Copy) → P key → newest 0 t.held key ≡ Some copy
      → (h : HeaderValue) × ((slice_get t.held copy.place.slot ≡ Some (Some h)) × (id ≤ h.id))

-- none
pub comes_none : (id : ℕ) (s : Store) → Comes (λ key. ⊥) id s s
comes_none id s = record {
  names_stay = refl;
  decided = λ key. inr (λ none. none);
  same = λ key none. refl;
  stand = λ slot h is. is;
  came = λ slot h is. inl is;
  lies = λ key copy none is. absurd none;
}

-- one, in the closed slot of least number
module _ (store : Store) (id : ℕ) (filled : Contents) (can : CanSeal id filled.kind filled.segments store) where
  abbrev entries : List Entry
  entries = entries_from 0 filled.segments

  abbrev header : HeaderValue
  header = header_of id filled.kind filled.segments

  abbrev sealed_store : Store
  sealed_store = with_sealed id filled.kind filled.segments store

  -- a key that is none of those that are sealed has no entry
  no_entry : (key : List ℕ) → (IsSealedKey filled key → ⊥) → entry_of filled.kind entries key ≡ None
  no_entry key others = by_found (entry_of filled.kind entries key) refl
    where
      by_found : (found : Option Entry) → entry_of filled.kind entries key ≡ found → entry_of filled.kind entries key ≡ None
      by_found None none = none
      by_found (Some e) found = absurd (others (key_found filled.kind 0 filled.segments key e found))

  pub comes_one : Comes (IsSealedKey filled) id store sealed_store
  comes_one = record {
    names_stay = refl;
    decided = λ key. by_key key (entry_of filled.kind entries key) refl;
    same = λ key others. newest_without 0 header store.held key (omega (arith, can.slot)) (no_entry key others);
    stand = stays_there header store.held;
    came = λ slot h is. by_slot slot h (with_there (first_free store.held) header store.held slot h is);
    lies = λ key copy among is. by_entry key copy among is (entry_of filled.kind entries key) refl;
  }
    where
      by_key : (key : List ℕ) (found : Option Entry) → entry_of filled.kind entries key ≡ found → IsSealedKey filled key ⊎ (IsSealedKey filled key → ⊥)
      by_key key None none = inr (key_lacking filled.kind 0 filled.segments key none)
      by_key key (Some e) found = inl (key_found filled.kind 0 filled.segments key e found)

      by_slot : (slot : ℕ) (h : HeaderValue) → (slice_get store.held slot ≡ Some (Some h)) ⊎ (header ≡ h)
          → (slice_get store.held slot ≡ Some (Some h)) ⊎ ((id ≤ h.id) × All (λ e. IsSealedKey filled (entry_key h.kind e)) h.entries)
      by_slot slot h (inl was) = inl was
      by_slot slot h (inr same) = inr (
        omega (arith, ap (λ (g : HeaderValue). g.id) same),
        subst (λ (g : HeaderValue). All (λ e. IsSealedKey filled (entry_key g.kind e)) g.entries) same (entries_sealed filled.kind 0 filled.segments),
      )

      by_entry : (key : List ℕ) (copy : Copy) → IsSealedKey filled key → newest 0 sealed_store.held key ≡ Some copy → (found : Option Entry)
          → entry_of filled.kind entries key ≡ found → (h : HeaderValue) × ((slice_get sealed_store.held copy.place.slot ≡ Some (Some h)) × (id ≤ h.id))
      by_entry key copy among is None none = absurd (key_lacking filled.kind 0 filled.segments key none among)
      by_entry key copy among is (Some e) found =
          let newest_is = newest_with 0 (first_free store.held) header store.held key e (omega arith) (omega (arith, can.slot)) can.new_id found in
          let slot_is : copy.place.slot ≡ first_free store.held = ap (λ (c : Copy). c.place.slot) (some_same copy _ (sym is ∙ newest_is)) in
          (header, (ap (slice_get sealed_store.held) slot_is ∙ there_now header store.held (omega (arith, can.slot)), omega arith))

-- and others after them
pub comes_then : (P Q : List ℕ → Type 0) (id next : ℕ) (s t u : Store) → id ≤ next → Comes P id s t → Comes Q next t u → Comes (λ key. P key ⊎ Q key) id s u
comes_then P Q id next s t u above first second = record {
  names_stay = second.names_stay ∙ first.names_stay;
  decided = λ key. by_both key (first.decided key) (second.decided key);
  same = λ key others. second.same key (λ q. others (inr q)) ∙ first.same key (λ p. others (inl p));
  stand = λ slot h is. second.stand slot h (first.stand slot h is);
  came = λ slot h is. elim (second.came slot h is) [
    | inl was ↦ elim (first.came slot h was) [
      | inl before ↦ inl before
      | inr new ↦ inr (new.0, λ k d within. inl (new.1 k d within))
    ]
    | inr new ↦ inr (omega (arith, above, new.0), λ k d within. inr (new.1 k d within))
  ];
  lies = λ key copy among is. by_last key copy among is (second.decided key);
}
  where
    by_both : (key : List ℕ) → P key ⊎ (P key → ⊥) → Q key ⊎ (Q key → ⊥) → (P key ⊎ Q key) ⊎ (P key ⊎ Q key → ⊥)
    by_both key (inl p) q = inl (inl p)
    by_both key (inr others) (inl q) = inl (inr q)
    by_both key (inr others) (inr more) = inr (λ either. elim either [ inl p ↦ others p | inr q ↦ more q ])

    by_last : (key : List ℕ) (copy : Copy) → P key ⊎ Q key → newest 0 u.held key ≡ Some copy → Q key ⊎ (Q key → ⊥)
        → (h : HeaderValue) × ((slice_get u.held copy.place.slot ≡ Some (Some h)) × (id ≤ h.id))
    by_last key copy among is (inl q) = let last = second.lies key copy q is in (last.0, (last.1.0, omega (arith, above, last.1.1)))
    by_last key copy (inr q) is (inr others) = absurd (others q)
    by_last key copy (inl p) is (inr others) =
        let before = first.lies key copy p (sym (second.same key others) ∙ is) in
        (before.0, (second.stand copy.place.slot before.0 before.1.0, before.1.1))

-- keys by another name
pub comes_as : (P Q : List ℕ → Type 0) (id : ℕ) (s t : Store) → ((key : List ℕ) → P key ↔ Q key) → Comes P id s t → Comes Q id s t
comes_as P Q id s t alike comes = record {
  names_stay = comes.names_stay;
  decided = λ key. elim (comes.decided key) [ inl p ↦ inl ((alike key).0 p) | inr others ↦ inr (λ q. others ((alike key).1 q)) ];
  same = λ key others. comes.same key (λ p. others ((alike key).0 p));
  stand = comes.stand;
  came = λ slot h is. elim (comes.came slot h is) [
    | inl was ↦ inl was
    | inr new ↦ inr (new.0, λ k d within. (alike (entry_key h.kind (get_or h.entries k d))).0 (new.1 k d within))
  ];
  lies = λ key copy q is. comes.lies key copy ((alike key).1 q) is;
}

-- ---- the index

-- The index is another then: it has the keys that it had, those that are not sealed at their places, and each at that of its newest copy.
module _ (P : List ℕ → Type 0) (id : ℕ) (store sealed_store : Store) (comes : Comes P id store sealed_store) (index later : PlaceMap)
    (has_still : (key : List ℕ) → HasKey index key → HasKey later key)
    (others_same : (key : List ℕ) → (P key → ⊥) → finite.get later key ≡ finite.get index key) (partial : IsPartialIndexOf sealed_store.held later) where
  grows : (old new : List ℕ) → KeepsCopies (HasKey index) store old sealed_store new → Grows P index later store sealed_store old new
  grows old new keeps = record {
    names_stay = comes.names_stay;
    keeps = keeps;
    has_still = has_still;
    had = λ key others has. (has.0, sym (others_same key others) ∙ has.1);
    same = comes.same;
    slots = λ slot h is. elim (comes.came slot h is) [ inl was ↦ inl was | inr new ↦ inr new.1 ];
  }

  -- what the index has newly lies in the containers
  moves : (snapshot : ℕ) → snapshot ≤ id → MovesBeside index later store sealed_store snapshot
  moves snapshot above = record {
    places = λ key place has. by_key key place has (comes.decided key);
    stand = comes.stand;
    stood = λ slot h there old. by_slot slot h old (comes.came slot h there);
  }
    where
      by_copy : (key : List ℕ) (place : Place) → P key → (found : Option Copy) → newest 0 sealed_store.held key ≡ found → option_map (λ (c : Copy). c.place) found ≡ Some place
          → (h : HeaderValue) × ((slice_get sealed_store.held place.slot ≡ Some (Some h)) × (snapshot ≤ h.id))
      by_copy key place among None none is = absurd (let wrong : None ≡ Some place = is in cc)
      by_copy key place among (Some copy) found is =
          let lies = comes.lies key copy among found in (
            lies.0,
            (
              subst (λ (x : Place). slice_get sealed_store.held x.slot ≡ Some (Some lies.0)) (some_same copy.place place is) lies.1.0,
              omega (arith, above, lies.1.1),
            ),
          )

      by_key : (key : List ℕ) (place : Place) → finite.get later key ≡ Some place → P key ⊎ (P key → ⊥)
          → (finite.get index key ≡ Some place) ⊎ ((h : HeaderValue) × ((slice_get sealed_store.held place.slot ≡ Some (Some h)) × (snapshot ≤ h.id)))
      by_key key place has (inr others) = inl (sym (others_same key others) ∙ has)
      by_key key place has (inl among) = inr (by_copy key place among (newest 0 sealed_store.held key) refl (partial key place has))

      by_slot : (slot : ℕ) (h : HeaderValue) → h.id < snapshot
          → (slice_get store.held slot ≡ Some (Some h)) ⊎ ((id ≤ h.id) × All (λ e. P (entry_key h.kind e)) h.entries)
          → slice_get store.held slot ≡ Some (Some h)
      by_slot slot h old (inl was) = was
      by_slot slot h old (inr new) = absurd (omega (arith, above, old, new.0))

  -- The containers are there; their keys are pinned, and marked.
  pub sealed_safe : (old new : List ℕ) (files : Files) (parts : List Part) (c : Collection) (marked : LiveKeys) (actor : ℕ) (pins more : PinMap) → c.snapshot ≤ id
      → actor < ACTORS → actor < length parts → part_of parts actor ≡ Writing pins → Marks P c.live marked
      → ((key : List ℕ) → IsPartKey (Writing more) key ↔ (IsPartKey (Writing pins) key ⊎ P key)) → KeepsCopies (HasKey index) store old sealed_store new
      → CoreInvariant later sealed_store files (with_part parts actor (Writing more)) new → IsStoreOf sealed_store files new
      → KeepsBoth index later store sealed_store parts (with_part parts actor (Writing more)) old new c (record c { live = marked })
  sealed_safe old new files parts c marked actor pins more above below there writing marks pinned keeps core holds =
      gained P index later store sealed_store old new files parts c marked actor pins more below there writing
      (record { marks = marks; pinned = pinned; decided = comes.decided }) (grows old new keeps) core holds (moves c.snapshot above)
