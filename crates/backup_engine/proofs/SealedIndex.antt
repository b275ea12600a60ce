-- What the index of a core has once containers are sealed: their keys have their places, and all others what they had.
use Rattle.backup_engine.proofs.Prelude.{◌≤◌, all_then, all_two, suc, ChangesTo, ◌≡◌, ◌≢◌, ℕ, ◌+◌, List, [], ◌∷◌, length, max, Option, Some, None, option_map, refl, sym, ◌∙◌, ap, arith, AllByRecursion, sha256, key_of, Entry, Place, kind_byte, PlaceMap, Segment, entries_from, segment_key, HeaderValue, header_of, Store, HasKey, IsPartialIndexOf, first_free, ids_of, last_id, newest, with_sealed, entry_copy, newest_of_entries, OfEach, Represents, Runs, Makes, next_id, CoreState, length_in}
use Rattle.std.specs.FinMap as finite
use Rattle.container_meta.specs.Segments.{Contents}
use Rattle.store_model.specs.Slots.{Copy}
use Rattle.store_model.proofs.NewestSealed.{newest_without, none_found}
use Rattle.store_model.proofs.Valid.{last_sealed}
use Rattle.store_machine.proofs.Sealings.{AreApart}
use Rattle.store_core.proofs.ManySealed.{to_entries}
use Rattle.store_core.specs.Core.{AddsNone, IndexesAdded, changed_by, seals_from}

-- ---- from entries to segments

-- what is so of the entries of segments, by digest and length, is so of the segments
by_entries : (P : List ℕ → ℕ → Type 0) (offset : ℕ) (ss : List Segment) → AllByRecursion (λ (e : Entry). P e.digest e.length) (entries_from offset ss) →
    AllByRecursion (λ (s : Segment). P (sha256 s.bytes) (length s.bytes)) ss
by_entries P offset [] all = tt
by_entries P offset (s ∷ ss) all = (all.0, by_entries P (offset + length s.bytes) ss all.1)

-- ---- ids

last_of_ids : List ℕ → ℕ
last_of_ids [] = 0
last_of_ids (id ∷ ids) = max id (last_of_ids ids)

last_by_ids : (held : List (Option HeaderValue)) → last_id held ≡ last_of_ids (ids_of held)
unfolding last_of_ids
last_by_ids [] = refl
last_by_ids (None ∷ cs) = last_by_ids cs ∙ omega arith
last_by_ids (Some h ∷ cs) = ap (max h.id) (last_by_ids cs)

-- the last id is told by the ids
same_last : (held other : List (Option HeaderValue)) → ids_of held ≡ ids_of other → last_id held ≡ last_id other
same_last held other same = last_by_ids held ∙ ap last_of_ids same ∙ sym (last_by_ids other)

-- ---- containers with keys of their own

-- what is so of two of them each is so by the one and by the other
all_swap : {X Y : Type 0} (Q : X → Y → Type 0) (xs : List X) (ys : List Y) → AllByRecursion (λ y. AllByRecursion (λ x. Q x y) xs) ys
    → AllByRecursion (λ x. AllByRecursion (λ y. Q x y) ys) xs
all_swap Q [] ys all = tt
all_swap Q (x ∷ xs) ys all = (
  all_then (λ y. AllByRecursion (λ z. Q z y) (x ∷ xs)) (λ y. Q x y) ys (λ y both. both.0) all,
  all_swap Q xs ys (all_then (λ y. AllByRecursion (λ z. Q z y) (x ∷ xs)) (λ y. AllByRecursion (λ z. Q z y) xs) ys (λ y both. both.1) all),
)

-- a key that no segment of them has is none that they add
adds_none : (id : ℕ) (cs : List Contents) (key : List ℕ) → AllByRecursion (λ c. AllByRecursion (λ y. segment_key c.kind y ≢ key) c.segments) cs
    → AllByRecursion (AddsNone key) (seals_from id cs)
adds_none id [] key none = tt
adds_none id (c ∷ cs) key none = (none.0, adds_none (suc id) cs key none.1)

-- it has the newest copy that it had
pub newest_still : (id : ℕ) (cs : List Contents) (s t : Store) → ChangesTo (seals_from id cs) s t → (key : List ℕ) → AllByRecursion (AddsNone key) (seals_from id cs)
    → newest 0 t.held key ≡ newest 0 s.held key
newest_still id [] s t chain key none = ap (λ (u : Store). newest 0 u.held key) chain
newest_still id (c ∷ cs) s t chain key none =
    newest_still (suc id) cs (with_sealed id c.kind c.segments s) t chain.1 key none.1
    ∙ newest_without 0 (header_of id c.kind c.segments) s.held key (omega (arith, chain.0.slot))
    (none_found c.kind key (entries_from 0 c.segments) (to_entries (λ digest. key_of (kind_byte c.kind) digest ≢ key) 0 c.segments none.0))

-- the greatest id is that of the last of them
last_after : (id : ℕ) (cs : List Contents) (s t : Store) → ChangesTo (seals_from id cs) s t → 1 ≤ length cs → last_id t.held + 1 ≡ id + length cs
last_after id [] s t chain some = absurd (omega (arith, some))
last_after id (c ∷ []) s t chain some =
    omega (arith, ap (λ (u : Store). last_id u.held) chain.1, last_sealed id c.kind c.segments s chain.0)
last_after id (c ∷ d ∷ ds) s t chain some =
    let rest = last_after (suc id) (d ∷ ds) (with_sealed id c.kind c.segments s) t chain.1 (omega arith) in
    omega (arith, rest)

-- ---- the index

-- the index that has the newest copies has the segments of each as long as they are
long_in : (id : ℕ) (cs : List Contents) (s t : Store) → ChangesTo (seals_from id cs) s t → AreApart cs → (now : PlaceMap) → IsPartialIndexOf t.held now
    → AllByRecursion (IndexesAdded now) (seals_from id cs)
    → AllByRecursion (λ c. AllByRecursion (λ x. length_in now (segment_key c.kind x) ≡ Some (length x.bytes)) c.segments) cs
long_in id [] s t chain apart now index added = tt
long_in id (c ∷ cs) s t chain apart now index added =
    (by_entries (λ digest long. length_in now (key_of (kind_byte c.kind) digest) ≡ Some long) 0 c.segments here, long_in (suc id) cs mid t chain.1 apart.1 now index added.1)
  where
    mid : Store
    mid = with_sealed id c.kind c.segments s

    key : Entry → List ℕ
    key e = key_of (kind_byte c.kind) e.digest

    IsNewest : Entry → Type 0
    IsNewest e = newest 0 t.held (key e) ≡ Some (entry_copy (first_free s.held) id e)

    -- none of the later ones has its key
    later : AllByRecursion (λ x. AllByRecursion (λ d. AllByRecursion (λ y. segment_key d.kind y ≢ segment_key c.kind x) d.segments) cs) c.segments
    later = all_swap (λ x d. AllByRecursion (λ y. segment_key d.kind y ≢ segment_key c.kind x) d.segments) c.segments cs
        (all_then (λ d. AllByRecursion (λ y. AllByRecursion (λ x. segment_key d.kind y ≢ segment_key c.kind x) c.segments) d.segments)
        (λ d. AllByRecursion (λ x. AllByRecursion (λ y. segment_key d.kind y ≢ segment_key c.kind x) d.segments) c.segments) cs
        (λ d all. all_swap (λ x y. segment_key d.kind y ≢ segment_key c.kind x) c.segments d.segments all) apart.0)

    stays : AllByRecursion (λ e. newest 0 t.held (key e) ≡ newest 0 mid.held (key e)) (entries_from 0 c.segments)
    stays = to_entries (λ digest. newest 0 t.held (key_of (kind_byte c.kind) digest) ≡ newest 0 mid.held (key_of (kind_byte c.kind) digest)) 0 c.segments
        (all_then (λ x. AllByRecursion (λ d. AllByRecursion (λ y. segment_key d.kind y ≢ segment_key c.kind x) d.segments) cs)
        (λ x. newest 0 t.held (segment_key c.kind x) ≡ newest 0 mid.held (segment_key c.kind x)) c.segments
        (λ x none. newest_still (suc id) cs mid t chain.1 (segment_key c.kind x) (adds_none (suc id) cs (segment_key c.kind x) none)) later)

    newest_is : AllByRecursion IsNewest (entries_from 0 c.segments)
    newest_is = all_then
        (λ e. (newest 0 t.held (key e) ≡ newest 0 mid.held (key e)) × (newest 0 mid.held (key e) ≡ Some (entry_copy (first_free s.held) id e))) IsNewest
        (entries_from 0 c.segments) (λ e both. both.0 ∙ both.1)
        (all_two (λ e. newest 0 t.held (key e) ≡ newest 0 mid.held (key e)) (λ e. newest 0 mid.held (key e) ≡ Some (entry_copy (first_free s.held) id e))
        (entries_from 0 c.segments) stays
        (newest_of_entries (header_of id c.kind c.segments) s.held chain.0.right (omega (arith, chain.0.slot)) chain.0.new_id))

    here : AllByRecursion (λ e. length_in now (key e) ≡ Some e.length) (entries_from 0 c.segments)
    here = all_then (λ e. HasKey now (key e) × IsNewest e) (λ e. length_in now (key e) ≡ Some e.length) (entries_from 0 c.segments)
        (λ e found.
        ap (option_map (λ (p : Place). p.length)) (found.0.1 ∙ sym (index (key e) found.0.0 found.0.1) ∙ ap (option_map (λ (c : Copy). c.place)) found.1))
        (all_two (λ e. HasKey now (key e)) IsNewest (entries_from 0 c.segments)
        (to_entries (λ digest. HasKey now (key_of (kind_byte c.kind) digest)) 0 c.segments added.0) newest_is)

module _ (old new : CoreState) (cs : List Contents) (made : Makes (seals_from (next_id old) cs) old new)
    (indexed : Runs old.disk.size old.known old.tables) (places : PlaceMap) (known : old.known ≡ Some places) where
  abbrev store : Store
  store = indexed.store

  abbrev after : Store
  after = changed_by (seals_from (next_id old) cs) store

  chain : ChangesTo (seals_from (next_id old) cs) store after
  chain = made.can.store_has store indexed.represents indexed.valid indexed.has_free

  represents : Represents after new.known new.tables
  represents = made.represents.store_has store indexed.represents indexed.valid indexed.has_free

  pub now_told : (now : PlaceMap) × (new.known ≡ Some now)
  now_told = made.tells places known

  -- each of their segments has a place that is as long
  pub sealed_long : AreApart cs → AllByRecursion (λ c. AllByRecursion (λ x. length_in now_told.0 (segment_key c.kind x) ≡ Some (length x.bytes)) c.segments) cs
  sealed_long apart =
      long_in (next_id old) cs store after chain apart now_told.0 (represents.index_is_newest now_told.0 now_told.1)
      (made.adds_keys places known now_told.0 now_told.1)

  -- another key has what it had
  pub sealed_others : (key : List ℕ) → AllByRecursion (λ c. AllByRecursion (λ y. segment_key c.kind y ≢ key) c.segments) cs
      → finite.get now_told.0 key ≡ finite.get places key
  sealed_others key others = made.keeps_others places known now_told.0 now_told.1 key (adds_none (next_id old) cs key others)

  -- the id that was given out last is the last of each store
  pub sealed_ids : 1 ≤ length cs → new.tables.held.last_id ≡ old.tables.held.last_id + length cs
      → OfEach new.disk.size new.known new.tables (λ t. new.tables.held.last_id ≡ last_id t.held)
  sealed_ids some is = record {
    store_has = λ t other valid free.
        let last : last_id after.held ≡ last_id t.held = same_last after.held t.held (sym represents.slots_hold.ids_are ∙ other.slots_hold.ids_are) in
        omega (arith, is, last, last_after (next_id old) cs store after chain some);
  }
