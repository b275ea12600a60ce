-- What holds of a sweep by the store holds once what was copied is written, and all live keys stay live.
use Rattle.gc_sweep.proofs.Prelude.{◌≡◌, ◌≢◌, ◌⊎◌, inl, inr, ℕ, zero, suc, ◌+◌, ◌<◌, ◌≤◌, Bool, true, false, List, [], ◌∷◌, length, get_or, map, take, Option, Some, None, refl, sym, ◌∙◌, ap, subst, arith, ◌||◌, bytes_eq, Contains-append_left, sha256, Entry, Kind, Place, PlaceMap, Segment, entries_from, has_key, segment_key, HeaderValue, IsHeader, header_of, is_copy, LiveKeys, entry_key, with_entries, first_free, free_slots, place_of, with_slot, some_same, first_closed, some_free, entry_of, put_none, put_some, still_has, RepresentsSlots, SlotTable, Flush, Sweep, HasFlushed, AreCopied, HoldsSweep, IsCopied, IsHalfCopied, HasNoEntryIn, HasNext, IsSweeping, entry_in, sources_before}
use Rattle.std.proofs.Common.{cond}
use Rattle.std.specs.Prelude.{slice_get}
use Rattle.std.specs.FinMap as finite
use Rattle.std.specs.List.{Contains}
use Rattle.gc_sweep.proofs.Holds.{no_key, none_copied}
use Rattle.gc_sweep.proofs.InSlots.{at_copy, copy_at, none_in, source_old, stands_in}
use Rattle.gc_sweep.proofs.KeyLists.{each_so, listed}

-- ---- the container that was written

-- a slot that has a container now had it, or that is the new one
pub with_before : (at : ℕ) (h : HeaderValue) (held : List (Option HeaderValue)) (slot : ℕ) (g : HeaderValue) → slice_get (with_slot at h held) slot ≡ Some (Some g) → (h ≡ g)
    ⊎ (slice_get held slot ≡ Some (Some g))
with_before at h [] slot g there = absurd cc
with_before zero h (c ∷ cs) zero g there = inl (some_same h g (some_same (Some h) (Some g) there))
with_before zero h (c ∷ cs) (suc slot) g there = inr there
with_before (suc at) h (c ∷ cs) zero g there = inr there
with_before (suc at) h (c ∷ cs) (suc slot) g there = with_before at h cs slot g there

-- it has an entry for each key that was filled
entry_there : (kind : Kind) (offset : ℕ) (ss : List Segment) (key : List ℕ) → listed (map (segment_key kind) ss) key ≡ true → entry_of kind (entries_from offset ss) key ≡ None → ⊥
entry_there kind offset [] key has none = absurd cc
entry_there kind offset (x ∷ xs) key has none = by_test (bytes_eq (segment_key kind x) key) refl has none (entry_there kind (offset + length x.bytes) xs key)
  where
    here : Entry
    here = record { digest = sha256 x.bytes; offset = offset; length = length x.bytes; level = x.level }

    by_test : (b : Bool) → bytes_eq (segment_key kind x) key ≡ b → b || listed (map (segment_key kind) xs) key ≡ true
        → cond b (Some here) (entry_of kind (entries_from (offset + length x.bytes) xs) key) ≡ None
        → (listed (map (segment_key kind) xs) key ≡ true → entry_of kind (entries_from (offset + length x.bytes) xs) key ≡ None → ⊥) → ⊥
    by_test true same has none rest = absurd cc
    by_test false differ has none rest = rest has none

-- ---- what was copied is written

module _ (t : SlotTable) (index : PlaceMap) (held : List (Option HeaderValue)) (image now : List ℕ) (live : LiveKeys) (snapshot source entry id : ℕ) (s s' : Sweep)
    (slots : RepresentsSlots held t)
    (under : IsSweeping t snapshot s) (stage : s.next ≡ Flush source entry) (flushed : HasFlushed source entry s s')
    (right : IsHeader (header_of id s.buffer.kind s.buffer.segments)) (new : snapshot ≤ id)
    (some : 1 ≤ free_slots held) where
  abbrev h : HeaderValue
  h = header_of id s.buffer.kind s.buffer.segments

  abbrev place : ℕ
  place = first_free held

  abbrev held_now : List (Option HeaderValue)
  held_now = with_slot place h held

  abbrev later : PlaceMap
  later = with_entries s.buffer.kind place (entries_from 0 s.buffer.segments) index

  -- each key that the index has stays in it
  pub keys_flushed : (key : List ℕ) (at : Place) → finite.get index key ≡ Some at → (other : Place) × (finite.get later key ≡ Some other)
  keys_flushed key at has = still_has s.buffer.kind place (entries_from 0 s.buffer.segments) index key (at, has)

  -- what it has elsewhere it had, and that was not filled
  had_elsewhere : (key : List ℕ) (at : Place) → finite.get later key ≡ Some at → at.slot ≢ place → (finite.get index key ≡ Some at) × (has_key s.buffer key ≡ true → ⊥)
  had_elsewhere key at has other = by_entry (entry_of s.buffer.kind (entries_from 0 s.buffer.segments) key) refl
    where
      by_entry : (found : Option Entry) → entry_of s.buffer.kind (entries_from 0 s.buffer.segments) key ≡ found → (finite.get index key ≡ Some at)
          × (has_key s.buffer key ≡ true → ⊥)
      by_entry None is = (
        sym (put_none s.buffer.kind place (entries_from 0 s.buffer.segments) index key is) ∙ has,
        λ filled. entry_there s.buffer.kind 0 s.buffer.segments key filled is,
      )
      by_entry (Some found) is =
          absurd (other (ap (λ (p : Place). p.slot)
          (some_same at (place_of place found) (sym has ∙ put_some s.buffer.kind place [] (entries_from 0 s.buffer.segments) index key found right.entries is))))

  closed : slice_get held place ≡ Some None
  closed = first_closed held (some_free held some)

  other_slot : (slot : ℕ) (g : HeaderValue) → slice_get held slot ≡ Some (Some g) → slot ≢ place
  other_slot slot g there same = let wrong : None ≡ Some g = some_same None (Some g) (sym closed ∙ ap (slice_get held) (sym same) ∙ there) in cc

  has : HasNext t s (Flush source entry)
  has = subst (HasNext t s) stage under.next_is

  before_is : sources_before s s.next ≡ source
  before_is = ap (sources_before s) stage

  before_now : sources_before s' s'.next ≡ source
  before_now = ap (sources_before s') flushed.next_is

  entry_now : entry_in s'.next ≡ entry
  entry_now = ap entry_in flushed.next_is

  sources_are : s'.sources.items ≡ s.sources.items
  sources_are = ap (λ (v : _). v.items) flushed.sources_are

  -- a source stood there before
  source_before : (slot number : ℕ) (g : HeaderValue) → number < length s.sources.items → g.id ≡ get_or s.sources.items number 0 → slice_get held_now slot ≡ Some (Some g)
      → slice_get held slot ≡ Some (Some g)
  source_before slot number g within id_is there = elim (with_before place h held slot g there) [
    | inl same ↦ absurd (omega (arith, ap (λ (x : HeaderValue). x.id) same, new, id_is, (source_old held t snapshot s under number within).1))
    | inr was ↦ was
  ]

  half_before : (slot : ℕ) (g : HeaderValue) → IsHalfCopied held_now s' slot g → IsHalfCopied held s slot g
  half_before slot g half =
      let more : 0 < entry = omega (arith, half.some, entry_now) in
      let id_is : g.id ≡ get_or s.sources.items source 0 = half.id_is ∙ ap (λ (xs : List ℕ). get_or xs (sources_before s' s'.next) 0) sources_are
      ∙ ap (λ (k : ℕ). get_or s.sources.items k 0) before_now in
      record {
        some = omega (arith, more, ap entry_in stage);
        there = source_before slot source g (has.2 more) id_is half.there;
        id_is = id_is ∙ ap (λ (k : ℕ). get_or s.sources.items k 0) (sym before_is);
      }

  module _ (holds : HoldsSweep index held image live snapshot s) where
    ready_empty : (slot : ℕ) → Contains s.waiting.items slot → HasNoEntryIn later slot
    ready_empty slot there key at found here =
        let stands = stands_in held t snapshot s under slots slot (Contains-append_left s.waiting.items s.ready.items slot there) in
        let had = had_elsewhere key at found (λ same. other_slot slot stands.header stands.there (sym here ∙ same)) in
        had.1 (holds.waiting slot there key at had.0 here)

    half_empty : (slot : ℕ) (g : HeaderValue) (count : ℕ) → slice_get held slot ≡ Some (Some g) → AreCopied (has_key s.buffer) index slot g count
        → AreCopied (has_key s'.buffer) later slot g count
    half_empty slot g count there all =
        each_so (λ (e : Entry). is_copy index g.kind slot e ≡ true → has_key s.buffer (entry_key g.kind e) ≡ true)
        (λ (e : Entry). is_copy later g.kind slot e ≡ true → has_key s'.buffer (entry_key g.kind e) ≡ true)
        (take count g.entries)
        (λ e was copy.
        let had = had_elsewhere (entry_key g.kind e) (place_of slot e) (copy_at later g.kind slot e copy) (other_slot slot g there) in
        absurd (had.1 (was (at_copy index g.kind slot e had.0)))) all

    pub holds_flushed : HoldsSweep later held_now now live snapshot s'
    holds_flushed = record {
      copied = none_copied (IsCopied later live held_now now s'.buffer.kind) s'.buffer flushed.emptied;
      origin = λ key at filled found. absurd (no_key s'.buffer key flushed.emptied filled);
      waiting = λ slot there. absurd (none_in s'.waiting.items slot flushed.none_waits there);
      ready = λ slot there. ready_empty slot (subst (λ (xs : List ℕ). Contains xs slot) flushed.ready_is there);
      half = λ slot g half.
          let was = half_before slot g half in
          let so = holds.half slot g was in
          let count : entry_in s'.next ≡ entry_in s.next = entry_now ∙ sym (ap entry_in stage) in (
            omega (arith, so.0, count),
            subst (λ (n : ℕ). AreCopied (has_key s'.buffer) later slot g n) (sym count) (half_empty slot g (entry_in s.next) was.there so.1),
          );
    }
