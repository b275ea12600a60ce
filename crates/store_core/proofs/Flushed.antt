-- A container of copies that stands on the disk, whether or not the tables have it: the store with it can be opened.
use Rattle.store_core.proofs.Prelude.{◌≡◌, ◌≢◌, ◌⊎◌, inl, inr, ℕ, zero, suc, ◌+◌, ◌<◌, ◌≤◌, true, false, List, [], ◌∷◌, Option, Some, None, refl, sym, ◌∙◌, ap, subst, arith, nat_le, leb_tells, Contains-append_left, Contains-get_or, PlaceMap, entries_from, HeaderValue, IsHeader, header_of, LiveKeys, Flush, Release, HoldsSweep, HasNext, IsSweeping, free_in, sources_before, taken_from, RESERVE, Files, Store, with_entries, HasReserve, IsReachable, IsSpare, AreHeaders, HasKey, IsPartialIndexOf, first_free, free_slots, last_id, with_slot, CanBeOpened, with_sealed, some_same, free_less, reserve_by, IndexesFiles, RepresentsSlots, SlotTable}
use Rattle.std.proofs.Common.{get_or}
use Rattle.std.specs.Prelude.{Contains, slice_get}
use Rattle.gc_sweep.specs.declared.sweep.Next.{Next}
use Rattle.gc_sweep.specs.declared.sweep.Sweep.{Sweep}
use Rattle.gc_sweep.specs.Flushing.{HasFlushed}
use Rattle.gc_sweep.proofs.HoldsFlushed.{holds_flushed, keys_flushed}
use Rattle.gc_sweep.proofs.HoldsRoom.{none_newest}
use Rattle.gc_sweep.proofs.InSlots.{IsSourceIn, stands_in}
use Rattle.store_model.proofs.Free.{first_closed, some_free}
use Rattle.store_model.proofs.Indexing.{partial_with}
use Rattle.gc_steps.proofs.SealedPins.{there_now}
use Rattle.store_core.proofs.FilledSlots.{other_with}
use Rattle.store_core.proofs.Rooms.{free_held}

-- each header that there is is such
header_at : (held : List (Option HeaderValue)) (slot : ℕ) (h : HeaderValue) → AreHeaders held → slice_get held slot ≡ Some (Some h) → IsHeader h
header_at [] slot h headers there = absurd cc
header_at (None ∷ cs) zero h headers there = absurd (let wrong : None ≡ Some h = some_same None (Some h) there in cc)
header_at (None ∷ cs) (suc slot) h headers there = header_at cs slot h headers there
header_at (Some g ∷ cs) zero h headers there = subst IsHeader (some_same g h (some_same (Some g) (Some h) there)) headers.0
header_at (Some g ∷ cs) (suc slot) h headers there = header_at cs slot h headers.1 there

some_first : (xs : List ℕ) → xs ≢ [] → Contains xs (get_or xs 0 0)
some_first [] some = absurd (some refl)
some_first (x ∷ xs) some = Contains-get_or (x ∷ xs) 0 0 (omega arith)

-- a slot that is closed, and another one that may be given back
reserve_of : (P : List ℕ → Type 0) (held : List (Option HeaderValue)) (closed spare : ℕ) → closed ≢ spare → slice_get held closed ≡ Some None → IsSpare P held spare
    → HasReserve P held
reserve_of P held closed spare differ none is = by_order (leb_tells closed spare)
  where
    by_order : ((nat_le closed spare ≡ true) × (closed ≤ spare)) ⊎ ((nat_le closed spare ≡ false) × (spare < closed)) → HasReserve P held
    by_order (inl least) = record { first = closed; second = spare; differ = omega (arith, least.1, differ); first_is = inl none; second_is = inr is }
    by_order (inr more) = record { first = spare; second = closed; differ = more.1; first_is = inr is; second_is = inl none }

module _ (t : SlotTable) (index : PlaceMap) (store : Store) (files : Files) (image now : List ℕ) (live : LiveKeys) (snapshot source entry id : ℕ) (s : Sweep)
    (slots : RepresentsSlots store.held t) (headers : AreHeaders store.held)
    (under : IsSweeping t snapshot s) (stage : s.next ≡ Flush source entry) (holds : HoldsSweep index store.held image live snapshot s)
    (partial : IsPartialIndexOf store.held index) (above : last_id store.held < id)
    (new : snapshot ≤ id) where
  abbrev held : List (Option HeaderValue)
  held = store.held

  abbrev h : HeaderValue
  h = header_of id s.buffer.kind s.buffer.segments

  abbrev place : ℕ
  place = first_free held

  abbrev held_now : List (Option HeaderValue)
  held_now = with_slot place h held

  -- two slots were closed,
  room : 2 ≤ free_slots held
  room =
      let closed : RESERVE ≤ free_in t + 0 = subst (λ (n : Next). RESERVE ≤ free_in t + taken_from n) stage under.room in
      omega (arith, closed, free_held held t slots headers)

  some : 1 ≤ free_slots held
  some = omega (arith, room)

  -- and one is
  closed_now : slice_get held_now (first_free held_now) ≡ Some None
  closed_now = first_closed held_now (some_free held_now (omega (arith, room, free_less h held some)))

  has : HasNext t s (Flush source entry)
  has = subst (HasNext t s) stage under.next_is

  -- the sweep as it would be once the container was written
  abbrev after : Sweep
  after = record s { buffer = record s.buffer { segments = [] }; waiting = s.ready; ready = s.waiting; next = Release source entry }

  flushed : HasFlushed source entry s after
  flushed = record { emptied = refl; none_waits = has.0; ready_is = refl; next_is = refl; sources_are = refl; freed_is = refl; copied_is = refl }

  -- the first source that waits
  abbrev first : ℕ
  first = get_or s.waiting.items 0 0

  waits : Contains s.waiting.items first
  waits = some_first s.waiting.items (λ none. has.1 (under.fills none))

  stands : IsSourceIn held snapshot s.sources.items (sources_before s s.next) first
  stands = stands_in held t snapshot s under slots first (Contains-append_left s.waiting.items s.ready.items first waits)

  was_closed : slice_get held place ≡ Some None
  was_closed = first_closed held (some_free held some)

  there : slice_get held_now first ≡ Some (Some stands.header)
  there = other_with first h held
      (λ same. let wrong : None ≡ Some stands.header = some_same None (Some stands.header) (sym was_closed ∙ ap (slice_get held) (sym same) ∙ stands.there) in cc) ∙ stands.there

  -- The headers of the slots are such, the container's among them.
  pub opens_flushed : IndexesFiles index files → AreHeaders held_now → CanBeOpened (with_sealed id s.buffer.kind s.buffer.segments store) files
  opens_flushed indexed headers_now =
      let right : IsHeader h = header_at held_now place h headers_now (there_now h held some) in
      let later : PlaceMap = with_entries s.buffer.kind place (entries_from 0 s.buffer.segments) index in
      let partial_now : IsPartialIndexOf held_now later = partial_with h held index partial right above some in
      let holds_now = holds_flushed t index held image now live snapshot source entry id s after slots under stage flushed right new some holds in
      let spare : IsSpare
      (HasKey later) held_now first = record { header = stands.header; holds = there; none = none_newest held_now later first partial_now (holds_now.ready first waits) } in
      reserve_by (HasKey later) (IsReachable files) held_now
      (λ key need. keys_flushed t index held image now live snapshot source entry id s after slots under stage flushed right new some key (indexed key need).0 (indexed key need).1)
      (reserve_of (HasKey later) held_now (first_free held_now) first
      (λ same. let wrong : None ≡ Some stands.header = some_same None (Some stands.header) (sym closed_now ∙ ap (slice_get held_now) same ∙ there) in cc) closed_now spare)
