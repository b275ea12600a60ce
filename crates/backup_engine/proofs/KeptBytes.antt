-- What stays of a disk that held a store, where closed slots and a record are written.
use Rattle.backup_engine.proofs.Prelude.{one_of, ◌≡◌, ◌≢◌, ◌⊎◌, inl, inr, ℕ, zero, suc, ◌+◌, ◌<◌, ◌≤◌, Bool, true, false, List, [], ◌∷◌, length, Option, Some, None, refl, sym, ◌∙◌, ap, subst, arith, nat_lt, AllByRecursion, ltb-true, ltb-false, range, byte_at, CELL_BYTES, SLOT_BYTES, RESERVE, Root, Put, half_cells, cell_at, slot_at, HeaderValue, SameBefore, Store, Encodes, free_slots, first_free, with_slot, HasJournal, StoreChange, SealContainer, ChangeName, FlushContainer, FreeContainer, with_change, ChangesTo, StandsStill, JournalValue, has_journal, has_kept, SameButRecordBy, MayChange}
use Rattle.disk_format.specs.declared.numbers.TheConstants.{FIRST_SLOT, FIRST_HALF, CONTAINER_GATE}
use Rattle.disk_format.specs.Cells.{Change}
use Rattle.container_log.specs.Many.{NoSlot, placed}
use Rattle.container_meta.specs.Segments.{Contents}
use Rattle.ingest_steps.specs.Offering.{in_free}
use Rattle.ingest_steps.specs.SealingAll.{SameButSlotsOf, slots_of}
use Rattle.store_state.specs.Tables.{closed_from}
use Rattle.reply_text.specs.declared.ending.Ending.{Ending}
use Rattle.store_model.specs.Slots.{HoldSlots}
use Rattle.store_model.specs.Steps.{changed, with_cell, with_other}
use Rattle.journal_cells.specs.Appending.{SameButNext}
use Rattle.store_model.proofs.Journaled.{SameButJournal}
use Rattle.ingest_steps.specs.Recording.{SameButRecord}
use Rattle.ingest_steps.proofs.Recorded.{cell_of_count}
use Rattle.ingest_steps.proofs.RecordFrames.{record_alone}
use Rattle.core_machine.specs.Bytes.{SameJournal}
use Rattle.backup_engine.specs.Frame.{KeepsOpen}
use Rattle.backup_engine.proofs.PutChanges.{IsSeal}

-- ---- closed slots

-- the slots in which a store has no container are closed, from one on
abbrev pub AreClosed : ℕ → List (Option HeaderValue) → List ℕ → Type 0
AreClosed slot [] image = Unit {0}
AreClosed slot (None ∷ cs) image = (byte_at (slot_at slot) image ≢ CONTAINER_GATE) × AreClosed (slot + 1) cs image
AreClosed slot (Some h ∷ cs) image = AreClosed (slot + 1) cs image

closed_held : (slot : ℕ) (held : List (Option HeaderValue)) (image : List ℕ) → HoldSlots slot held image → AreClosed slot held image
closed_held slot [] image holds = tt
closed_held slot (None ∷ cs) image holds = (holds.0, closed_held (slot + 1) cs image holds.1)
closed_held slot (Some h ∷ cs) image holds = closed_held (slot + 1) cs image holds.1

closed_with : (place slot : ℕ) (h : HeaderValue) (held : List (Option HeaderValue)) (image : List ℕ) → AreClosed slot held image → AreClosed slot (with_slot place h held) image
closed_with place slot h [] image closed = tt
closed_with zero slot h (None ∷ cs) image closed = closed.1
closed_with zero slot h (Some g ∷ cs) image closed = closed
closed_with (suc place) slot h (None ∷ cs) image closed = (closed.0, closed_with place (slot + 1) h cs image closed.1)
closed_with (suc place) slot h (Some g ∷ cs) image closed = closed_with place (slot + 1) h cs image closed

-- each of them is
closed_shut : (slot : ℕ) (held : List (Option HeaderValue)) (image : List ℕ) → AreClosed slot held image
    → AllByRecursion (λ s. byte_at (slot_at s) image ≢ CONTAINER_GATE) (closed_from slot held)
closed_shut slot [] image closed = tt
closed_shut slot (None ∷ cs) image closed = (closed.0, closed_shut (suc slot) cs image (subst (λ (n : ℕ). AreClosed n cs image) (omega arith) closed.1))
closed_shut slot (Some h ∷ cs) image closed = closed_shut (suc slot) cs image (subst (λ (n : ℕ). AreClosed n cs image) (omega arith) closed)

-- ---- what of an image a store leaves free

-- A store with more containers than the first one: the slots in which it has none are closed in the image.
pub record IsFreeIn (first : Store) (base : List ℕ) (store : Store) : Type 0 where
  pub slots_are : store.slots ≡ first.slots
  pub rest_is : store ≡ record first { held = store.held }
  pub free : AreClosed 0 store.held base

pub free_held : (base : List ℕ) (store : Store) → Encodes base store → IsFreeIn store base store
free_held base store right = record { slots_are = refl; rest_is = refl; free = closed_held 0 store.held base right.slots_are }

-- and so it is of a store with more containers
pub free_sealed : (first : Store) (base : List ℕ) (changes : List StoreChange) (s t : Store) → ChangesTo changes s t → AllByRecursion IsSeal changes → IsFreeIn first base s →
    IsFreeIn first base t
free_sealed first base [] s t chain seals free = subst (IsFreeIn first base) (sym chain) free
free_sealed first base (SealContainer id kind segments ∷ changes) s t chain seals free =
    free_sealed first base changes (changed (SealContainer id kind segments) s) t chain.1 seals.1 (record {
      slots_are = free.slots_are;
      rest_is = ap (changed (SealContainer id kind segments)) free.rest_is;
      free = closed_with (first_free s.held) 0 _ s.held base free.free;
    })
free_sealed first base (ChangeName name change ∷ changes) s t chain seals free = absurd seals.0
free_sealed first base (FlushContainer id kind segments ∷ changes) s t chain seals free = absurd seals.0
free_sealed first base (FreeContainer slot ∷ changes) s t chain seals free = absurd seals.0

-- the journal of the one is that of the other
module _ (first store : Store) (is : store ≡ record first { held = store.held }) where
  pub journal_later : (image : List ℕ) → HasJournal first image → HasJournal store image
  journal_later image has = subst (λ (s : Store). HasJournal s image) (sym is) (record { holds = has.holds; other = has.other })

  pub still_first : (image : List ℕ) → StandsStill HasJournal store image → StandsStill HasJournal first image
  still_first image (inl stands) =
      let has = subst (λ (s : Store). HasJournal s image) is stands in
      inl (record { holds = has.holds; other = has.other })
  still_first image (inr (inl stands)) =
      let has = subst (λ (s : Store). HasJournal (with_other false s) image) is stands in
      inr (inl (record { holds = has.holds; other = has.other }))
  still_first image (inr (inr stands)) =
      let has = subst (λ (s : Store). HasJournal (with_cell s) image) is stands in
      inr (inr (record { holds = has.holds; other = has.other }))

  pub change_first : (name : List ℕ) (change : Change) (image : List ℕ) → HasJournal (with_change name change store) image → HasJournal (with_change name change first) image
  change_first name change image stands =
      let has = subst (λ (s : Store). HasJournal (with_change name change s) image) is stands in
      record { holds = has.holds; other = has.other }

  pub change_later : (name : List ℕ) (change : Change) (image : List ℕ) → HasJournal (with_change name change first) image → HasJournal (with_change name change store) image
  change_later name change image has =
      subst (λ (s : Store). HasJournal (with_change name change s) image) (sym is) (record { holds = has.holds; other = has.other })

-- the slots that containers are placed in are closed there
pub placed_shut : (base : List ℕ) (slots : List ℕ) (id : ℕ) (cs : List Contents) → AllByRecursion (λ s. byte_at (slot_at s) base ≢ CONTAINER_GATE) slots
    → AllByRecursion (λ s. byte_at (slot_at s) base ≢ CONTAINER_GATE) (slots_of (placed slots id cs))
placed_shut base [] id cs shut = tt
placed_shut base (s ∷ ss) id [] shut = tt
placed_shut base (s ∷ ss) id (c ∷ cs) shut = (shut.0, placed_shut base ss (suc id) cs shut.1)

pub free_are_shut : (first : Store) (base : List ℕ) (store : Store) → IsFreeIn first base store → (id : ℕ) (cs : List Contents)
    → AllByRecursion (λ s. byte_at (slot_at s) base ≢ CONTAINER_GATE) (slots_of (in_free id cs store))
free_are_shut first base store free id cs = placed_shut base (closed_from 0 store.held) id cs (closed_shut 0 store.held base free.free)

-- ---- what stays

-- all before the slots, and each slot that was open
pub record KeepsSlots (slots : ℕ) (base new : List ℕ) : Type 0 where
  pub size_is : length new ≡ length base
  pub front : (p n : ℕ) → p + n ≤ FIRST_SLOT → range p n new ≡ range p n base
  pub containers : (slot : ℕ) → slot < slots → byte_at (slot_at slot) base ≡ CONTAINER_GATE → range (slot_at slot) SLOT_BYTES new ≡ range (slot_at slot) SLOT_BYTES base

pub slots_here : (slots : ℕ) (base : List ℕ) → KeepsSlots slots base base
slots_here slots base = record { size_is = refl; front = λ p n within. refl; containers = λ slot within opened. refl }

module _ (slots : ℕ) (base old : List ℕ) (keeps : KeepsSlots slots base old) where
  -- where nothing changes but what comes after all slots
  pub slots_settled : (new : List ℕ) → SameBefore (slot_at slots) old new → KeepsSlots slots base new
  slots_settled new same = record {
    size_is = same.size ∙ keeps.size_is;
    front = λ p n within. same.before p n (omega (arith, within)) ∙ keeps.front p n within;
    containers = λ slot within opened. same.before (slot_at slot) SLOT_BYTES (omega (arith, within)) ∙ keeps.containers slot within opened;
  }

  -- where closed slots change
  pub slots_sealed : (taken : List ℕ) (new : List ℕ) → AllByRecursion (λ s. byte_at (slot_at s) base ≢ CONTAINER_GATE) taken → SameButSlotsOf slots taken old new
      → KeepsSlots slots base new
  slots_sealed taken new shut same = record {
    size_is = same.size ∙ keeps.size_is;
    front = λ p n within. same.same p n (none_before p n within, omega (arith, within)) ∙ keeps.front p n within;
    containers = λ other within opened. same.same (slot_at other) SLOT_BYTES (none_open other opened, omega (arith, within)) ∙ keeps.containers other within opened;
  }
    where
      none_before : (p n : ℕ) → p + n ≤ FIRST_SLOT → NoSlot taken p n
      none_before p n within i slot here = inl (omega (arith, within))

      apart : (other slot : ℕ) (below : Bool) → nat_lt other slot ≡ below → (other ≡ slot → ⊥)
          → (slot_at other + SLOT_BYTES ≤ slot_at slot) ⊎ (slot_at slot + SLOT_BYTES ≤ slot_at other)
      apart other slot true is differ = inl (omega (arith, ltb-true other slot is))
      apart other slot false is differ = inr (omega (arith, ltb-false other slot is, differ))

      -- an open slot is none of them
      none_open : (other : ℕ) → byte_at (slot_at other) base ≡ CONTAINER_GATE → NoSlot taken (slot_at other) SLOT_BYTES
      none_open other opened i slot here =
          apart other slot (nat_lt other slot) refl
          (λ is. one_of (λ s. byte_at (slot_at s) base ≢ CONTAINER_GATE) taken slot shut (i, here) (ap (λ (s : ℕ). byte_at (slot_at s) base) (sym is) ∙ opened))

-- what was open stays
module _ (store : Store) (base : List ℕ) (right : Encodes base store) (reserve : RESERVE ≤ free_slots store.held) (old : List ℕ) (keeps : KeepsSlots store.slots base old) where
  pub open_kept : (name : List ℕ) (ending : Option Ending) → KeepsOpen name ending base old
  open_kept name ending = record {
    store = store;
    right = right;
    reserve = reserve;
    size_is = keeps.size_is;
    format = keeps.front 0 CELL_BYTES (omega arith);
    journal = λ needs. record {
      head = keeps.front 0 FIRST_HALF (omega arith);
      cells = λ half cell low within other. keeps.front (cell_at half cell) CELL_BYTES (omega (arith, low, within));
    };
    containers = keeps.containers;
    names = inl (inl (has_kept store base old keeps.front (has_journal store base right)));
  }

  -- and so it does where a record is written
  module _ (journal : JournalValue) (half_is : journal.half ≡ store.selector.half) (count_is : journal.count ≡ length store.records) (new : List ℕ)
      (same : SameButRecord journal old new) where
    low : journal.half ≤ 1
    low = omega (arith, half_is, right.journal.selector_is.0.half)

    alone : SameButJournal old new
    alone = record_alone journal old new low same

    module _ (within : journal.count < half_cells) where
      next : SameButNext journal old new
      next = subst (λ (free : Bool). SameButRecordBy free journal old new) (cell_of_count journal within) same

      -- each place has one half and one cell
      same_half : (h c : ℕ) → h ≤ 1 → c < half_cells → cell_at h c ≡ cell_at journal.half journal.count → h ≡ journal.half
      same_half h c low_too within_too is = omega (arith, low_too, within_too, is, low, within)

      same_cell : (h c : ℕ) → h ≤ 1 → c < half_cells → cell_at h c ≡ cell_at journal.half journal.count → c ≡ journal.count
      same_cell h c low_too within_too is = omega (arith, low_too, within_too, is, low, within)

      below_or : (h c : ℕ) (below : Bool) → nat_lt (cell_at h c) (cell_at journal.half journal.count) ≡ below → (cell_at h c ≡ cell_at journal.half journal.count → ⊥)
          → range (cell_at h c) CELL_BYTES new ≡ range (cell_at h c) CELL_BYTES old
      below_or h c true is differ = next.before (cell_at h c) CELL_BYTES (omega (arith, ltb-true (cell_at h c) (cell_at journal.half journal.count) is))
      below_or h c false is differ = next.after (cell_at h c) CELL_BYTES (omega (arith, ltb-false (cell_at h c) (cell_at journal.half journal.count) is, differ))

      journal_next : (ending : Option Ending) → MayChange ending → SameJournal (λ half cell. MayChange ending × (half ≡ store.selector.half) × (cell ≡ length store.records)) base
          new
      journal_next ending may = record {
        head = next.before 0 FIRST_HALF (omega arith) ∙ keeps.front 0 FIRST_HALF (omega arith);
        cells = λ h c low_too within_too other.
            below_or h c (nat_lt (cell_at h c) (cell_at journal.half journal.count)) refl
            (λ is. other (may, same_half h c low_too within_too is ∙ half_is, same_cell h c low_too within_too is ∙ count_is))
            ∙ keeps.front (cell_at h c) CELL_BYTES (omega (arith, low_too, within_too));
      }

    pub open_next : (name : List ℕ) (ending : Option Ending) → MayChange ending
        → StandsStill HasJournal store new ⊎ ((root : Root) × HasJournal (with_change name (Put root) store) new) → KeepsOpen name ending base new
    open_next name ending may names = record {
      store = store;
      right = right;
      reserve = reserve;
      size_is = alone.size ∙ keeps.size_is;
      format = alone.format ∙ keeps.front 0 CELL_BYTES (omega arith);
      journal = λ needs. journal_next (omega (arith, needs may, count_is)) ending may;
      containers = λ slot below opened. alone.slots (slot_at slot) SLOT_BYTES (omega arith) ∙ keeps.containers slot below opened;
      names = elim names [ inl still ↦ inl still | inr put ↦ inr (may, put) ];
    }
