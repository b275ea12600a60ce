-- What the steps of a core leave of the bytes of its disk, whatever these are (docs/MODEL.md, 'The core').
use Rattle.std.specs.Prelude.{◌≡◌, ℕ, ◌+◌, ◌<◌, ◌≤◌, List, [], ◌∷◌, length, slice_get, None, Some}
use Rattle.base_model.specs.Bytes.{range}
use Rattle.base_model.specs.Known.{KnownWith}
use Rattle.disk_format.specs.declared.numbers.TheConstants.{CELL_BYTES, SLOT_BYTES, FIRST_HALF, RESERVE}
use Rattle.disk_format.specs.Layout.{half_cells, cell_at, slot_at}
use Rattle.dd_disk.specs.View.{CrashLeaves}
use Rattle.dd_disk.specs.Moves.{StandsFor}
use Rattle.actor_parts.specs.StepValue as asked
use Rattle.actor_parts.specs.StepValue.{StepValue}
use Rattle.container_meta.specs.Spelling.{HeaderValue}
use Rattle.store_model.specs.Image.{Store, Encodes, IsValidFor}
use Rattle.store_model.specs.Slots.{HasFree, free_slots}
use Rattle.store_model.specs.Standing.{HasJournal}
use Rattle.store_model.specs.Steps.{StoreChange, HasCellsFor}
use Rattle.store_state.specs.Settled.{IsSettled}
use Rattle.store_state.specs.Tables.{Represents}
use Rattle.store_core.specs.Core.{ChangesTo}
use Rattle.store_core.specs.Runs.{AreNoGcSteps, FileEvent, CoreRun, changes_of, events_of}
use Rattle.store_core.specs.State.{CoreState, Event}

-- The tables are those of the store, which has a free slot, and the disk is settled.
pub record IsOn (store : Store) (c : CoreState) : Type 0 where
  pub represents : Represents store c.known c.tables
  pub valid : IsValidFor c.disk.size store
  pub has_free : HasFree store.held
  pub settled : IsSettled c.tables.slots c.disk

-- how many cells of the half some steps may need, one each: those that give a name a root or take it away
abbrev pub commands_of : StepValue → ℕ
commands_of (asked.Commit name root) = 1
commands_of (asked.Delete name) = 1
commands_of step = 0

abbrev pub commands_in : List Event → ℕ
commands_in [] = 0
commands_in (e ∷ es) = commands_of e.step + commands_in es

-- The selectors are as they were, and the record cells, but those of the half that counts from the end of the store's records on and
-- before this one.
pub record KeepsJournal (store : Store) (end : ℕ) (old new : List ℕ) : Type 0 where
  pub head : range 0 FIRST_HALF new ≡ range 0 FIRST_HALF old
  pub cells : (half cell : ℕ) → half ≤ 1 → cell < half_cells
      → ¬ ((half ≡ store.selector.half) × (length store.records ≤ cell) × (cell < end))
      → range (cell_at half cell) CELL_BYTES new ≡ range (cell_at half cell) CELL_BYTES old

-- Bytes that held the store, and what they have become. The format cell is as it was, and so are these slots; and the journal but
-- for some cells, where no checkpoint was made.
pub record KeepsBytes (store : Store) (end : ℕ) (NoCheckpoint : Type 0) (Stays : ℕ → Type 0) (old new : List ℕ) : Type 0 where
  pub size_is : length new ≡ length old
  pub format : range 0 CELL_BYTES new ≡ range 0 CELL_BYTES old
  pub journal : NoCheckpoint → KeepsJournal store end old new
  pub slots : (slot : ℕ) → slot < store.slots → Stays slot
      → range (slot_at slot) SLOT_BYTES new ≡ range (slot_at slot) SLOT_BYTES old

-- But the cells of the records more, and the slots with another container than before, all is as it was; of the journal, where the
-- same selector counts.
abbrev pub AddsBytes : Store → Store → List ℕ → List ℕ → Type 0
AddsBytes s t = KeepsBytes s (length t.records) (t.selector ≡ s.selector) (λ slot. slice_get t.held slot ≡ slice_get s.held slot)

-- a slot had a container
abbrev pub HadContainer : Store → ℕ → Type 0
HadContainer s slot = (h : HeaderValue) × (slice_get s.held slot ≡ Some (Some h))

-- But the cells after the records, and the slots that were closed, all is as it was; of the journal, where its half has cells for so
-- many records.
abbrev pub KeepsWritten : Store → ℕ → List ℕ → List ℕ → Type 0
KeepsWritten s count = KeepsBytes s half_cells (HasCellsFor s count) (HadContainer s)

-- the same of the format cell and the containers alone
abbrev pub KeepsContainers : Store → List ℕ → List ℕ → Type 0
KeepsContainers s = KeepsBytes s half_cells ⊥ (HadContainer s)

-- Where steps lead by their changes: no slot has another container than before but those that were closed, and the content has
-- changed by what was added.
pub record HasGrown (changes : List StoreChange) (s : Store) (base : List ℕ) (c : CoreState) : Type 0 where
  pub store : Store
  pub chain : ChangesTo changes s store
  pub on : IsOn store c
  pub held : (slot : ℕ) (h : HeaderValue) → slice_get s.held slot ≡ Some (Some h) → slice_get store.held slot ≡ Some (Some h)
  pub content : KnownWith c.disk.content (AddsBytes s store base)
  -- where the content had the journal of the first store, each image has that of this one, whatever the containers hold
  pub journal : HasJournal s base → StandsFor (HasJournal store) c.disk

-- A core that isn't stopped at the end of a run without steps of a collection has changed no bytes but those of the records and
-- containers that it acknowledged, and what comes after all slots.
abbrev pub AddsAlone : (C : Type 0) → (C → CoreState) → Type 0
AddsAlone C state = (steps : List FileEvent) (s : Store) (base : List ℕ) (old new : C)
    → IsOn s (state old) → (state old).disk.content ≡ Some base → CoreRun C state (events_of steps) old new
    → AreNoGcSteps (events_of steps) → (state new).stop ≡ None → HasGrown (changes_of steps) s base (state new)

-- In what reads give, and in what a crash leaves at any moment of a run without steps of a collection, what was written stays, also
-- where a write fails; of the journal, where its half has cells for all commands of the run.
abbrev pub WrittenStays : (C : Type 0) → (C → CoreState) → Type 0
WrittenStays C state = (events : List Event) (s : Store) (base : List ℕ) (old new : C)
    → IsOn s (state old) → (state old).disk.content ≡ Some base → CoreRun C state events old new
    → AreNoGcSteps events → KnownWith (state new).disk.content (KeepsWritten s (commands_in events) base)
    × CrashLeaves (KeepsWritten s (commands_in events) base) (state old).disk (state new).disk

-- a store that an image is has its reserve
abbrev pub HasReserveIn : List ℕ → Type 0
HasReserveIn image = (store : Store) → Encodes image store → RESERVE ≤ free_slots store.held

-- Where two slots were closed at the beginning of such a run, two are at its end, also where a write failed. So an opening makes no room.
abbrev pub ReserveStays : (C : Type 0) → (C → CoreState) → Type 0
ReserveStays C state = (events : List Event) (s : Store) (base : List ℕ) (old new : C)
    → IsOn s (state old) → (state old).disk.content ≡ Some base → Encodes base s → RESERVE ≤ free_slots s.held
    → CoreRun C state events old new → AreNoGcSteps events → KnownWith (state new).disk.content HasReserveIn
