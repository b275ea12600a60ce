-- What commands never change, whatever the disk holds (docs/MODEL.md, 'The promise').
use Rattle.std.specs.Prelude.{◌≡◌, ◌⊎◌, ℕ, ◌+◌, ◌-◌, ◌≤◌, ◌<◌, List, length, slice_get, Contains, Option, Some, None}
use Rattle.std.specs.List.{AllByRecursion}
use Rattle.base_model.specs.Bytes.{range, byte_at}
use Rattle.base_model.specs.Frames.{SameOutside}
use Rattle.base_model.specs.Known.{Known, KnownWith}
use Rattle.dd_disk.specs.View.{DiskView}
use Rattle.disk_format.specs.declared.numbers.TheConstants.{CELL_BYTES, SLOT_BYTES, CONTAINER_GATE, FORMAT_GATE, RESERVE}
use Rattle.disk_format.specs.Cells.{Root}
use Rattle.disk_format.specs.Cells.Change.{Put, Delete as Gone}
use Rattle.disk_format.specs.Layout.{half_cells, cell_at, slot_at}
use Rattle.journal_cells.specs.Checkpoints.{SameButHalf}
use Rattle.store_model.specs.Freeing.{HasNoGate}
use Rattle.store_model.specs.Image.{Store, Encodes}
use Rattle.store_model.specs.Slots.{free_slots}
use Rattle.store_model.specs.Standing.{HasJournal}
use Rattle.store_model.specs.Steps.{HasCellsFor, with_change}
use Rattle.store_core.specs.Frame.{HadContainer}
use Rattle.ingest_steps.specs.Naming.{StandsStill}
use Rattle.reply_text.specs.declared.ending.Ending.{Ending}
use Rattle.store_machine.specs.Commands.{Replied}
use Rattle.core_machine.specs.Bytes.{SameJournal}
use Rattle.script_runner.specs.Frame.{KeepsOver, NeverSweeps}
use Rattle.backup_engine.specs.Line.{CommandLine, Format, Ingest, Delete, Collect}
use Rattle.backup_engine.specs.Promise.{LeavesMeanwhile, MayChange}

-- The content held a store that is opened. The format cell is as it was, and each container slot that was open. So is the journal
-- but for the cell after its records, and that, too, where the map may not have changed; where it may have, and no cell was free, a
-- checkpoint may have written the journal anew.
pub record KeepsOpen (name : List ℕ) (ending : Option Ending) (old new : List ℕ) : Type 0 where
  pub store : Store
  pub right : Encodes old store
  pub reserve : RESERVE ≤ free_slots store.held
  pub size_is : length new ≡ length old
  pub format : range 0 CELL_BYTES new ≡ range 0 CELL_BYTES old
  pub journal : (MayChange ending → HasCellsFor store 1)
      → SameJournal (λ half cell. MayChange ending × (half ≡ store.selector.half) × (cell ≡ length store.records)) old new
  pub containers : (slot : ℕ) → slot < store.slots → byte_at (slot_at slot) old ≡ CONTAINER_GATE
      → range (slot_at slot) SLOT_BYTES new ≡ range (slot_at slot) SLOT_BYTES old
  -- names and last number stand still, or the name was given a root
  pub names : StandsStill HasJournal store new ⊎ (MayChange ending × ((root : Root) × HasJournal (with_change name (Put root) store) new))

-- all bytes but those of a record of this store: the next cell's; or, where none is free, those of the other half of the journal and of
-- its selector
abbrev pub SameButRecordOf : Store → List ℕ → List ℕ → Type 0
SameButRecordOf store old new =
    (HasCellsFor store 1 × SameOutside (cell_at store.selector.half (length store.records)) CELL_BYTES old new)
    ⊎ ((half_cells ≤ length store.records) × SameButHalf (1 - store.selector.half) old new)

-- The content held a store that is opened, whose map may have changed. All but the bytes of one record is as it was.
-- Names and last number stand still, or the name is gone.
pub record KeepsButRecord (name : List ℕ) (ending : Option Ending) (old new : List ℕ) : Type 0 where
  pub may : MayChange ending
  pub store : Store
  pub right : Encodes old store
  pub reserve : RESERVE ≤ free_slots store.held
  pub same : SameButRecordOf store old new
  pub names : StandsStill HasJournal store new ⊎ HasJournal (with_change name Gone store) new

-- some bytes lie beside all of these slots
abbrev pub LiesBeside : List ℕ → ℕ → ℕ → Type 0
LiesBeside slots at count = AllByRecursion (λ slot. (at + count ≤ slot_at slot) ⊎ (slot_at slot + SLOT_BYTES ≤ at)) slots

-- a slot that a collection may have filled, where it gave back the containers of these: it was closed, or is one of them
abbrev pub MayFill : Store → List ℕ → ℕ → Type 0
MayFill store freed slot = (slice_get store.held slot ≡ Some None) ⊎ Contains freed slot

-- all before the end of a store's slots is as it was, but the gates of some slots and all of others
pub record SameButSlotsOf (store : Store) (freed filled : List ℕ) (old new : List ℕ) : Type 0 where
  pub size_is : length new ≡ length old
  pub same : (at count : ℕ) → at + count ≤ slot_at store.slots → HasNoGate freed at count → LiesBeside filled at count
      → range at count new ≡ range at count old

-- The content held a store that is opened. All before the end of the slots is as it was, but the gates of some slots, each of which had a
-- container, and some slots as wholes, each of which was closed, or is one of the former: so the format cell, the journal, and all that the
-- other slots have after their gates.
pub record KeepsButSweep (old new : List ℕ) : Type 0 where
  pub store : Store
  pub right : Encodes old store
  pub reserve : RESERVE ≤ free_slots store.held
  pub freed : List ℕ
  pub had : AllByRecursion (HadContainer store) freed
  pub filled : List ℕ
  pub may : AllByRecursion (MayFill store freed) filled
  pub same : SameButSlotsOf store freed filled old new

-- What a command leaves of any content. Of a disk with no store a `format` says itself what it leaves.
abbrev pub KeepsRest : CommandLine → Option Ending → List ℕ → List ℕ → Type 0
KeepsRest (Format slots) ending old new = byte_at 0 old ≡ FORMAT_GATE → new ≡ old
KeepsRest (Ingest name) ending old new = (new ≡ old) ⊎ KeepsOpen name ending old new
KeepsRest (Delete name) ending old new = (new ≡ old) ⊎ KeepsButRecord name ending old new
KeepsRest (Collect percent) ending old new = (new ≡ old) ⊎ KeepsButSweep old new
KeepsRest command ending old new = new ≡ old

-- And so it is of what a crash leaves at any moment, but for what one might have left before.
pub record KeepsOthers (command : CommandLine) (ending : Option Ending) (disk disk_now : DiskView) : Type 0 where
  pub content : Known disk.content (λ old. KnownWith disk_now.content (KeepsRest command ending old))
  pub crash : Known disk.content (λ old. LeavesMeanwhile (KeepsRest command ending old) disk disk_now)

-- ---- lines of a script

-- The content held a store that is opened. The format cell and each container are as they were; and where these lines need no checkpoint,
-- what was written in the journal.
pub record KeepsStore (rs : List Replied) (old new : List ℕ) : Type 0 where
  pub store : Store
  pub right : Encodes old store
  pub reserve : RESERVE ≤ free_slots store.held
  pub written : KeepsOver rs store old new

-- What lines leave of any content: it is as it was, or what was written of the store that it holds stays.
abbrev pub KeepsAll : List Replied → List ℕ → List ℕ → Type 0
KeepsAll rs old new = (new ≡ old) ⊎ KeepsStore rs old new

-- So it is where none of them makes steps of a collection.
pub record LinesKeepOthers (rs : List Replied) (disk disk_now : DiskView) : Type 0 where
  pub content : NeverSweeps rs → Known disk.content (λ old. KnownWith disk_now.content (KeepsAll rs old))
  pub crash : NeverSweeps rs → Known disk.content (λ old. LeavesMeanwhile (KeepsAll rs old) disk disk_now)
