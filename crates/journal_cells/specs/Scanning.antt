-- What is known on the way through a half of the journal.
use Rattle.std.specs.Prelude.{◌≡◌, ◌≢◌, ◌+◌, ◌*◌, ◌<◌, ◌≤◌, ◌-◌, ℕ, List, length, max, Option, Some, None, Result, Ok, Err}
use Rattle.std.specs.FinMap as finite
use Rattle.base_model.specs.Bytes.{range, byte_at}
use Rattle.disk_format.specs.Cells.{RecordValue, IsRecord, record_cell}
use Rattle.disk_format.specs.declared.numbers.TheConstants.{CELL_BYTES, RECORD_GATE}
use Rattle.disk_format.specs.Layout.{cell_at, half_cells}
use Rattle.namespace.specs.Names.{IsTaken, names_after}
use Rattle.store_model.specs.Journal.{last_of, HoldsRecords, StandFrom, Follow}
use Rattle.journal_cells.specs.declared.fault.CellFault.{CellFault}
use Rattle.journal_cells.specs.declared.heads.Selection.{Selection}
use Rattle.journal_cells.specs.declared.scanning.Replayed.{Replayed}
use Rattle.journal_cells.specs.Journal.{JournalValue}
use Rattle.journal_cells.specs.Records.{Replay, half_in, nothing_yet, open_cell, record_in, replayed}

abbrev pub replay : Replayed → Replay
replay r = record { count = r.count; previous = r.previous; names = r.names }

-- the journal of what the selectors say and of what the records of the half leave
abbrev pub opened : Selection → Replay → JournalValue
opened s r = record {
  half = s.selector.half;
  generation = s.selector.generation;
  other_open = s.other_open;
  count = r.count;
  previous = r.previous;
  last = max s.selector.last r.previous;
}

-- what a reader finds in the cell after some records
abbrev pub next_in : ℕ → Replay → List ℕ → Result RecordValue CellFault
next_in half replay image =
    let at = cell_at half replay.count in
    record_in at replay.previous replay.names (range at CELL_BYTES image)

-- the cell after some records has this record
pub record HasNext (half : ℕ) (replay : Replay) (r : RecordValue) (image : List ℕ) : Type 0 where
  pub spelled : range (cell_at half replay.count) CELL_BYTES image ≡ record_cell r
  pub read : next_in half replay image ≡ Ok r

-- the cell after some records is open, and has this fault
pub record HasNextFault (half : ℕ) (replay : Replay) (fault : CellFault) (image : List ℕ) : Type 0 where
  pub open_gate : byte_at (cell_at half replay.count) image ≡ RECORD_GATE
  pub read : next_in half replay image ≡ Err fault

-- what the next cell shows, after some records: a record, or a closed gate
abbrev pub IsNext : ((List ℕ → Type 0) → Type 0) → ℕ → Replay → Option RecordValue → Type 0
IsNext shown half replay None = shown (λ image. byte_at (cell_at half replay.count) image ≢ RECORD_GATE)
IsNext shown half replay (Some r) = IsRecord r × (replay.previous < r.sequence) × IsTaken replay.names r × shown (HasNext half replay r)

-- records leave this
pub record Leave (records : List RecordValue) (replay : Replay) : Type 0 where
  pub right : Follow 0 finite.empty records
  pub count : replay.count ≡ length records
  pub previous : replay.previous ≡ last_of 0 records
  pub names : replay.names ≡ names_after records finite.empty

-- records of a half stand first, and a reader from its first cell on goes on after them
pub record HasPart (half : ℕ) (records : List RecordValue) (replay : Replay) (image : List ℕ) : Type 0 where
  pub stand : StandFrom half 0 records image
  pub goes_on : replayed half half_cells nothing_yet image ≡ replayed half (half_cells - replay.count) replay image

-- records stand first in a half, and a reader from its first cell on ends after them
pub record HasRead (half : ℕ) (records : List RecordValue) (replay : Replay) (image : List ℕ) : Type 0 where
  pub stand : StandFrom half 0 records image
  pub read : replayed half half_cells nothing_yet image ≡ Ok replay

-- records are all of a half, and a reader finds what they leave
pub record HasWhole (half : ℕ) (records : List RecordValue) (replay : Replay) (image : List ℕ) : Type 0 where
  pub holds : HoldsRecords half records image
  pub read : half_in half image ≡ Ok replay

-- the first records of a half were read
pub record IsPart (shown : (List ℕ → Type 0) → Type 0) (half : ℕ) (replay : Replay) : Type 0 where
  pub records : List RecordValue
  pub leave : Leave records replay
  pub seen : shown (HasPart half records replay)

-- the records of a half were read up to its first closed cell
pub record IsRead (shown : (List ℕ → Type 0) → Type 0) (half : ℕ) (replay : Replay) : Type 0 where
  pub records : List RecordValue
  pub few : length records ≤ half_cells
  pub leave : Leave records replay
  pub seen : shown (HasRead half records replay)

-- all records of a half were read, and no cell past them is open
pub record IsWhole (shown : (List ℕ → Type 0) → Type 0) (half : ℕ) (replay : Replay) : Type 0 where
  pub records : List RecordValue
  pub few : length records ≤ half_cells
  pub leave : Leave records replay
  pub seen : shown (HasWhole half records replay)

-- ---- cells past the records

-- none of these cells of a half is open
abbrev pub AreClosed : ℕ → ℕ → ℕ → List ℕ → Type 0
AreClosed half from to image = (cell : ℕ) → from ≤ cell → cell < to → byte_at (cell_at half cell) image ≢ RECORD_GATE

-- a cell is the first open one from another on
pub record IsFirstOpen (half from cell : ℕ) (image : List ℕ) : Type 0 where
  pub from_there : from ≤ cell
  pub before : AreClosed half from cell image
  pub opened : byte_at (cell_at half cell) image ≡ RECORD_GATE

-- which is the first open one among so many, if any
abbrev pub IsFirstAmong : ((List ℕ → Type 0) → Type 0) → ℕ → ℕ → ℕ → Option ℕ → Type 0
IsFirstAmong shown half from count None = shown (AreClosed half from (from + count))
IsFirstAmong shown half from count (Some cell) = (cell < from + count) × shown (IsFirstOpen half from cell)

-- none of these cells, whose bytes these are, is open
abbrev pub AreShut : ℕ → List ℕ → Type 0
AreShut count cells = (k : ℕ) → k < count → byte_at (CELL_BYTES * k) cells ≢ RECORD_GATE

-- which is the first open one of so many, if any
abbrev pub IsFirstIn : List ℕ → ℕ → Option ℕ → Type 0
IsFirstIn cells count None = AreShut count cells
IsFirstIn cells count (Some k) = (k < count) × AreShut k cells × (byte_at (CELL_BYTES * k) cells ≡ RECORD_GATE)

-- a fault is that of the first open cell from one on
pub record IsOpenFault (shown : (List ℕ → Type 0) → Type 0) (half from : ℕ) (fault : CellFault) : Type 0 where
  pub cell : ℕ
  pub within : cell < half_cells
  pub fault_is : fault ≡ open_cell half cell
  pub seen : shown (IsFirstOpen half from cell)
