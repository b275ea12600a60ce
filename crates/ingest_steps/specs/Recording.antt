-- What is written of a record in a journal: its cell alone, or where no cell is free first a checkpoint (docs/MODEL.md, 'Steps').
use Rattle.std.specs.Prelude.{◌⊎◌, ℕ, ◌-◌, ◌<◌, ◌≤◌, Bool, true, false, nat_lt, if◌then◌else◌, List, Option, Some, None}
use Rattle.disk_format.specs.Cells.{RecordValue}
use Rattle.disk_format.specs.Layout.{half_cells}
use Rattle.dd_disk.specs.View.{DiskView}
use Rattle.base_model.specs.Known.{Known, KnownWith}
use Rattle.namespace.specs.Names.{NameMap}
use Rattle.journal_cells.specs.declared.checkpoint.FreshHalf.{FreshHalf}
use Rattle.journal_cells.specs.Journal.{JournalValue}
use Rattle.journal_cells.specs.Appending.{SameButNext, Appends, IsAppended}
use Rattle.journal_cells.specs.Checkpoints.{Checkpoints, IsCheckpointed, IsFreshHalf, SameButHalf, checkpointed, next_selector}

-- the half that counts has a free cell
abbrev pub has_cell : JournalValue → Bool
has_cell journal = nat_lt journal.count half_cells

-- it has none
abbrev pub IsHalfFull : JournalValue → Type 0
IsHalfFull journal = half_cells ≤ journal.count

-- the journal with a free cell: it as it is, or after a checkpoint of these names
abbrev pub journal_with_cell : NameMap → JournalValue → JournalValue
journal_with_cell names journal = if has_cell journal then journal else checkpointed names journal

-- what was prepared, so that a record finds a free cell: nothing, or a checkpoint of these names
abbrev pub IsCellFor : NameMap → JournalValue → Option FreshHalf → Type 0
IsCellFor names journal None = journal.count < half_cells
IsCellFor names journal (Some fresh) = IsHalfFull journal × IsFreshHalf (next_selector journal) names fresh

-- the same of some names
abbrev pub HasCellPrepared : JournalValue → Option FreshHalf → Type 0
HasCellPrepared journal fresh = (names : NameMap) × IsCellFor names journal fresh

-- a checkpoint was made, and a record is being appended after it
pub record FollowsCheckpoint (names : NameMap) (journal : JournalValue) (r : RecordValue) (given new : List ℕ) : Type 0 where
  pub mid : List ℕ
  pub is : IsCheckpointed journal names given mid
  pub room : (checkpointed names journal).count < half_cells
  pub appends : Appends (checkpointed names journal) r mid mid new

-- it was
pub record HasFollowed (names : NameMap) (journal : JournalValue) (r : RecordValue) (given new : List ℕ) : Type 0 where
  pub mid : List ℕ
  pub is : IsCheckpointed journal names given mid
  pub room : (checkpointed names journal).count < half_cells
  pub appended : IsAppended (checkpointed names journal) r mid new

-- A record is being written: an image is that of an append; or a checkpoint is being made, or was, and the record is appended.
abbrev pub RecordsBy : Bool → NameMap → JournalValue → RecordValue → List ℕ → List ℕ → List ℕ → Type 0
RecordsBy true names journal r given old new = Appends journal r given old new
RecordsBy false names journal r given old new = Checkpoints journal names given old new ⊎ FollowsCheckpoint names journal r given new

abbrev pub Records : NameMap → JournalValue → RecordValue → List ℕ → List ℕ → List ℕ → Type 0
Records names journal = RecordsBy (has_cell journal) names journal

-- it was
abbrev pub IsRecordedBy : Bool → NameMap → JournalValue → RecordValue → List ℕ → List ℕ → Type 0
IsRecordedBy true names journal r given new = IsAppended journal r given new
IsRecordedBy false names journal r given new = HasFollowed names journal r given new

abbrev pub IsRecorded : NameMap → JournalValue → RecordValue → List ℕ → List ℕ → Type 0
IsRecorded names journal = IsRecordedBy (has_cell journal) names journal

-- ---- what becomes of the bytes

-- All bytes are as they were but those that a record changes: the next cell's; or, where none is free, those of the other half and
-- of its selector.
abbrev pub SameButRecordBy : Bool → JournalValue → List ℕ → List ℕ → Type 0
SameButRecordBy true journal old new = SameButNext journal old new
SameButRecordBy false journal old new = SameButHalf (1 - journal.half) old new

abbrev pub SameButRecord : JournalValue → List ℕ → List ℕ → Type 0
SameButRecord journal = SameButRecordBy (has_cell journal) journal

-- where it is done, the content is as before but for these bytes
abbrev pub KeepsButRecord : JournalValue → DiskView → DiskView → Type 0
KeepsButRecord journal old new = Known old.content (λ given. KnownWith new.content (SameButRecord journal given))
