-- What the journal holds while a record is appended, and after.
use Rattle.std.specs.Prelude.{◌≡◌, ◌⊎◌, ℕ, ◌<◌, List, [], ◌∷◌, ◌++◌}
use Rattle.std.specs.FinMap as finite
use Rattle.base_model.specs.Bytes.{byte_at}
use Rattle.base_model.specs.Frames.{SameOutside}
use Rattle.disk_format.specs.declared.numbers.TheConstants.{CELL_BYTES, RECORD_GATE}
use Rattle.disk_format.specs.Cells.{RecordValue}
use Rattle.disk_format.specs.Layout.{cell_at}
use Rattle.namespace.specs.Names.{IsTaken, names_after}
use Rattle.store_model.specs.Journal.{StandFrom, last_of}
use Rattle.journal_cells.specs.Journal.{JournalValue, IsJournalOf, with_record}

-- all bytes but those of the cell after the journal's records are as they were
abbrev pub SameButNext : JournalValue → List ℕ → List ℕ → Type 0
SameButNext journal old new = SameOutside (cell_at journal.half journal.count) CELL_BYTES old new

-- that cell is open
abbrev pub IsNextOpen : JournalValue → List ℕ → Type 0
IsNextOpen journal image = byte_at (cell_at journal.half journal.count) image ≡ RECORD_GATE

-- that cell has this record
abbrev pub HasNext : JournalValue → RecordValue → List ℕ → Type 0
HasNext journal r image = StandFrom journal.half journal.count (r ∷ []) image

-- the records of a journal, and one of a greater number that the names take
pub record CanFollow (journal : JournalValue) (r : RecordValue) (records : List RecordValue) (image : List ℕ) : Type 0 where
  pub journal_is : IsJournalOf journal records image
  pub rises : last_of 0 records < r.sequence
  pub taken : IsTaken (names_after records finite.empty) r

-- Nothing but the next cell changed, and that was not opened: the journal's records stand still.
pub record StandsStill (journal : JournalValue) (old new : List ℕ) : Type 0 where
  pub same : SameButNext journal old new
  pub opens : IsNextOpen journal new → IsNextOpen journal old
  pub records_are : (records : List RecordValue) → IsJournalOf journal records old → IsJournalOf journal records new

-- Nothing but the next cell changed, and that is open only with the record: the journal's records stand, or they and it.
pub record StandsOrFollows (journal : JournalValue) (r : RecordValue) (old new : List ℕ) : Type 0 where
  pub same : SameButNext journal old new
  pub opens : IsNextOpen journal new → HasNext journal r new
  pub records_are : (records : List RecordValue) → CanFollow journal r records old
      → IsJournalOf journal records new ⊎ IsJournalOf (with_record r journal) (records ++ r ∷ []) new

-- A record is being appended: an image's records stand still; or those stand that the disk gave at the start, or they and
-- the new one.
abbrev pub Appends : JournalValue → RecordValue → List ℕ → List ℕ → List ℕ → Type 0
Appends journal r given old new = StandsStill journal old new ⊎ StandsOrFollows journal r given new

-- Nothing but the next cell changed, and that has the record: the journal's records stand, and it.
pub record IsAppended (journal : JournalValue) (r : RecordValue) (given new : List ℕ) : Type 0 where
  pub same : SameButNext journal given new
  pub next : HasNext journal r new
  pub records_are : (records : List RecordValue) → CanFollow journal r records given
      → IsJournalOf (with_record r journal) (records ++ r ∷ []) new
