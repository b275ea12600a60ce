-- What a disk image holds of the journal (docs/MODEL.md, 'The journal').
use Rattle.std.specs.Prelude.{◌≡◌, ◌≢◌, ◌⊎◌, ◌↔◌, ℕ, ◌+◌, ◌-◌, ◌<◌, ◌≤◌, Bool, IsTrue, List, [], ◌∷◌, length}
use Rattle.std.specs.FinMap as finite
use Rattle.base_model.specs.Bytes.{range, byte_at}
use Rattle.disk_format.specs.declared.numbers.TheConstants.{RECORD_GATE, SELECTOR_GATE, VERSION}
use Rattle.disk_format.specs.Cells.{RecordValue, SelectorValue, IsRecord, IsSelector, record_cell, selector_cell}
use Rattle.disk_format.specs.Layout.{selector_at, cell_at, half_cells}
use Rattle.namespace.specs.Names.{NameMap, IsTaken, names_with}

-- the cell of a selector holds it
abbrev pub HoldsSelector : List ℕ → SelectorValue → Type 0
HoldsSelector image s = IsSelector s × (range (selector_at s.half) 512 image ≡ selector_cell s)

-- the other selector is closed, or right and of a lower generation
abbrev pub IsOlder : List ℕ → SelectorValue → Type 0
IsOlder image s =
    (byte_at (selector_at (1 - s.half)) image ≢ SELECTOR_GATE)
    ⊎ ((t : SelectorValue) × (t.half ≡ 1 - s.half) × HoldsSelector image t × (t.generation < s.generation))

-- whether the gate of the selector of the other half is open
abbrev pub KnowsOther : Bool → ℕ → List ℕ → Type 0
KnowsOther other_open half image = IsTrue other_open ↔ (byte_at (selector_at (1 - half)) image ≡ SELECTOR_GATE)

-- each record is right after those before it
abbrev pub Follow : ℕ → NameMap → List RecordValue → Type 0
Follow previous names [] = Unit {0}
Follow previous names (r ∷ rs) = IsRecord r × (previous < r.sequence) × IsTaken names r × Follow r.sequence (names_with r names) rs

-- records stand one after the other, from a cell of a half on
abbrev pub StandFrom : ℕ → ℕ → List RecordValue → List ℕ → Type 0
StandFrom half cell [] image = Unit {0}
StandFrom half cell (r ∷ rs) image = (range (cell_at half cell) 512 image ≡ record_cell r) × StandFrom half (cell + 1) rs image

-- from a cell of a half on none is open
abbrev pub ClosedFrom : ℕ → ℕ → List ℕ → Type 0
ClosedFrom half from image = (cell : ℕ) → from ≤ cell → cell < half_cells → byte_at (cell_at half cell) image ≢ RECORD_GATE

-- the records of a half, after which no cell is open
pub record HoldsRecords (half : ℕ) (records : List RecordValue) (image : List ℕ) : Type 0 where
  pub few : length records ≤ half_cells
  pub right : Follow 0 finite.empty records
  pub stand : StandFrom half 0 records image
  pub closed : ClosedFrom half (length records) image

-- the journal: the selector that counts, and the records of its half
pub record HoldsJournal (image : List ℕ) (selector : SelectorValue) (records : List RecordValue) : Type 0 where
  pub selector_is : HoldsSelector image selector
  pub older : IsOlder image selector
  pub records_are : HoldsRecords selector.half records image

-- the sequence number of the last of some records, or another where there is none
abbrev pub last_of : ℕ → List RecordValue → ℕ
last_of previous [] = previous
last_of previous (r ∷ rs) = last_of r.sequence rs

-- the selector of a checkpoint: of the other half, under the next generation, with the last sequence number of all
abbrev pub selector_after : ℕ → ℕ → ℕ → SelectorValue
selector_after half generation last = record { generation = generation + 1; form = VERSION; half = 1 - half; last = last }
