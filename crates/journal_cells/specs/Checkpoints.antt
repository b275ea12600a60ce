-- What the journal holds while a checkpoint is made, and after (docs/MODEL.md, 'The journal').
use Rattle.std.specs.Prelude.{◌≡◌, ◌⊎◌, ℕ, ◌+◌, ◌-◌, ◌^◌, ◌<◌, ◌≤◌, Bool, true, false, IsTrue, List, [], ◌∷◌, ◌++◌, length, max, if◌then◌else◌}
use Rattle.base_model.specs.Bytes.{range, byte_at, written, zeros}
use Rattle.dd_disk.specs.Gated.{CellTorn}
use Rattle.dd_disk.specs.Writes.{Torn}
use Rattle.disk_format.specs.declared.numbers.TheConstants.{CELL_BYTES, HALF_BYTES, SELECTOR_GATE}
use Rattle.disk_format.specs.Cells.{RecordValue, SelectorValue, record_cell, selector_cell}
use Rattle.disk_format.specs.Layout.{selector_at, cell_at, half_cells}
use Rattle.namespace.specs.Names.{NameMap}
use Rattle.namespace.specs.Puts.{puts_of}
use Rattle.store_model.specs.Journal.{HoldsJournal, KnowsOther, last_of, selector_after}
use Rattle.journal_cells.specs.declared.checkpoint.FreshHalf.{FreshHalf}
use Rattle.journal_cells.specs.declared.fault.CellFault.{CellFault}
use Rattle.journal_cells.specs.declared.fault.CellFault.TheVariants.{Memory, Numbers}
use Rattle.journal_cells.specs.Journal.{JournalValue, IsTold}

-- ---- what a checkpoint makes of a journal

-- the journal after it: the other half counts, with the puts of the names
abbrev pub checkpointed : NameMap → JournalValue → JournalValue
checkpointed names journal = record {
  half = 1 - journal.half;
  generation = journal.generation + 1;
  other_open = true;
  count = length (puts_of names);
  previous = last_of 0 (puts_of names);
  last = max journal.last (last_of 0 (puts_of names));
}

-- its selector
abbrev pub next_selector : JournalValue → SelectorValue
next_selector journal = selector_after journal.half journal.generation journal.last

-- why it was not prepared: for want of memory, or where the generation can't rise
abbrev pub IsPrepareFault : JournalValue → CellFault → Type 0
IsPrepareFault journal Memory = Unit {0}
IsPrepareFault journal Numbers = journal.generation ≡ 2 ^ 64 - 1
IsPrepareFault journal fault = ⊥

-- ---- images

-- the journal and the names are those of an image
pub record IsFoundIn (journal : JournalValue) (names : NameMap) (selector : SelectorValue) (records : List RecordValue)
    (image : List ℕ) : Type 0 where
  pub holds : HoldsJournal image selector records
  pub other : KnowsOther journal.other_open journal.half image
  pub told : IsTold journal.other_open selector records journal names journal.last

-- a range has no byte of another
abbrev pub IsApart : ℕ → ℕ → ℕ → ℕ → Type 0
IsApart at count p n = (p + n ≤ at) ⊎ (at + count ≤ p)

-- all bytes but those of a half and of its selector are as they were
pub record SameButHalf (half : ℕ) (old new : List ℕ) : Type 0 where
  pub size : length new ≡ length old
  pub same : (p n : ℕ) → IsApart (selector_at half) CELL_BYTES p n → IsApart (cell_at half 0) HALF_BYTES p n → range p n new ≡ range p n old

-- the gate of the other half's selector is open
abbrev pub IsOtherOpen : JournalValue → List ℕ → Type 0
IsOtherOpen journal image = byte_at (selector_at (1 - journal.half)) image ≡ SELECTOR_GATE

-- the other half is as it was
abbrev pub KeepsOtherHalf : JournalValue → List ℕ → List ℕ → Type 0
KeepsOtherHalf journal old new = range (cell_at (1 - journal.half) 0) HALF_BYTES new ≡ range (cell_at (1 - journal.half) 0) HALF_BYTES old

-- The journal stands. The other half's selector is open only where it was, and then the half is as it was: it is closed before
-- its half is written.
pub record HoldsStill (journal : JournalValue) (selector : SelectorValue) (records : List RecordValue) (old new : List ℕ) : Type 0 where
  pub holds : HoldsJournal new selector records
  pub opens : IsOtherOpen journal new → IsTrue journal.other_open × KeepsOtherHalf journal old new

-- Nothing but the other half and its selector changed, and that selector doesn't count: the journal stands still.
pub record StaysFound (journal : JournalValue) (old new : List ℕ) : Type 0 where
  pub same : SameButHalf (1 - journal.half) old new
  pub stands : (names : NameMap) (selector : SelectorValue) (records : List RecordValue) → IsFoundIn journal names selector records old
      → HoldsStill journal selector records old new

-- the new journal stands, of the same names and the same last sequence number
pub record HasMoved (journal : JournalValue) (names : NameMap) (image : List ℕ) : Type 0 where
  pub found : IsFoundIn (checkpointed names journal) names (next_selector journal) (puts_of names) image
  pub last_stays : (checkpointed names journal).last ≡ journal.last

-- Nothing else changed, and that selector counts only once it and its half are whole: the journal stands still, or the new one
-- stands.
pub record StaysOrMoves (journal : JournalValue) (names : NameMap) (old new : List ℕ) : Type 0 where
  pub same : SameButHalf (1 - journal.half) old new
  pub stands : (selector : SelectorValue) (records : List RecordValue) → IsFoundIn journal names selector records old
      → HoldsStill journal selector records old new ⊎ HasMoved journal names new

-- A checkpoint is being made: the journal stands still in an image; or that stands which the disk gave at the start, or the
-- new one.
abbrev pub Checkpoints : JournalValue → NameMap → List ℕ → List ℕ → List ℕ → Type 0
Checkpoints journal names given old new = StaysFound journal old new ⊎ StaysOrMoves journal names given new

-- Nothing but the other half and its selector changed, and the new journal stands.
pub record IsCheckpointed (journal : JournalValue) (names : NameMap) (given new : List ℕ) : Type 0 where
  pub same : SameButHalf (1 - journal.half) given new
  pub stands : (selector : SelectorValue) (records : List RecordValue) → IsFoundIn journal names selector records given
      → HasMoved journal names new

-- ---- bytes

-- the cells of records, one after the other
abbrev pub cells_of : List RecordValue → List ℕ
cells_of [] = []
cells_of (r ∷ rs) = record_cell r ++ cells_of rs

-- what is written of a half fits it
pub record FitsHalf (new : FreshHalf) : Type 0 where
  pub blanks : length new.blanks.items ≡ HALF_BYTES
  pub cells : length new.cells.items ≤ HALF_BYTES
  pub selector : length new.selector.items ≡ CELL_BYTES

-- it has the puts of these names, under this selector, and room for a record after them
pub record IsFreshHalf (selector : SelectorValue) (names : NameMap) (new : FreshHalf) : Type 0 where
  pub count : new.count ≡ length (puts_of names)
  pub few : new.count < half_cells
  pub previous : new.previous ≡ last_of 0 (puts_of names)
  pub blanks : new.blanks.items ≡ zeros HALF_BYTES
  pub cells : new.cells.items ≡ cells_of (puts_of names)
  pub selector_is : new.selector.items ≡ selector_cell selector
  pub next_is : new.next ≡ selector
  pub below : selector.generation < 2 ^ 64
  pub fits : FitsHalf new

-- a half that was prepared for a checkpoint of this journal, of some names
abbrev pub IsPreparedFor : JournalValue → FreshHalf → Type 0
IsPreparedFor journal new = (names : NameMap) × IsFreshHalf (next_selector journal) names new

-- the half as it is written, and with its selector
abbrev pub cells_filled : ℕ → FreshHalf → List ℕ → List ℕ
cells_filled half new given = written (cell_at half 0) new.cells.items (written (cell_at half 0) new.blanks.items given)

abbrev pub half_filled : ℕ → FreshHalf → List ℕ → List ℕ
half_filled half new given = written (selector_at half) new.selector.items (cells_filled half new given)

-- the half is torn; or it stands, and its selector is torn
abbrev pub FillsHalf : ℕ → FreshHalf → List ℕ → List ℕ → List ℕ → Type 0
FillsHalf half new given d c =
    Torn (cell_at half 0) HALF_BYTES d c ⊎ CellTorn (selector_at half) new.selector.items (cells_filled half new given) c

-- with the selector's gate closed, where it was open
abbrev pub gate_closed : Bool → ℕ → List ℕ → List ℕ
gate_closed open_gate half given = if open_gate then written (selector_at half) (0 ∷ []) given else given

abbrev pub replaced : Bool → ℕ → FreshHalf → List ℕ → List ℕ
replaced open_gate half new given = half_filled half new (gate_closed open_gate half given)

-- an open gate is torn; or, once it is closed, the half is written
abbrev pub Replaces : Bool → ℕ → FreshHalf → List ℕ → List ℕ → List ℕ → Type 0
Replaces true half new given d c =
    let shut = gate_closed true half given in
    Torn (selector_at half) 1 d c ⊎ FillsHalf half new shut shut c
Replaces false half new given d c = FillsHalf half new given d c
