-- What an inspection finds in the cells of a disk image (docs/FORMAT.md, 'Check').
use Rattle.std.specs.Prelude.{ℕ, zero, suc, ◌-◌, List, Bool, true, false, ◌||◌, ◌==◌, if◌then◌else◌, Option, Some, None, Result, Ok, Err}
use Rattle.std.specs.Result.{is_ok}
use Rattle.base_model.specs.Bytes.{range, byte_at}
use Rattle.base_model.specs.Checks.{passes}
use Rattle.disk_format.specs.Cells.{RecordValue, SelectorValue}
use Rattle.disk_format.specs.declared.numbers.TheConstants.{CELL_BYTES, RECORD_GATE, SELECTOR_GATE}
use Rattle.disk_format.specs.declared.why.Why.TheVariants.{Field}
use Rattle.disk_format.specs.Layout.{cell_at, half_cells, selector_at}
use Rattle.inspection.specs.Found.{Found, nothing, and_then, cell_with, only_damage}
use Rattle.inspection.specs.declared.damage.Damage.{Damage}
use Rattle.inspection.specs.declared.damage.Damage.TheVariants.{Cell}
use Rattle.namespace.specs.Names.{NameMap, names_with}
use Rattle.journal_cells.specs.declared.fault.CellFault.{CellFault}
use Rattle.journal_cells.specs.declared.fault.CellFault.TheVariants.{Damaged, Version}
use Rattle.journal_cells.specs.declared.heads.Selection.{Selection}
use Rattle.journal_cells.specs.Heads.{selector_in, selectors_in}
use Rattle.journal_cells.specs.Records.{Replay, nothing_yet, own_checks, record_in, record_in_cell, has_place, first_open, open_cell}

-- How the fault of a cell at a byte of the disk is named. A form that is not known is named as the field that says it.
abbrev pub damage_of : ℕ → CellFault → Option Damage
damage_of at (Damaged place why) = Some (Cell place why)
damage_of at (Version n) = Some (Cell at (Field 16 n))
damage_of at _ = None

-- the damage of a cell that a reader found right, or found a fault in
abbrev pub damage_in : {A : Type 0} → ℕ → Result A CellFault → Option Damage
damage_in at (Ok value) = None
damage_in at (Err fault) = damage_of at fault

-- ---- selectors

abbrev pub is_open : List ℕ → Bool
is_open selector = byte_at 0 selector == SELECTOR_GATE

-- the selector that a reader found, where it is open and right
abbrev pub right_one : Result (Option SelectorValue) CellFault → Option SelectorValue
right_one (Ok selector) = selector
right_one (Err fault) = None

-- of a selector, after one that was read before it, if that is open and right
unfoldable pub selector_found : ℕ → Option SelectorValue → List ℕ → Found
selector_found half before cell =
    if is_open cell then cell_with (damage_in (selector_at half) (selector_in half before cell)) else nothing

-- one selector has to be open
abbrev pub none_open : List ℕ → List ℕ → Option Damage
none_open first second = if is_open first || is_open second then None else Some (Cell (selector_at 0) (Field 0 (byte_at 0 first)))

unfoldable pub selectors_found : List ℕ → List ℕ → Found
selectors_found first second =
    and_then (selector_found 0 None first)
    (and_then (selector_found 1 (right_one (selector_in 0 None first)) second) (only_damage (none_open first second)))

-- a half counts by what both selectors say, where they are right
abbrev pub says_half : ℕ → Result Selection CellFault → Bool
says_half half (Ok selection) = selection.selector.half == half
says_half half (Err fault) = false

-- ---- the records of a half

-- a record keeps the rules that look at its cell alone
abbrev pub is_right_alone : ℕ → List ℕ → Bool
is_right_alone at cell = is_ok (passes (own_checks at cell))

-- the names after a record, if they have a place for it
abbrev pub names_taking : NameMap → RecordValue → NameMap
names_taking names r = if has_place names r.name r.change then names_with r names else names

-- What one record more leaves. One that breaks the rules of its own cell is left out of the replay.
unfoldable pub after_cell : ℕ → Replay → List ℕ → Replay
after_cell at replay cell =
    let r = record_in_cell cell in
    if is_right_alone at cell then
    record { count = suc replay.count; previous = r.sequence; names = names_taking replay.names r }
    else record replay { count = suc replay.count }

abbrev pub first_past : ℕ → Option ℕ → Found
first_past half None = nothing
first_past half (Some cell) = cell_with (damage_of (cell_at half cell) (open_cell half cell))

-- past so many records: in the half that counts no gate may be open
unfoldable pub past_found : ℕ → Bool → ℕ → List ℕ → Found
past_found half false count image = nothing
past_found half true count image = first_past half (first_open half (half_cells - count) count image)

-- of the records of a half, some of which were replayed and at most so many cells of which are left; they end at the first closed gate
unfoldable pub records_found : ℕ → Bool → ℕ → Replay → List ℕ → Found
records_found half counts zero replay image = past_found half counts replay.count image
records_found half counts (suc left) replay image =
    let at = cell_at half replay.count in
    let cell = range at CELL_BYTES image in
    if byte_at at image == RECORD_GATE then
    and_then (cell_with (damage_in at (record_in at replay.previous replay.names cell)))
    (records_found half counts left (after_cell at replay cell) image)
    else past_found half counts replay.count image

-- of a half whose selector is open; whether it counts
unfoldable pub half_found : ℕ → List ℕ → Bool → List ℕ → Found
half_found half selector counts image = if is_open selector then records_found half counts half_cells nothing_yet image else nothing

-- ---- both selectors, and then the halves

-- of an image with these selectors
abbrev pub halves_found : List ℕ → List ℕ → List ℕ → Found
halves_found first second image =
    let said = selectors_in first second in
    and_then (half_found 0 first (says_half 0 said) image) (half_found 1 second (says_half 1 said) image)

unfoldable pub journal_found : List ℕ → Found
journal_found image =
    let first = range (selector_at 0) CELL_BYTES image in
    let second = range (selector_at 1) CELL_BYTES image in
    and_then (selectors_found first second) (halves_found first second image)
