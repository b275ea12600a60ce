-- Where the parts of a disk image lie (docs/FORMAT.md, 'The disk').
use Rattle.std.specs.Prelude.{ℕ, ◌+◌, ◌*◌, ◌≤◌, Bool, ◌&&◌, nat_le}
use Rattle.disk_format.specs.declared.numbers.TheConstants.{CELL_BYTES, FIRST_SELECTOR, FIRST_HALF, HALF_BYTES, FIRST_SLOT, SLOT_BYTES, HEADER_BYTES, SCRATCH_BYTES, LEAST_SLOTS, MOST_SLOTS, LEAST_SIZE, HALF_CELLS}

-- how many container slots a disk may have
abbrev pub IsSlotCount : ℕ → Type 0
IsSlotCount slots = (LEAST_SLOTS ≤ slots) × (slots ≤ MOST_SLOTS)

abbrev pub is_slot_count : ℕ → Bool
is_slot_count slots = nat_le LEAST_SLOTS slots && nat_le slots MOST_SLOTS

-- the size of a disk of so many slots
abbrev pub size_of : ℕ → ℕ
size_of slots = FIRST_SLOT + (SLOT_BYTES + SCRATCH_BYTES) * slots

-- the size of the smallest disk
abbrev pub least_size : ℕ
least_size = LEAST_SIZE

-- where a container slot begins
abbrev pub slot_at : ℕ → ℕ
slot_at slot = FIRST_SLOT + SLOT_BYTES * slot

-- where the data section of a slot begins
abbrev pub data_at : ℕ → ℕ
data_at slot = FIRST_SLOT + SLOT_BYTES * slot + HEADER_BYTES

-- how many records a half of the journal has room for
abbrev pub half_cells : ℕ
half_cells = HALF_CELLS

abbrev pub selector_at : ℕ → ℕ
selector_at half = FIRST_SELECTOR + CELL_BYTES * half

-- where a cell of a half begins
abbrev pub cell_at : ℕ → ℕ → ℕ
cell_at half cell = FIRST_HALF + HALF_BYTES * half + CELL_BYTES * cell
