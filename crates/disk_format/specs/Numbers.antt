-- The numbers of docs/FORMAT.md as it writes them. Everything else speaks of them by their names.
use Rattle.std.specs.Prelude.{◌≡◌, ◌-◌, ◌^◌}
use Rattle.disk_format.specs.declared.numbers.TheConstants.{CELL_BYTES, FIRST_SELECTOR, FIRST_HALF, HALF_CELLS, HALF_BYTES, FIRST_SLOT, SLOT_BYTES, HEADER_BYTES, DATA_BYTES, SCRATCH_BYTES, LEAST_SLOTS, MOST_SLOTS, LEAST_SIZE, RESERVE, CONTAINER_GATE, VERSION, MOST_ENTRIES, LAST_ID, MOST_NAMES, MOST_NAME, LEAST_SEGMENT, MOST_SEGMENT, MOST_FILE, MOST_CHILDREN, MOST_LEVEL, NODE_FORM}

pub record HasNumbersOfCells : Type 0 where
  pub cell : CELL_BYTES ≡ 512
  pub selectors : FIRST_SELECTOR ≡ 512
  pub halves : FIRST_HALF ≡ 1536
  pub half_cells : HALF_CELLS ≡ 1024
  pub half : HALF_BYTES ≡ 524288
  pub version : VERSION ≡ 1
  pub names : MOST_NAMES ≡ 512
  pub name : MOST_NAME ≡ 255

pub record HasNumbersOfSlots : Type 0 where
  pub slots : FIRST_SLOT ≡ 1050112
  pub slot : SLOT_BYTES ≡ 262144
  pub header : HEADER_BYTES ≡ 49664
  pub bytes : DATA_BYTES ≡ 212480
  pub scratch : SCRATCH_BYTES ≡ 131072
  pub least : LEAST_SLOTS ≡ 4
  pub most : MOST_SLOTS ≡ 65536
  pub least_size : LEAST_SIZE ≡ 2622976
  pub reserve : RESERVE ≡ 2
  pub gate : CONTAINER_GATE ≡ 0xC5
  pub entries : MOST_ENTRIES ≡ 1024
  pub last_id : LAST_ID ≡ 2 ^ 64 - 2

pub record HasNumbersOfFiles : Type 0 where
  pub least : LEAST_SEGMENT ≡ 2048
  pub most : MOST_SEGMENT ≡ 16384
  pub file : MOST_FILE ≡ 2 ^ 40
  pub children : MOST_CHILDREN ≡ 64
  pub level : MOST_LEVEL ≡ 6
  pub form : NODE_FORM ≡ 1
