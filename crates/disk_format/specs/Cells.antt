-- The cells of 512 bytes (docs/FORMAT.md, 'Cells'). A cell is open where its first byte, the gate, has its stated
-- value, and closed where it has any other.
use Rattle.std.specs.Prelude.{◌≡◌, ℕ, ◌-◌, ◌^◌, ◌<◌, ◌≤◌, List, [], ◌∷◌, ◌++◌, length, codes, All, Bool, true, ◌&&◌, ◌==◌, nat_le, if◌then◌else◌}
use Rattle.std.specs.Int.{w32, w64, to_be_bytes}
use Rattle.base_model.specs.Bytes.{zeros}
use Rattle.sha2.specs.Sha256.{sha256}
use Rattle.disk_format.specs.declared.numbers.TheConstants.{FORMAT_GATE, SELECTOR_GATE, RECORD_GATE, VERSION, MOST_NAME, MOST_SEGMENT, MOST_FILE, MOST_LEVEL}

-- 479 bytes of fields after a gate, and their digest
unfoldable pub sealed : ℕ → List ℕ → List ℕ
sealed gate fields = gate ∷ fields ++ sha256 fields

-- the layout, and the number of slots
unfoldable pub format_fields : ℕ → List ℕ
format_fields slots = codes "DDFSIMG" ++ to_be_bytes w32 VERSION ++ to_be_bytes w32 slots ++ zeros 464

abbrev pub format_cell : ℕ → List ℕ
format_cell slots = sealed FORMAT_GATE (format_fields slots)

-- a selector: its form, which half counts, and the last sequence number before that half was begun
pub record SelectorValue : Type 0 where
  pub generation : ℕ
  pub form : ℕ
  pub half : ℕ
  pub last : ℕ

pub record IsSelector (s : SelectorValue) : Type 0 where
  pub from_one : 1 ≤ s.generation
  pub generation : s.generation < 2 ^ 64
  pub form : s.form ≡ VERSION
  pub half : s.half ≤ 1
  pub last : s.last < 2 ^ 64

-- the selector of an empty store
abbrev pub first_selector : SelectorValue
first_selector = record { generation = 1; form = VERSION; half = 0; last = 0 }

-- bytes 1 to 479
unfoldable pub selector_fields : SelectorValue → List ℕ
selector_fields s =
    codes "DDFSSEL" ++ to_be_bytes w64 s.generation ++ to_be_bytes w32 s.form ++ (s.half ∷ []) ++ to_be_bytes w64 s.last ++ zeros 451

abbrev pub selector_cell : SelectorValue → List ℕ
selector_cell s = sealed SELECTOR_GATE (selector_fields s)

-- the root of a file: its length in bytes, and the level and digest of its tree
pub record Root : Type 0 where
  pub length : ℕ
  pub level : ℕ
  pub digest : List ℕ

-- 1 to 255 bytes from 0x21 to 0x7E
pub record IsName (name : List ℕ) : Type 0 where
  pub not_empty : 1 ≤ length name
  pub not_long : length name ≤ MOST_NAME
  pub printable : All (λ byte. (0x21 ≤ byte) × (byte ≤ 0x7E)) name

-- what a record says of its name
pub data Change : Type 0 where
  Put : (root : Root) → Change
  Delete : Change

-- what a record says: from this sequence number on, this of this name
pub record RecordValue : Type 0 where
  pub sequence : ℕ
  pub name : List ℕ
  pub change : Change

abbrev pub operation_of : Change → ℕ
operation_of (Put root) = 1
operation_of Delete = 2

-- the root's fields; zeros in a record that deletes
abbrev pub root_in : Change → Root
root_in (Put root) = root
root_in Delete = record { length = 0; level = 0; digest = zeros 32 }

-- bytes 1 to 51
unfoldable pub record_front : RecordValue → List ℕ
record_front r =
    let root = root_in r.change in
    (operation_of r.change ∷ length r.name ∷ []) ++ to_be_bytes w64 r.sequence ++ to_be_bytes w64 root.length ++ (root.level ∷ [])
    ++ root.digest

unfoldable pub record_fields : RecordValue → List ℕ
record_fields r = record_front r ++ r.name ++ zeros (428 - length r.name)

abbrev pub record_cell : RecordValue → List ℕ
record_cell r = sealed RECORD_GATE (record_fields r)

-- how long a file may be whose root is at a level: at level 0 it is one segment or empty, above it isn't empty
abbrev pub is_root_length : ℕ → ℕ → Bool
is_root_length level count = nat_le count MOST_FILE && (if level == 0 then nat_le count MOST_SEGMENT else nat_le 1 count)

-- the levels of roots: 0 where one segment or none is the whole file, else that of the node on top of its tree
abbrev pub is_root_level : ℕ → Bool
is_root_level level = nat_le level MOST_LEVEL

-- a root that a file may have
pub record IsRoot (root : Root) : Type 0 where
  pub bytes : is_root_length root.level root.length ≡ true
  pub level : is_root_level root.level ≡ true
  pub digest : length root.digest ≡ 32
  pub empty : root.level ≡ 0 → root.length ≡ 0 → root.digest ≡ sha256 []

abbrev pub IsChange : Change → Type 0
IsChange (Put root) = IsRoot root
IsChange Delete = Unit {0}

-- what has a spelling
pub record IsRecord (r : RecordValue) : Type 0 where
  pub from_one : 1 ≤ r.sequence
  pub sequence : r.sequence < 2 ^ 64
  pub name : IsName r.name
  pub change : IsChange r.change
