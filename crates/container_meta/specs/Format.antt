-- The rules of a container that speak of one number each. docs/FORMAT.md, 'Container slot', states them.
use Rattle.std.specs.Prelude.{ℕ, zero, suc, ◌+◌, ◌-◌, ◌*◌, ◌/◌, List, [], ◌∷◌, Bool, ◌&&◌, ◌==◌, nat_le, Option, Some, None}
use Rattle.disk_format.specs.declared.numbers.TheConstants.{DATA_BYTES, MOST_ENTRIES, MOST_SEGMENT, MOST_CHILDREN, MOST_LEVEL, LAST_ID}
use Rattle.container_meta.specs.declared.kind.Kind.{Kind}
use Rattle.container_meta.specs.declared.kind.Kind.TheVariants.{Leaf, Tree}

-- `DDFSCON`
abbrev pub magic : List ℕ
magic = 68 ∷ 68 ∷ 70 ∷ 83 ∷ 67 ∷ 79 ∷ 78 ∷ []

-- low to high, both among them
abbrev pub is_within : ℕ → ℕ → ℕ → Bool
is_within low high n = nat_le low n && nat_le n high

abbrev pub is_id : ℕ → Bool
is_id id = is_within 1 LAST_ID id

abbrev pub is_count : ℕ → Bool
is_count count = is_within 1 MOST_ENTRIES count

abbrev pub is_data_length : ℕ → Bool
is_data_length bytes = is_within 1 DATA_BYTES bytes

-- a kind's number in headers and keys
abbrev pub kind_byte : Kind → ℕ
kind_byte Leaf = 0
kind_byte Tree = 1

-- the kinds, by their numbers
abbrev pub kind_of : ℕ → Option Kind
kind_of zero = Some Leaf
kind_of (suc zero) = Some Tree
kind_of (suc (suc n)) = None

-- how many children a node of so many bytes has: it is 4 bytes, and 40 for each child
abbrev pub child_count : ℕ → ℕ
child_count bytes = (bytes - 4) / 40

-- the lengths of segments of a kind
abbrev pub is_length : Kind → ℕ → Bool
is_length Leaf bytes = is_within 1 MOST_SEGMENT bytes
is_length Tree bytes = is_within 1 MOST_CHILDREN (child_count bytes) && bytes == 4 + 40 * child_count bytes

-- the levels of segments of a kind
abbrev pub is_level : Kind → ℕ → Bool
is_level Leaf level = level == 0
is_level Tree level = is_within 1 MOST_LEVEL level

-- where entry i stands
abbrev pub entry_place : ℕ → ℕ
entry_place i = 512 + 48 * i
