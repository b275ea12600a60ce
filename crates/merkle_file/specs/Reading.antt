-- Reading a node: its fields from the left, and the first of them that breaks a rule (docs/FORMAT.md, "Nodes").
use Rattle.std.specs.Prelude.{◌≡◌, ◌≤◌, ℕ, zero, suc, ◌+◌, ◌*◌, nat_lt, nat_le, ◌==◌, ◌&&◌, ◌||◌, if◌then◌else◌, Bool, List, [], ◌∷◌, length, take, drop, slice_index, Option, Some, None, Result, Ok, Err}
use Rattle.std.specs.Int.{w16, w64, from_be_bytes}
use Rattle.merkle_file.specs.declared.node.Child.{Child}
use Rattle.merkle_file.specs.declared.fault.FieldFault.{FieldFault}
use Rattle.merkle_file.specs.declared.fault.NodeFault.{NodeFault}
use Rattle.merkle_file.specs.declared.fault.NodeFault.TheVariants.{Field, Memory}
use Rattle.merkle_file.specs.declared.reading.Asked.{Asked}
use Rattle.disk_format.specs.declared.numbers.TheConstants.{MOST_FILE, MOST_LEVEL}
use Rattle.merkle_file.specs.Form.{ByCount, form_byte, most_children}
use Rattle.merkle_file.specs.Node.{Contents, IsNode, spelling, total, greatest_child}

-- a field that stands at a place and was got so
abbrev pub wrong : ℕ → ℕ → Option FieldFault
wrong at got = Some (record { offset = at; got = got })

-- the number of 16 bits, or 64, in front of bytes
unfoldable pub short_number : List ℕ → ℕ
short_number bytes = from_be_bytes w16 (take 2 bytes)

unfoldable pub long_number : List ℕ → ℕ
long_number bytes = from_be_bytes w64 (take 8 bytes)

-- the child whose entry stands in front of bytes
abbrev pub child_in : List ℕ → Child
child_in bytes = record { digest = take 32 bytes; length = long_number (drop 32 bytes) }

-- so many children, entry after entry
unfoldable pub children_in : ℕ → List ℕ → List Child
children_in zero bytes = []
children_in (suc n) bytes = child_in bytes ∷ children_in n (drop 40 bytes)

-- what bytes say, read as a node
abbrev pub contents_in : List ℕ → Contents
contents_in bytes = record {
  level = slice_index bytes 0;
  children = children_in (short_number (drop 2 bytes)) (drop 4 bytes);
}

-- bytes are a node's, all of them
pub record IsNodeBytes (bytes : List ℕ) : Type 0 where
  pub spelled : bytes ≡ spelling (contents_in bytes)
  pub node : IsNode (contents_in bytes)

-- Whether so many children may stand in so many bytes: there are some, not too many, and the bytes are as many as they take.
unfoldable pub is_right_count : ℕ → ℕ → Bool
is_right_count count size = nat_le 1 count && nat_le count (most_children ByCount) && (size == 4 + 40 * count)

-- The first wrong field of what comes before the entries. One that isn't there whole is wrong, and got as 0. Where the
-- number of bytes isn't that of so many entries, the number of children is wrong.
unfoldable pub head_fault : Asked → List ℕ → Option FieldFault
head_fault asked bytes =
    if length bytes == 0 then wrong 0 0
    else if nat_lt (slice_index bytes 0) asked.lowest || nat_lt asked.greatest (slice_index bytes 0) then wrong 0 (slice_index bytes 0)
    else if length bytes == 1 then wrong 1 0
    else if slice_index bytes 1 == form_byte ByCount then
    if nat_lt (length bytes) 4 then wrong 2 0
    else if is_right_count (short_number (drop 2 bytes)) (length bytes) then None
    else wrong 2 (short_number (drop 2 bytes))
    else wrong 1 (slice_index bytes 1)

-- Whether a child of a node of this level may have a length, where `before` bytes lie below the children
-- before it, and so many children follow it.
unfoldable pub is_right_length : Asked → ℕ → ℕ → ℕ → ℕ → Bool
is_right_length asked level more before len =
    nat_le 1 len && nat_le len (greatest_child level) && nat_le (before + len) asked.most
    && (nat_lt 0 more || nat_le asked.least (before + len))

-- the second where the first is nothing
abbrev pub or_else : Option FieldFault → Option FieldFault → Option FieldFault
or_else None second = second
or_else (Some fault) second = Some fault

-- The wrong field of the entry in front of bytes, which stands at a place and is followed by so many more: its length, for
-- each digest is right.
unfoldable pub entry_fault : Asked → ℕ → ℕ → ℕ → ℕ → List ℕ → Option FieldFault
entry_fault asked level more at before bytes =
    if is_right_length asked level more before (long_number (drop 32 bytes)) then None
    else wrong (at + 32) (long_number (drop 32 bytes))

-- the first wrong field of so many entries, of which the first stands at a place
unfoldable pub entries_fault : Asked → ℕ → ℕ → ℕ → ℕ → List ℕ → Option FieldFault
entries_fault asked level zero at before bytes = None
entries_fault asked level (suc more) at before bytes =
    or_else (entry_fault asked level more at before bytes)
    (entries_fault asked level more (at + 40) (before + long_number (drop 32 bytes)) (drop 40 bytes))

-- the first field, in order of offset, that breaks the rules of a node or what is asked of it
abbrev pub first_fault : Asked → List ℕ → Option FieldFault
first_fault asked bytes =
    or_else (head_fault asked bytes)
    (entries_fault asked (slice_index bytes 0) (short_number (drop 2 bytes)) 4 0 (drop 4 bytes))

-- what may be asked: no level and no length beyond a node's own limits
pub record IsAsked (asked : Asked) : Type 0 where
  pub lowest : 1 ≤ asked.lowest
  pub greatest : asked.greatest ≤ MOST_LEVEL
  pub most : asked.most ≤ MOST_FILE

-- any node may come
abbrev pub any_node : Asked
any_node = record { lowest = 1; greatest = MOST_LEVEL; least = 0; most = MOST_FILE }

-- a node within what is asked
pub record IsWithin (asked : Asked) (n : Contents) : Type 0 where
  pub lowest : asked.lowest ≤ n.level
  pub greatest : n.level ≤ asked.greatest
  pub least : asked.least ≤ total n.children
  pub most : total n.children ≤ asked.most

-- bytes are a node within what is asked
abbrev pub SpellsNode : Asked → List ℕ → Type 0
SpellsNode asked bytes = (bytes ≡ spelling (contents_in bytes)) × IsNode (contents_in bytes) × IsWithin asked (contents_in bytes)

-- what a check found
abbrev pub found_fault : {A : Type 0} → Result A FieldFault → Option FieldFault
found_fault (Ok x) = None
found_fault (Err fault) = Some fault

-- Which fault was answered. Want of memory is the one free answer.
abbrev pub AnswersFault : {A : Type 0} → Result A NodeFault → Option FieldFault → Type 0
AnswersFault (Ok x) fault = fault ≡ None
AnswersFault (Err (Field at got)) fault = fault ≡ wrong at got
AnswersFault (Err Memory) fault = fault ≡ None

-- This node was answered, or memory ran out.
abbrev pub IsNodeUnlessMemory : Result Contents NodeFault → Contents → Type 0
IsNodeUnlessMemory (Ok m) n = m ≡ n
IsNodeUnlessMemory (Err (Field at got)) n = ⊥
IsNodeUnlessMemory (Err Memory) n = Unit {0}
