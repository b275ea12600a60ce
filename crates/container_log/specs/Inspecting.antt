-- What an inspection finds in the container slots of a disk image (docs/FORMAT.md, 'Check').
use Rattle.std.specs.Prelude.{◌≡◌, ◌≢◌, ℕ, zero, suc, ◌+◌, ◌≤◌, List, [], ◌∷◌, ◌++◌, All, Bool, true, false, ◌==◌, if◌then◌else◌, Option, Some, None, option_map, Result, Ok, Err}
use Rattle.std.specs.List.{list_any}
use Rattle.std.specs.Str.{bytes_eq}
use Rattle.sha2.specs.Sha256.{sha256}
use Rattle.base_model.specs.Bytes.{range, byte_at}
use Rattle.container_meta.specs.declared.entry.Entry.{Entry}
use Rattle.container_meta.specs.declared.fault.MetaFault.{MetaFault}
use Rattle.container_meta.specs.Reading.{header_at}
use Rattle.container_meta.specs.Spelling.{HeaderValue}
use Rattle.disk_format.specs.declared.numbers.TheConstants.{CONTAINER_GATE, DATA_BYTES, HEADER_BYTES, SLOT_BYTES}
use Rattle.disk_format.specs.declared.why.Why.TheVariants.{Field}
use Rattle.disk_format.specs.Layout.{slot_at}
use Rattle.inspection.specs.Found.{Found, nothing, and_then, cell_with, copy_with}
use Rattle.inspection.specs.declared.damage.Damage.{Damage}
use Rattle.inspection.specs.declared.damage.Damage.TheVariants.{Cell, Copy}
use Rattle.container_log.specs.Faults.{why_of}

-- ---- copies, by the bytes of their slot

-- the bytes that an entry names
abbrev pub copy_bytes : Entry → List ℕ → List ℕ
copy_bytes e bytes = range (HEADER_BYTES + e.offset) e.length bytes

-- they lie in the slot
abbrev pub AreInSlot : List Entry → Type 0
AreInSlot entries = All (λ e. e.offset + e.length ≤ DATA_BYTES) entries

-- the damage of a copy whose bytes have this digest
abbrev pub copy_damage : ℕ → Entry → List ℕ → Option Damage
copy_damage slot e got = if bytes_eq e.digest got then None else Some (Copy slot e.offset e.length e.digest got)

abbrev pub copy_found : ℕ → Entry → List ℕ → Found
copy_found slot e bytes = copy_with (copy_damage slot e (sha256 (copy_bytes e bytes)))

-- of the copies that entries name, in their order
unfoldable pub copies_found : ℕ → List Entry → List ℕ → Found
copies_found slot [] bytes = nothing
copies_found slot (e ∷ es) bytes = and_then (copy_found slot e bytes) (copies_found slot es bytes)

-- ---- open slots, by their bytes

-- an id is among these
abbrev pub is_used : List ℕ → ℕ → Bool
is_used ids id = list_any (λ used. used == id) ids

-- a right header has to have an id that no right header before it has
abbrev pub id_damage : ℕ → List ℕ → ℕ → Option Damage
id_damage slot ids id = if is_used ids id then Some (Cell (slot_at slot) (Field 8 id)) else None

-- how the header in a slot breaks the format by itself
abbrev pub header_damage : ℕ → List ℕ → MetaFault → Option Damage
header_damage slot header fault = option_map (λ why. Cell (slot_at slot) why) (why_of header fault)

-- after right headers of these ids
abbrev pub header_found : ℕ → List ℕ → List ℕ → Result HeaderValue MetaFault → Found
header_found slot ids bytes (Ok h) = and_then (cell_with (id_damage slot ids h.id)) (copies_found slot h.entries bytes)
header_found slot ids bytes (Err fault) = cell_with (header_damage slot bytes fault)

unfoldable pub slot_found : ℕ → List ℕ → List ℕ → Found
slot_found slot ids bytes = header_found slot ids bytes (header_at bytes)

-- the ids of right headers, with those of one slot more
abbrev pub ids_with : List ℕ → Result HeaderValue MetaFault → List ℕ
ids_with ids (Ok h) = ids ++ h.id ∷ []
ids_with ids (Err fault) = ids

-- ---- slots

-- the bytes of a slot
abbrev pub slot_bytes : ℕ → List ℕ → List ℕ
slot_bytes slot image = range (slot_at slot) SLOT_BYTES image

-- a slot is open, and has these bytes; or it is closed
abbrev pub ReadsSlot : ℕ → Bool → List ℕ → List ℕ → Type 0
ReadsSlot slot true bytes image = (byte_at (slot_at slot) image ≡ CONTAINER_GATE) × (slot_bytes slot image ≡ bytes)
ReadsSlot slot false bytes image = byte_at (slot_at slot) image ≢ CONTAINER_GATE

-- of so many slots, from one on, after right headers of these ids
unfoldable pub slots_found : ℕ → ℕ → List ℕ → List ℕ → Found
slots_found zero slot ids image = nothing
slots_found (suc left) slot ids image =
    let bytes = slot_bytes slot image in
    if byte_at (slot_at slot) image == CONTAINER_GATE then
    and_then (slot_found slot ids bytes) (slots_found left (suc slot) (ids_with ids (header_at bytes)) image)
    else slots_found left (suc slot) ids image
