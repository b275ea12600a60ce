-- Whether the header of a container is the one that the tables have for its slot (docs/MODEL.md, 'Collection').
use Rattle.std.specs.Prelude.{◌≡◌, ◌⊎◌, ℕ, ◌==◌, List, [], ◌∷◌, length, get_or, slice_get, Some, Err}
use Rattle.std.specs.Str.{bytes_eq}
use Rattle.base_model.specs.Checks.{Check, passes}
use Rattle.container_log.specs.Faults.{IsDamage}
use Rattle.container_log.specs.Parts.{ReadAt}
use Rattle.container_meta.specs.Format.{kind_byte}
use Rattle.container_meta.specs.Spelling.{HeaderValue, IsHeader, header_digest}
use Rattle.dd_disk.specs.Shows.{Shows}
use Rattle.dd_disk.specs.View.{DiskView}
use Rattle.disk_format.specs.declared.why.Why.{Why}
use Rattle.disk_format.specs.declared.why.Why.TheVariants.{Digest, Field}
use Rattle.disk_format.specs.Layout.{slot_at}
use Rattle.refusals.specs.declared.refusal.Refusal.{Refusal}
use Rattle.refusals.specs.declared.refusal.Refusal.TheVariants.{Memory, DiskRead, Damaged}
use Rattle.store_model.specs.Slots.{HoldsSlot}
use Rattle.store_state.specs.declared.slot_table.SlotCount.{SlotCount}
use Rattle.store_state.specs.declared.slot_table.SlotTable.{SlotTable}
use Rattle.store_state.specs.Tables.{count_of}

-- The header is the one that the table has for the slot: by its id, its kind, the count of its entries, the length of its data and its
-- digest. So it is the header that was there when the container came into the table, unless two headers have one digest.
pub record IsTabled (t : SlotTable) (slot : ℕ) (h : HeaderValue) : Type 0 where
  pub id_is : get_or t.ids.items slot 0 ≡ h.id
  pub count_is : slice_get t.counts.items slot ≡ Some (count_of (Some h))

-- what has to be the same of a header and the tables, in the order in which it is compared
abbrev pub header_checks : ℕ → SlotCount → HeaderValue → List (Check Why)
header_checks id c h =
    record { holds = h.id == id; fault = Field 8 h.id }
    ∷ record { holds = kind_byte h.kind == kind_byte c.kind; fault = Field 16 (kind_byte h.kind) }
    ∷ record { holds = length h.entries == c.entries; fault = Field 18 (length h.entries) }
    ∷ record { holds = h.data_length == c.bytes; fault = Field 20 h.data_length }
    ∷ record { holds = bytes_eq c.digest (header_digest h); fault = Digest c.digest (header_digest h) }
    ∷ []

-- A right header was read that is another than that of the table: this is the first of its fields that differs, or else its digest.
pub record IsOtherHeader (t : SlotTable) (old new : DiskView) (slot : ℕ) (why : Why) : Type 0 where
  pub header : HeaderValue
  pub right : IsHeader header
  pub shown : Shows old new (λ image. HoldsSlot image slot (Some header))
  pub count : SlotCount
  pub there : slice_get t.counts.items slot ≡ Some count
  pub first : passes (header_checks (get_or t.ids.items slot 0) count header) ≡ Err why

-- how the header of a slot is damaged: what was found in its place breaks the format, by its first fault, or is another header
abbrev pub IsHeaderDamage : SlotTable → DiskView → DiskView → ℕ → Why → Type 0
IsHeaderDamage t old new slot why = IsDamage (ReadAt old new (slot_at slot)) why ⊎ IsOtherHeader t old new slot why

-- ---- why a header is not given

-- no memory; a read that failed; or what was found in its place breaks the format
abbrev pub IsFormatRefusal : DiskView → DiskView → ℕ → Refusal → Type 0
IsFormatRefusal old new slot Memory = Unit {0}
IsFormatRefusal old new slot DiskRead = Unit {0}
IsFormatRefusal old new slot (Damaged at why) = (at ≡ slot_at slot) × IsDamage (ReadAt old new (slot_at slot)) why
IsFormatRefusal old new slot refusal = ⊥

-- the same, or it is another header than that of the table
abbrev pub IsHeaderRefusal : SlotTable → DiskView → DiskView → ℕ → Refusal → Type 0
IsHeaderRefusal t old new slot Memory = Unit {0}
IsHeaderRefusal t old new slot DiskRead = Unit {0}
IsHeaderRefusal t old new slot (Damaged at why) = (at ≡ slot_at slot) × IsHeaderDamage t old new slot why
IsHeaderRefusal t old new slot refusal = ⊥
