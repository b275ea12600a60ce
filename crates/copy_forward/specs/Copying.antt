-- What becomes of the entries of a container whose live copies are put into another (docs/MODEL.md, 'Copying').
use Rattle.std.specs.Prelude.{◌≡◌, ◌≢◌, ◌⊎◌, ◌<◌, ◌≤◌, ℕ, [], drop, length, List, Option, None, Some}
use Rattle.container_meta.specs.Places.{PlaceMap}
use Rattle.container_meta.specs.Segments.{Contents}
use Rattle.container_meta.specs.Spelling.{HeaderValue, IsHeader}
use Rattle.dd_disk.specs.Shows.{Shows}
use Rattle.dd_disk.specs.View.{DiskView}
use Rattle.gc_enumerate.specs.Live.{LiveKeys}
use Rattle.refusals.specs.declared.refusal.Refusal.{Refusal}
use Rattle.segment_index.specs.Places.{KnownMap}
use Rattle.store_model.specs.Slots.{HoldsSlot}
use Rattle.store_state.specs.Indexing.{Stays}
use Rattle.copy_forward.specs.declared.plan.Plan.{Plan}
use Rattle.store_state.specs.declared.slot_table.SlotTable.{SlotTable}
use Rattle.copy_forward.specs.Entries.{IsRemoveRefusal, without_keys}
use Rattle.copy_forward.specs.Headers.{IsHeaderRefusal, IsTabled}
use Rattle.copy_forward.specs.Planning.{IsPlan, IsPlanRefusal, Source, planned, source_of}

-- A header by which nothing is planned: it is of another kind than the container that is filled, or has fewer entries.
abbrev pub IsOther : HeaderValue → ℕ → Contents → Type 0
IsOther h from buffer = (h.kind ≢ buffer.kind) ⊎ (length h.entries < from)

-- nothing is planned of such a one; else its entries from one on are
abbrev pub PlansBy : Source → ((List ℕ → Type 0) → Type 0) → HeaderValue → ℕ → Contents → Option Plan → Type 0
PlansBy s shown h from buffer None = IsOther h from buffer
PlansBy s shown h from buffer (Some plan) = (h.kind ≡ buffer.kind) × IsPlan s shown h.entries from buffer plan

-- What is to be copied, and by what: the container of a slot, from the entry of a number on, is put into one that is filled, by the table
-- of slots, the map of the index, where it is known, and the live keys.
pub record CopyTask : Type 0 where
  pub held : SlotTable
  pub known : Option PlaceMap
  pub live : LiveKeys
  pub slot : ℕ
  pub from : ℕ
  pub buffer : Contents

abbrev pub copy_task : SlotTable → Option PlaceMap → LiveKeys → ℕ → ℕ → Contents → CopyTask
copy_task held known live slot from buffer =
    record { held = held; known = known; live = live; slot = slot; from = from; buffer = buffer }

-- The container was looked at by its header as reads showed it, which is that of the table, and this was planned.
pub record PlansSource (task : CopyTask) (old new : DiskView) (found : Option Plan) : Type 0 where
  pub header : HeaderValue
  pub right : IsHeader header
  pub tabled : IsTabled task.held task.slot header
  pub shown : Shows old new (λ image. HoldsSlot image task.slot (Some header))
  pub plans : PlansBy (source_of task.known task.live task.slot header.kind) (Shows old new) header task.from task.buffer found

-- the keys of the dead copies left the index
abbrev pub Forgets : Option PlaceMap → Option PlaceMap → Option Plan → Type 0
Forgets known after None = after ≡ known
Forgets known after (Some plan) = KnownMap known (λ m. after ≡ Some (without_keys plan.dead.items m)) × Stays known after

-- why nothing is planned: of its header, or, by that, which is the one of the table, of its entries
abbrev pub IsSourceRefusal : CopyTask → DiskView → DiskView → Refusal → Type 0
IsSourceRefusal task old new refusal =
    IsHeaderRefusal task.held old new task.slot refusal
    ⊎ ((h : HeaderValue) × IsTabled task.held task.slot h × Shows old new (λ image. HoldsSlot image task.slot (Some h))
    × (h.kind ≡ task.buffer.kind)
    × (task.from ≤ length h.entries)
    × IsPlanRefusal (source_of task.known task.live task.slot h.kind) (Shows old new) (drop task.from h.entries)
    (planned task.buffer []) refusal)

-- or why it is not done
abbrev pub IsCopyRefusal : CopyTask → DiskView → DiskView → Refusal → Type 0
IsCopyRefusal task old new refusal = IsSourceRefusal task old new refusal ⊎ IsRemoveRefusal task.known refusal
