-- What recording a container, and choosing the sources, do to a collection (docs/MODEL.md, 'Collection').
use Rattle.std.specs.Prelude.{◌≡◌, ◌⊎◌, ℕ, ◌+◌, [], ◌∷◌, ◌++◌, get_or, slice_get, Option, None, Some, nat_eq}
use Rattle.std.specs.List.{IsDistinct}
use Rattle.std.specs.List.Sorted.{IsPermutation}
use Rattle.container_meta.specs.declared.kind.Kind.TheVariants.{Leaf}
use Rattle.container_meta.specs.Places.{PlaceMap}
use Rattle.container_meta.specs.Spelling.{HeaderValue, IsHeader}
use Rattle.dd_disk.specs.Shows.{Shows}
use Rattle.dd_disk.specs.View.{DiskView}
use Rattle.disk_format.specs.Layout.{slot_at}
use Rattle.gc_select.specs.declared.liveness.ContainerLiveness.{ContainerLiveness}
use Rattle.gc_select.specs.Selecting.{ids_of, selected, sources_of}
use Rattle.segment_index.specs.Places.{KnownMap}
use Rattle.store_model.specs.Slots.{HoldsSlot}
use Rattle.store_state.specs.declared.slot_table.SlotCount.{SlotCount}
use Rattle.store_state.specs.declared.slot_table.SlotTable.{SlotTable}
use Rattle.gc_steps.specs.declared.collection.Collection.{Collection}
use Rattle.copy_forward.specs.Entries.{SumsLive}
use Rattle.copy_forward.specs.Headers.{IsHeaderDamage, IsTabled}
use Rattle.refusals.specs.declared.refusal.Refusal.{Refusal}
use Rattle.refusals.specs.declared.refusal.Refusal.TheVariants.{Memory, DiskRead, Damaged}
use Rattle.gc_sweep.specs.Beginning.{Begins}
use Rattle.gc_steps.specs.declared.collection.Stage.TheVariants.{Sweep}
use Rattle.gc_steps.specs.Stages.{filter_from}

-- what is recorded of the container of a slot, of which so many bytes are live: its id, its kind and all its bytes are those of the table
abbrev pub recorded_by : ℕ → Option SlotCount → ℕ → ContainerLiveness
recorded_by id None live = record { id = id; kind = Leaf; live = live; all = 0 }
recorded_by id (Some c) live = record { id = id; kind = c.kind; live = live; all = c.bytes }

abbrev pub recorded : SlotTable → ℕ → ℕ → ContainerLiveness
recorded t slot live = recorded_by (get_or t.ids.items slot 0) (slice_get t.counts.items slot) live

-- The container of a slot is recorded, with the bytes of those entries that are live and the copies that the index has, as reads showed its
-- header, which is that of the table. What it is else is said by the table.
pub record Records (t : SlotTable) (known : Option PlaceMap) (old new : DiskView) (slot : ℕ) (before after : Collection) : Type 0 where
  pub header : HeaderValue
  pub right : IsHeader header
  pub tabled : IsTabled t slot header
  pub shown : Shows old new (λ image. HoldsSlot image slot (Some header))
  pub live : ℕ
  pub live_is : KnownMap known (λ index. SumsLive index before.live header.kind slot header.entries live)
  pub collection_is : after ≡ record before {
    liveness = before.liveness ++ recorded t slot live ∷ [];
    stage = filter_from before.snapshot t (slot + 1);
  }

-- why it is not recorded: no memory; a read that failed; a header that breaks the format, or is another than that of the table; or damage
-- of the index, whose map is not known then
abbrev pub IsRecordRefusal : SlotTable → Option PlaceMap → DiskView → DiskView → ℕ → Refusal → Type 0
IsRecordRefusal t known old new slot Memory = Unit {0}
IsRecordRefusal t known old new slot DiskRead = Unit {0}
IsRecordRefusal t known old new slot (Damaged at why) = ((at ≡ slot_at slot) × IsHeaderDamage t old new slot why) ⊎ (known ≡ None)
IsRecordRefusal t known old new slot refusal = ⊥

-- The sources are chosen: just the containers that are selected, each as often as it was recorded, so each once where each was recorded
-- once; data before trees, and by rising id. There is one such list. And a sweep of them begins.
pub record Chooses (t : SlotTable) (before after : Collection) : Type 0 where
  pub each : IsPermutation (ids_of (selected before.snapshot before.percent before.liveness)) after.sweep.sources.items
  pub apart : IsDistinct nat_eq (ids_of before.liveness) → IsDistinct nat_eq after.sweep.sources.items
  pub sources_are : after.sweep.sources.items ≡ sources_of (selected before.snapshot before.percent before.liveness)
  pub begins : Begins t after.sweep.sources.items after.sweep
  pub collection_is : after ≡ record before { stage = Sweep; sweep = after.sweep }
