-- What scanning a container does to the live keys (docs/MODEL.md, 'Collection').
use Rattle.std.specs.Prelude.{◌≡◌, ◌⊎◌, ℕ, ◌+◌, Option, None, Some}
use Rattle.container_meta.specs.Places.{PlaceMap}
use Rattle.container_meta.specs.Spelling.{HeaderValue, IsHeader}
use Rattle.dd_disk.specs.Shows.{Shows}
use Rattle.dd_disk.specs.View.{DiskView}
use Rattle.gc_enumerate.specs.Live.{LiveKeys}
use Rattle.gc_enumerate.specs.Marking.{MarksChildren, MarksSome, ChildrenAreLive}
use Rattle.gc_enumerate.specs.Scanning.{Scan, IsScanFault, scan_of}
use Rattle.gc_enumerate.specs.declared.fault.ScanFault.{ScanFault}
use Rattle.refusals.specs.declared.refusal.Refusal.{Refusal}
use Rattle.refusals.specs.declared.refusal.Refusal.TheVariants.{Memory}
use Rattle.store_model.specs.Slots.{HoldsSlot}
use Rattle.store_state.specs.declared.slot_table.SlotTable.{SlotTable}
use Rattle.gc_steps.specs.declared.collection.Collection.{Collection}
use Rattle.copy_forward.specs.Headers.{IsHeaderRefusal, IsTabled}
use Rattle.gc_steps.specs.Scanning.{ShowsAt, step_refusal}
use Rattle.gc_steps.specs.Stages.{mark_from}

-- a scan of the container of a slot for the nodes of a level
abbrev pub scan_for : Option PlaceMap → LiveKeys → ℕ → ℕ → HeaderValue → Scan
scan_for known live slot level h = scan_of known live (record { slot = slot; kind = h.kind; level = level })

-- Just the children of its live nodes of that level became live: of each entry that is live, and the copy that the index has.
pub record ScansEntries (known : Option PlaceMap) (old new : DiskView) (slot level : ℕ) (h : HeaderValue)
    (before after : LiveKeys) : Type 0 where
  pub marks : MarksChildren (scan_for known before slot level h) (ShowsAt old new) h.entries after
  pub children : ChildrenAreLive (scan_for known before slot level h) (ShowsAt old new) h.entries after

-- Some of them did.
abbrev pub ScansSome : Option PlaceMap → DiskView → DiskView → ℕ → ℕ → HeaderValue → LiveKeys → LiveKeys → Type 0
ScansSome known old new slot level h before after = MarksSome (scan_for known before slot level h) (ShowsAt old new) h.entries after

-- why they did not, by the entry at which the scan stopped; an index over the disk may be damaged, whose map is not known then
abbrev pub IsEntriesFault : Option PlaceMap → DiskView → DiskView → ℕ → ℕ → HeaderValue → LiveKeys → ScanFault → Type 0
IsEntriesFault known old new slot level h live fault =
    IsScanFault (scan_for known live slot level h) (ShowsAt old new) (λ at why. known ≡ None) h.entries fault

-- A container was scanned, as reads showed its header, which is that of the table, and its nodes of the level; the next one comes.
pub record Scans (t : SlotTable) (known : Option PlaceMap) (old new : DiskView) (level slot : ℕ) (before after : Collection) : Type 0 where
  pub header : HeaderValue
  pub right : IsHeader header
  pub tabled : IsTabled t slot header
  pub shown : Shows old new (λ image. HoldsSlot image slot (Some header))
  pub scanned : ScansEntries known old new slot level header before.live after.live
  pub collection_is : after ≡ record before { live = after.live; stage = mark_from before.snapshot t level (slot + 1) }

-- It was not, by an entry of it, as reads showed its header, which is that of the table.
pub record StopsScan (t : SlotTable) (known : Option PlaceMap) (old new : DiskView) (level slot : ℕ) (live : LiveKeys)
    (refusal : Refusal) : Type 0 where
  pub header : HeaderValue
  pub right : IsHeader header
  pub tabled : IsTabled t slot header
  pub shown : Shows old new (λ image. HoldsSlot image slot (Some header))
  pub fault : ScanFault
  pub refusal_is : refusal ≡ step_refusal fault
  pub cause : IsEntriesFault known old new slot level header live fault

-- why not: its header was not given, or an entry stopped the scan
abbrev pub IsMarkRefusal : SlotTable → Option PlaceMap → DiskView → DiskView → ℕ → ℕ → LiveKeys → Refusal → Type 0
IsMarkRefusal t known old new level slot live refusal =
    IsHeaderRefusal t old new slot refusal ⊎ StopsScan t known old new level slot live refusal

-- Where memory ran out some of the children may be live.
pub record MarksOnly (known : Option PlaceMap) (old new : DiskView) (level slot : ℕ) (before after : Collection) : Type 0 where
  pub header : HeaderValue
  pub right : IsHeader header
  pub shown : Shows old new (λ image. HoldsSlot image slot (Some header))
  pub scanned : ScansSome known old new slot level header before.live after.live
  pub collection_is : after ≡ record before { live = after.live }

-- What is refused leaves the collection as it was, but that memory ran out.
abbrev pub KeepsMarks : Option PlaceMap → DiskView → DiskView → ℕ → ℕ → Collection → Collection → Refusal → Type 0
KeepsMarks known old new level slot before after Memory = (after ≡ before) ⊎ MarksOnly known old new level slot before after
KeepsMarks known old new level slot before after refusal = after ≡ before
