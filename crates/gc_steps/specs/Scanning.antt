-- The disk and the index that a scan is lent (docs/MODEL.md, 'Collection').
use Rattle.std.specs.Prelude.{◌≡◌, ℕ, List, Option}
use Rattle.container_meta.specs.declared.place.Place.{Place}
use Rattle.container_meta.specs.Places.{PlaceMap}
use Rattle.gc_enumerate.specs.declared.fault.ScanFault.{ScanFault}
use Rattle.gc_enumerate.specs.declared.fault.ScanFault.TheVariants as faults
use Rattle.dd_disk.specs.Shows.{Shows}
use Rattle.dd_disk.specs.View.{DiskView, OnlyReads}
use Rattle.refusals.specs.declared.refusal.Refusal.{Refusal}
use Rattle.refusals.specs.declared.refusal.Refusal.TheVariants.{Memory, DiskRead, Damaged, Corrupt, Missing}
use Rattle.store_model.specs.Trees.{bytes_at}

-- Calls that only read the disk, and leave the map of the index as it was.
pub record ReadsOn (old_known new_known : Option PlaceMap) (old new : DiskView) : Type 0 where
  pub only : OnlyReads old new
  pub map_stays : new_known ≡ old_known

-- reads showed that these bytes lie at a place
abbrev pub ShowsAt : DiskView → DiskView → Place → List ℕ → Type 0
ShowsAt old new place bytes = Shows old new (λ image. bytes_at place image ≡ bytes)

-- why a look-up or a read of the store is refused, as a scan says it
abbrev pub scan_fault : Refusal → ScanFault
scan_fault DiskRead = faults.DiskRead
scan_fault (Damaged at why) = faults.Damaged at why
scan_fault (Corrupt slot offset count want got) = faults.Corrupt slot offset count want got
scan_fault refusal = faults.Memory

-- and why a scan is refused, as a step says it
abbrev pub step_refusal : ScanFault → Refusal
step_refusal faults.DiskRead = DiskRead
step_refusal (faults.Damaged at why) = Damaged at why
step_refusal (faults.Corrupt slot offset count want got) = Corrupt slot offset count want got
step_refusal (faults.Missing key) = Missing key
step_refusal faults.Memory = Memory
