-- Where the index has keys, and what calls of it and of the disk leave (docs/MODEL.md, 'Marking').
use Rattle.std.specs.Prelude.{◌≡◌, ℕ, List, Option, Some, Result, Ok, Err}
use Rattle.std.specs.FinMap as finite
use Rattle.base_model.specs.Fault.{Rose}
use Rattle.container_meta.specs.declared.place.Place.{Place}
use Rattle.container_meta.specs.Places.{PlaceMap}
use Rattle.gc_enumerate.specs.declared.fault.ScanFault.{ScanFault}
use Rattle.gc_enumerate.specs.declared.fault.ScanFault.TheVariants.{DiskRead}

-- P holds of the map, where it is known
abbrev pub KnownMap : Option PlaceMap → (PlaceMap → Type 0) → Type 0
KnownMap known P = (places : PlaceMap) → known ≡ Some places → P places

-- the index, where its map is known, has this place for the key
abbrev pub IsPlaceOf : Option PlaceMap → List ℕ → Place → Type 0
IsPlaceOf known key place = KnownMap known (λ m. finite.get m key ≡ Some place)

-- The count of faults rises where a read failed, and stays as it was else.
abbrev pub CountsReads : {T : Type 0} → Result T ScanFault → ℕ → ℕ → Type 0
CountsReads (Ok x) before now = now ≡ before
CountsReads (Err DiskRead) before now = Rose before now
CountsReads (Err fault) before now = now ≡ before
