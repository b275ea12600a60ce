-- When a container that was filled with copies isn't written (docs/MODEL.md, 'Copying').
use Rattle.std.specs.Prelude.{◌≡◌, List, map, Option, None}
use Rattle.std.specs.FinMap as finite
use Rattle.container_meta.specs.declared.entry.Entry.{Entry}
use Rattle.container_meta.specs.declared.kind.Kind.{Kind}
use Rattle.container_meta.specs.declared.place.Place.{Place}
use Rattle.container_meta.specs.Places.{PlaceMap}
use Rattle.refusals.specs.declared.refusal.Refusal.{Refusal}
use Rattle.refusals.specs.declared.refusal.Refusal.TheVariants.{Memory, DiskRead, DiskWrite, Damaged}
use Rattle.store_model.specs.Indexing.{entry_key}

-- the places that the map has for the keys of entries
abbrev pub places_in : PlaceMap → Kind → List Entry → List (Option Place)
places_in m kind entries = map (λ e. finite.get m (entry_key kind e)) entries

-- why it isn't written: no memory; a call of the disk failed; or damage of the index, whose map is not known then
abbrev pub IsFlushRefusal : Option PlaceMap → Refusal → Type 0
IsFlushRefusal known Memory = Unit {0}
IsFlushRefusal known DiskRead = Unit {0}
IsFlushRefusal known DiskWrite = Unit {0}
IsFlushRefusal known (Damaged at why) = known ≡ None
IsFlushRefusal known refusal = ⊥
