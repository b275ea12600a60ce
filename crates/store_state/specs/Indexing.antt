-- What is looked up in an index, and put into it (docs/MODEL.md, 'The running store').
use Rattle.std.specs.Prelude.{◌≡◌, ℕ, List, [], ◌∷◌, length, take, drop, Option, Some, None, IfSome}
use Rattle.std.specs.FinMap as finite
use Rattle.std.specs.List.{AllByRecursion}
use Rattle.disk_format.specs.declared.why.Why.{Why}
use Rattle.disk_format.specs.Layout.{size_of}
use Rattle.container_meta.specs.declared.entry.Entry.{Entry}
use Rattle.container_meta.specs.declared.kind.Kind.{Kind}
use Rattle.container_meta.specs.declared.place.Place.{Place}
use Rattle.container_meta.specs.Places.{PlaceMap}
use Rattle.container_meta.specs.Spelling.{Follow}
use Rattle.segment_index.specs.Places.{KnownMap, IsPlace}
use Rattle.store_model.specs.Indexing.{entry_key, with_entries}
use Rattle.store_model.specs.Slots.{place_of}
use Rattle.refusals.specs.declared.refusal.Refusal.{Refusal}
use Rattle.refusals.specs.declared.refusal.Refusal.TheVariants.{Memory, DiskRead, DiskWrite, Damaged}

-- why a look-up is refused: a read that failed, or damage
abbrev pub IsFindRefusal : (ℕ → Why → Type 0) → Refusal → Type 0
IsFindRefusal damaged DiskRead = Unit {0}
IsFindRefusal damaged (Damaged at why) = damaged at why
IsFindRefusal damaged refusal = ⊥

-- why a change is refused: want of memory, a call of the disk that failed, or damage, where the map isn't known
abbrev pub IsChangeRefusal : Option PlaceMap → Refusal → Type 0
IsChangeRefusal known Memory = Unit {0}
IsChangeRefusal known DiskWrite = Unit {0}
IsChangeRefusal known (Damaged at why) = known ≡ None
IsChangeRefusal known refusal = ⊥

-- a disk of so many slots has this size
pub record IsOfSlots (size : ℕ) : Type 0 where
  pub slots : ℕ
  pub size_is : size ≡ size_of slots

-- these stand one after the other in a container of the slot, each where a segment may lie
pub record ArePart (size slot : ℕ) (kind : Kind) (entries : List Entry) : Type 0 where
  pub before : List Entry
  pub follow : Follow kind before entries
  pub places : AllByRecursion (λ e. IsPlace size (place_of slot e)) entries

-- the keys of these entries have these places in the map, one by one
abbrev pub HaveHad : PlaceMap → Kind → List Entry → List (Option Place) → Type 0
HaveHad m kind [] places = Unit {0}
HaveHad m kind (e ∷ es) [] = ⊥
HaveHad m kind (e ∷ es) (had ∷ rest) = (had ≡ finite.get m (entry_key kind e)) × HaveHad m kind es rest

-- As many places as entries, each where a segment may lie: those that the map has, where it is known.
pub record AreHad (size : ℕ) (known : Option PlaceMap) (kind : Kind) (entries : List Entry) (places : List (Option Place)) : Type 0 where
  pub many : length places ≡ length entries
  pub lie : AllByRecursion (λ had. IfSome had (IsPlace size)) places
  pub had : KnownMap known (λ m. HaveHad m kind entries places)

-- the map with the place that a key had
abbrev pub with_had : Option Place → List ℕ → PlaceMap → PlaceMap
with_had (Some place) key m = finite.insert m key place
with_had None key m = finite.remove m key

-- a map that isn't known stays so
abbrev pub Stays : Option PlaceMap → Option PlaceMap → Type 0
Stays old new = old ≡ None → new ≡ None

-- ---- entries that are put, and taken back

-- the map with the place of one entry more
abbrev pub with_entry : Kind → ℕ → List Entry → ℕ → PlaceMap → PlaceMap
with_entry kind slot entries at m = with_entries kind slot (take 1 (drop at entries)) m

-- The places of the first entries, so many, were put into a map that has these places of all entries' keys.
pub record PutOver (kind : Kind) (entries : List Entry) (hads : List (Option Place)) (count : ℕ) (before after : PlaceMap) : Type 0 where
  pub slot : ℕ
  pub first : List Entry
  pub follow : Follow kind first entries
  pub had : HaveHad before kind entries hads
  pub is : after ≡ with_entries kind slot (take count entries) before

abbrev pub IsPutOver : Kind → List Entry → List (Option Place) → ℕ → PlaceMap → Type 0
IsPutOver kind entries hads count after = (before : PlaceMap) × PutOver kind entries hads count before after

-- they are taken back
abbrev pub TakesBack : Kind → List Entry → List (Option Place) → ℕ → Option PlaceMap → Option PlaceMap → Type 0
TakesBack kind entries hads count old new = (before after : PlaceMap) → PutOver kind entries hads count before after → old ≡ Some after →
    new ≡ Some before
