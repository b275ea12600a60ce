-- Slots that are marked as the trees of all names are walked (docs/MODEL.md, 'The reserve').
use Rattle.std.specs.Prelude.{◌≡◌, ◌<◌, ℕ, List, Bool, true, false, Some, get_or, length, slice_set}
use Rattle.std.specs.FinMap as finite
use Rattle.container_meta.specs.declared.place.Place.{Place}
use Rattle.container_meta.specs.Places.{PlaceMap}
use Rattle.dd_disk.specs.View.{DiskView}
use Rattle.merkle_file.specs.declared.top.Top.{Top}
use Rattle.namespace.specs.Listing.{NamedRoot}
use Rattle.read_steps.specs.Visiting.{HasPlace, IsVisited, VisitsRoots}
use Rattle.read_steps.specs.Walking.{WasRead}

-- the place lies in one of the slots
abbrev pub HasSlot : List Bool → Place → Type 0
HasSlot used place = place.slot < length used

-- its slot is marked
abbrev pub MarksSlot : List Bool → List ℕ → Place → List Bool → Type 0
MarksSlot used key place marked = HasSlot used place × (marked ≡ slice_set used place.slot true)

-- the index has a key that was visited in the slot
abbrev pub IsNeeded : PlaceMap → List Top → ℕ → Type 0
IsNeeded index visited slot =
    (key : List ℕ) × ((place : Place) × (IsVisited visited key × (finite.get index key ≡ Some place) × (place.slot ≡ slot)))

-- just the slots are marked in which the index has keys that were visited
pub record IsMarked (index : PlaceMap) (visited : List Top) (used : List Bool) : Type 0 where
  pub all : (key : List ℕ) (place : Place) → IsVisited visited key → finite.get index key ≡ Some place
      → get_or used place.slot false ≡ true
  pub only : (slot : ℕ) → get_or used slot false ≡ true → IsNeeded index visited slot

-- The trees of these roots were walked, and just their slots are marked.
pub record MarksFor (index : PlaceMap) (old new : DiskView) (roots : List NamedRoot) (marked : List Bool) : Type 0 where
  pub visited : List Top
  pub visits : VisitsRoots (WasRead (Some index) old new) (HasPlace (Some index)) roots visited
  pub marks : IsMarked index visited marked
