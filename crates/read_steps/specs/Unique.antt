-- How many keys the trees of all names have, and how many bytes these have together (docs/MODEL.md, 'Reading').
use Rattle.std.specs.Prelude.{◌≡◌, ℕ, List, Some}
use Rattle.std.specs.FinMap as finite
use Rattle.container_meta.specs.declared.place.Place.{Place}
use Rattle.container_meta.specs.Places.{PlaceMap}
use Rattle.dd_disk.specs.View.{DiskView}
use Rattle.merkle_file.specs.declared.top.Top.{Top}
use Rattle.namespace.specs.Listing.{NamedRoot}
use Rattle.actor_parts.specs.declared.step.Answer.{Answer}
use Rattle.actor_parts.specs.declared.step.Answer.TheVariants.{Unique}
use Rattle.store_model.specs.Unique.{KeySizes, bytes_in}
use Rattle.read_steps.specs.Visiting.{HasPlace, IsVisited, VisitsRoots}
use Rattle.read_steps.specs.Walking.{WasRead}

-- just the keys that were visited, each with how many bytes the index says it has
pub record AreSizes (index : PlaceMap) (visited : List Top) (sizes : KeySizes) : Type 0 where
  pub all : (key : List ℕ) → IsVisited visited key
      → (place : Place) × ((finite.get index key ≡ Some place) × (finite.get sizes key ≡ Some place.length))
  pub only : (key : List ℕ) (size : ℕ) → finite.get sizes key ≡ Some size → IsVisited visited key

-- The trees of these roots were walked, and their keys counted.
pub record CountsTrees (index : PlaceMap) (old new : DiskView) (roots : List NamedRoot) (segments bytes : ℕ) : Type 0 where
  pub visited : List Top
  pub visits : VisitsRoots (WasRead (Some index) old new) (HasPlace (Some index)) roots visited
  pub sizes : KeySizes
  pub are : AreSizes index visited sizes
  pub segments_is : segments ≡ finite.len sizes
  pub bytes_is : bytes ≡ bytes_in sizes

abbrev pub IsUniqueAnswer : PlaceMap → DiskView → DiskView → List NamedRoot → Answer → Type 0
IsUniqueAnswer index old new roots (Unique segments bytes) = CountsTrees index old new roots segments bytes
IsUniqueAnswer index old new roots answer = ⊥
