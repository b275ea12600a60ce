-- What giving containers back does to the tables and to the disk (docs/MODEL.md, 'Sweeping').
use Rattle.std.specs.Prelude.{◌≡◌, ◌≢◌, ℕ, Bool, List, Option, Some}
use Rattle.std.specs.FinMap as finite
use Rattle.std.specs.List.{AllByRecursion}
use Rattle.base_model.specs.Known.{Known, KnownWith}
use Rattle.container_meta.specs.declared.place.Place.{Place}
use Rattle.container_meta.specs.Places.{PlaceMap}
use Rattle.dd_disk.specs.Ending.{Ending, Done, Refused, Unread, Broken}
use Rattle.dd_disk.specs.Moves.{Way, step, Moves}
use Rattle.dd_disk.specs.View.{DiskView, CrashLeaves, SteppedFrom}
use Rattle.segment_index.specs.Places.{KnownMap}
use Rattle.store_model.specs.Collisions.{ByteSet, IsIn, Stands}
use Rattle.store_model.specs.Files.{Files}
use Rattle.store_model.specs.Freeing.{SameButGates, with_all_freed, without_some}
use Rattle.store_model.specs.Image.{Store}
use Rattle.store_model.specs.Slots.{HasKey}
use Rattle.store_model.specs.Steps.{KeepsCopies}
use Rattle.store_state.specs.Invariant.{IndexesFiles}
use Rattle.store_state.specs.Tables.{Represents, Runs}
use Rattle.store_state.specs.declared.tables.Tables.{Tables}

-- the index has no entry in the slot
abbrev pub HasNoEntryIn : PlaceMap → ℕ → Type 0
HasNoEntryIn index slot = (key : List ℕ) (place : Place) → finite.get index key ≡ Some place → place.slot ≢ slot

-- nor in any of these
abbrev pub HasNoEntryInAny : PlaceMap → List ℕ → Type 0
HasNoEntryInAny index slots = AllByRecursion (HasNoEntryIn index) slots

-- The tables are those of before without some containers, in whose slots the index has no entry: of each store that they were those of,
-- they are those of the store with these slots closed.
pub record HasFreed (old : Tables) (slots : List ℕ) (new : Tables) : Type 0 where
  pub others_stay : new ≡ record old { held = new.held }
  pub last_stays : new.held.last_id ≡ old.held.last_id
  pub represents : (store : Store) (known : Option PlaceMap) → KnownMap known (λ index. HasNoEntryInAny index slots)
      → Represents store known old
      → Represents (with_all_freed slots store) known new
  pub runs : (size : ℕ) (known : Option PlaceMap) → KnownMap known (λ index. HasNoEntryInAny index slots) → Runs size known old
      → Runs size known new

-- the image is the store of these files with some of the slots closed, whichever
abbrev pub StandsWithout : (List ℕ → Type 0) → List ℕ → Store → Files → List ℕ → Type 0
StandsWithout S slots store files image = (marks : List Bool) × Stands S (without_some marks slots store) files image

-- the store of these files, then that with some of the slots closed, and then that with all
abbrev pub freeing : (List ℕ → Type 0) → List ℕ → Store → Files → Way
freeing S slots store files =
    step (Stands S store files) (StandsWithout S slots store files) (Stands S (with_all_freed slots store) files)

-- What becomes of what the content held: each newest copy goes on whose key the index has.
abbrev pub KeepsFreed : Ending → PlaceMap → List ℕ → Store → List ℕ → List ℕ → Type 0
KeepsFreed Done index slots store given new = KeepsCopies (HasKey index) store given (with_all_freed slots store) new
KeepsFreed Refused index slots store given new = KeepsCopies (HasKey index) store given store new
KeepsFreed Unread index slots store given new = KeepsCopies (HasKey index) store given store new
KeepsFreed Broken index slots store given new = Unit {0}

-- Containers are given back: of each store that the tables represent, and of any files whose keys the index has, where it has no entry in
-- the slots. At any moment each image is the store of these files with some of the slots closed; at the end it is that with all.
pub record GivesBack (t : Tables) (slots : List ℕ) (ending : Ending) (old new : DiskView) : Type 0 where
  pub moves : (among : ByteSet) (store : Store) (index : PlaceMap) (files : Files) → Represents store (Some index) t
      → IndexesFiles index files
      → HasNoEntryInAny index slots → Moves (freeing (IsIn among) slots store files) ending old new
  pub holds : (among : ByteSet) (store : Store) (index : PlaceMap) (files : Files) (given held : List ℕ) → Represents store (Some index) t
      → IndexesFiles index files → HasNoEntryInAny index slots → old.content ≡ Some given → new.content ≡ Some held
      → Stands (IsIn among) store files given → KeepsFreed ending index slots store given held

-- Nothing changes but the gates of the slots, whatever a disk that tells its content holds.
pub record ChangesGatesAlone (slots : List ℕ) (ending : Ending) (old new : DiskView) : Type 0 where
  -- At any moment a crash leaves an image from before, or one but for the gates.
  pub leaves : Known old.content (λ _. CrashLeaves (SteppedFrom (SameButGates slots) old) old new)
  -- Where they were written, reads give what they gave, but for the gates.
  pub content : ending ≡ Done → Known old.content (λ given. KnownWith new.content (SameButGates slots given))
