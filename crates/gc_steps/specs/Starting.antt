-- How a collection begins, and why it does not (docs/MODEL.md, 'Collection').
use Rattle.std.specs.Prelude.{◌≡◌, ◌⊎◌, ◌↔◌, ◌+◌, ◌-◌, ◌^◌, ℕ, List, [], ◌∷◌, ◌++◌, Option, None, min}
use Rattle.std.specs.FinMap as finite
use Rattle.std.specs.List.{All}
use Rattle.actor_parts.specs.declared.part.Part.{Part}
use Rattle.container_meta.specs.declared.place.Place.{Place}
use Rattle.container_meta.specs.Places.{PlaceMap}
use Rattle.disk_format.specs.declared.numbers.TheConstants.{MOST_LEVEL}
use Rattle.gc_enumerate.specs.Copies.{KnownMap, IsPlaceOf}
use Rattle.gc_enumerate.specs.Live.{IsLiveAt}
use Rattle.gc_enumerate.specs.Scanning.{IsMisplaced}
use Rattle.gc_sweep.specs.Beginning.{Begins}
use Rattle.refusals.specs.declared.refusal.Refusal.{Refusal}
use Rattle.refusals.specs.declared.refusal.Refusal.TheVariants.{Memory, DiskRead, Damaged, Missing}
use Rattle.store_state.specs.declared.tables.Tables.{Tables}
use Rattle.gc_steps.specs.declared.collection.Collection.{Collection}
use Rattle.gc_steps.specs.declared.roots.RootKey.{RootKey}
use Rattle.gc_steps.specs.Roots.{IsRoot}
use Rattle.gc_steps.specs.Stages.{mark_level}

-- The index, where its map is known, has the key of a root where a segment of its level lies.
abbrev pub IsFound : Option PlaceMap → RootKey → Type 0
IsFound known root = (place : Place) × (IsPlaceOf known root.key place × (place.level ≡ root.level))

abbrev pub AreFound : Option PlaceMap → List RootKey → Type 0
AreFound known roots = All (IsFound known) roots

-- Why one is not found: the index lacks its key, or has it at another level. Or a read failed, or the index is damaged, whose map is not
-- known then; nor is it known by itself (alone), with no disk.
abbrev pub IsUnfound : (alone known : Option PlaceMap) → RootKey → Refusal → Type 0
IsUnfound alone known root DiskRead = alone ≡ None
IsUnfound alone known root (Missing key) = (key ≡ root.key) × KnownMap known (λ m. finite.get m key ≡ None)
IsUnfound alone known root (Damaged at why) = ((alone ≡ None) × (known ≡ None)) ⊎ IsMisplaced known root.level root.key at why
IsUnfound alone known root refusal = ⊥

-- It is the first that is not found.
pub record StopsAt (alone known : Option PlaceMap) (roots : List RootKey) (refusal : Refusal) : Type 0 where
  pub before : List RootKey
  pub at : RootKey
  pub after : List RootKey
  pub roots_are : roots ≡ before ++ at ∷ after
  pub passed : AreFound known before
  pub cause : IsUnfound alone known at refusal

-- Why a collection does not begin. Want of memory is the one free answer.
abbrev pub IsStartRefusal : (alone known : Option PlaceMap) → List RootKey → Refusal → Type 0
IsStartRefusal alone known roots Memory = Unit {0}
IsStartRefusal alone known roots refusal = StopsAt alone known roots refusal

-- A collection that has begun: its snapshot is the next container id; just the roots are live; nothing was recorded, and no sources were
-- chosen; and it marks the highest level first.
pub record IsBegun (t : Tables) (parts : List Part) (percent : ℕ) (c : Collection) : Type 0 where
  pub snapshot_is : c.snapshot ≡ min (t.held.last_id + 1) (2 ^ 64 - 1)
  pub percent_is : c.percent ≡ percent
  pub live : (key : List ℕ) (place : Place) → IsLiveAt c.live key place ↔ IsRoot t.names parts key
  pub nothing_yet : (c.liveness ≡ []) × Begins t.held [] c.sweep
  pub stage_is : c.stage ≡ mark_level c.snapshot t.held MOST_LEVEL
