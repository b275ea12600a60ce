-- How an opening makes room, step by step (docs/MODEL.md, 'The reserve').
use Rattle.std.specs.Prelude.{◌≡◌, ◌≢◌, ◌⊎◌, ◌<◌, ◌≤◌, ℕ, List, [], length, get_or, Bool, true, false, IsTrue, Option, Some, None}
use Rattle.std.specs.List.{AllByRecursion}
use Rattle.base_model.specs.Bytes.{byte_at}
use Rattle.base_model.specs.Known.{Known, KnownWith}
use Rattle.container_meta.specs.Places.{PlaceMap}
use Rattle.container_meta.specs.Spelling.{HeaderValue}
use Rattle.dd_disk.specs.Ending.{CountsFault, ending_of}
use Rattle.dd_disk.specs.View.{DiskView, IsLater, IsDurable, OnlyReads, CrashLeaves}
use Rattle.disk_format.specs.Layout.{slot_at}
use Rattle.disk_format.specs.declared.numbers.TheConstants.{RESERVE}
use Rattle.merkle_file.specs.declared.top.Top.{Top}
use Rattle.namespace.specs.Listing.{listing_of}
use Rattle.refusals.specs.declared.refusal.Refusal.{Refusal}
use Rattle.refusals.specs.declared.refusal.Refusal.TheVariants.{DiskWrite}
use Rattle.store_model.specs.Freeing.{FreesSome, IsPartlyFreed, SameButGates, with_all_freed}
use Rattle.store_model.specs.Image.{Store, Encodes, IsValidFor, names_of}
use Rattle.store_model.specs.Reserve.{HoldsNone, IsSpare}
use Rattle.store_model.specs.Slots.{free_slots, ids_of}
use Rattle.store_state.specs.declared.open_store.OpenStore.{OpenStore}
use Rattle.store_state.specs.Refused.{blames, fails}
use Rattle.store_state.specs.State.{Represents}
use Rattle.read_steps.specs.Trees.{AllHeld, IsTreesRefusal, WhereHeld}
use Rattle.read_steps.specs.Visiting.{HasPlace, IsVisited, VisitsRoots}
use Rattle.read_steps.specs.Walking.{WasRead}

-- ---- the slot of the least id

-- a slot is open and not marked
pub record IsSpareIn (ids : List ℕ) (used : List Bool) (slot : ℕ) : Type 0 where
  pub within : slot < length ids
  pub open_is : get_or ids slot 0 ≢ 0
  pub unused : get_or used slot false ≡ false

-- of the first so many slots it has the least id of those that are open and not marked
pub record IsLeastIn (ids : List ℕ) (used : List Bool) (count slot : ℕ) : Type 0 where
  pub spare : IsSpareIn ids used slot
  pub least : (other : ℕ) → other < count → IsSpareIn ids used other → get_or ids slot 0 ≤ get_or ids other 0

-- the one of the least id, if there is one
abbrev pub IsLeastOf : List ℕ → List Bool → ℕ → Option ℕ → Type 0
IsLeastOf ids used count None = (other : ℕ) → other < count → ¬ (IsSpareIn ids used other)
IsLeastOf ids used count (Some slot) = IsLeastIn ids used count slot

-- ---- containers are given back

-- the slots that are marked are those that hold the newest copy of a key of which P holds
pub record AreMarks (P : List ℕ → Type 0) (held : List (Option HeaderValue)) (used : List Bool) : Type 0 where
  pub clear : (slot : ℕ) → get_or used slot false ≡ false → HoldsNone P held slot
  pub needed : (slot : ℕ) → get_or used slot false ≡ true → ¬ (HoldsNone P held slot)

-- ids, marks and the count of closed slots are those of the store, by keys that were visited
pub record IsReady (size : ℕ) (store : Store) (visited : List Top) (ids : List ℕ) (used : List Bool) (free : ℕ) : Type 0 where
  pub valid : IsValidFor size store
  pub ids_are : ids ≡ ids_of store.held
  pub free_is : free ≡ free_slots store.held
  pub marks : AreMarks (IsVisited visited) store.held used

-- at each moment a crash leaves what it might have left before, or some of these containers given back
abbrev pub LeavesFreed : Store → List ℕ → DiskView → DiskView → Type 0
LeavesFreed store freed old new = Known old.content (λ given. Encodes given store
    → CrashLeaves (λ c. old.images c ⊎ IsPartlyFreed store freed given c) old new)

-- each image at the end has some of them given back
abbrev pub ImagesFreed : Store → List ℕ → DiskView → DiskView → Type 0
ImagesFreed store freed old new = Known old.content (λ given. Encodes given store
    → (c : List ℕ) → new.images c → IsPartlyFreed store freed given c)

-- the gates of these slots are 0
abbrev pub AreClear : List ℕ → List ℕ → Type 0
AreClear slots image = AllByRecursion (λ slot. byte_at (slot_at slot) image ≡ 0) slots

-- These were given back, one after the other.
pub record AreFreed (store : Store) (visited : List Top) (freed : List ℕ) (old new : DiskView) : Type 0 where
  pub frees : FreesSome (IsVisited visited) freed store
  pub content : Known old.content (λ given. Encodes given store → KnownWith new.content (λ now.
      Encodes now (with_all_freed freed store) × SameButGates freed given now × AreClear freed now))
  pub crash : LeavesFreed store freed old new

-- Of the last of them it isn't known.
pub record AreCut (store : Store) (visited : List Top) (freed : List ℕ) (old new : DiskView) : Type 0 where
  pub frees : FreesSome (IsVisited visited) freed store
  pub content : Known old.content (λ given. Encodes given store → KnownWith new.content (IsPartlyFreed store freed given))
  pub images : ImagesFreed store freed old new
  pub crash : LeavesFreed store freed old new

-- no more need be given back, or no more can
abbrev pub IsEnough : (List ℕ → Type 0) → Store → Type 0
IsEnough P store = (RESERVE ≤ free_slots store.held) ⊎ ((slot : ℕ) → ¬ (IsSpare P store.held slot))

-- what was written stands after a crash, and no call failed
pub record IsSteady (old new : DiskView) : Type 0 where
  pub later : IsLater old new
  pub faults_are : new.faults ≡ old.faults
  pub durable : IsDurable new

-- Some were given back, and the rest of the store stands.
pub record Stands (size : ℕ) (store : Store) (visited : List Top) (ids : List ℕ) (used : List Bool) (free : ℕ) (old new : DiskView)
    : Type 0 where
  pub freed : List ℕ
  pub are_freed : AreFreed store visited freed old new
  pub ready : IsReady size (with_all_freed freed store) visited ids used free

pub record GivesBack (store : Store) (visited : List Top) (old new : DiskView) : Type 0 where
  pub freed : List ℕ
  pub are_freed : AreFreed store visited freed old new
  pub enough : IsEnough (IsVisited visited) (with_all_freed freed store)

pub record StopsGiving (store : Store) (visited : List Top) (old new : DiskView) : Type 0 where
  pub freed : List ℕ
  pub are_cut : AreCut store visited freed old new

-- what is so at each turn
pub record IsGiving (first : List ℕ) (used : List Bool) (closed : ℕ) (ids : List ℕ) (free : ℕ) (old new : DiskView) : Type 0 where
  pub steady : IsSteady old new
  pub stands : (store : Store) (visited : List Top) → IsReady old.size store visited first used closed
      → Stands old.size store visited ids used free old new

-- ---- room is made, or not

-- The walk was done, and containers were given back.
pub record MakesRoom (store : Store) (index : PlaceMap) (old new : DiskView) : Type 0 where
  pub steady : IsSteady old new
  pub visited : List Top
  pub visits : VisitsRoots (WasRead (Some index) old new) (HasPlace (Some index)) (listing_of (names_of store)) visited
  pub gives : GivesBack store visited old new

-- nothing was given back; or a write failed, and the walk was done before
abbrev pub IsWalkedFirst : Store → PlaceMap → Refusal → DiskView → DiskView → List ℕ → Type 0
IsWalkedFirst store index refusal old new freed =
    (freed ≡ []) ⊎ ((refusal ≡ DiskWrite) × ((visited : List Top)
    × (VisitsRoots (WasRead (Some index) old new) (HasPlace (Some index)) (listing_of (names_of store)) visited
    × FreesSome (IsVisited visited) freed store)))

-- why not: a write failed, memory ran out, or a walk could not go on
abbrev pub IsMakeRefusal : Store → PlaceMap → DiskView → DiskView → Refusal → Type 0
IsMakeRefusal store index old new refusal =
    (refusal ≡ DiskWrite) ⊎ (OnlyReads old new × IsTreesRefusal index old new (listing_of (names_of store)) refusal)

pub record MakesNoRoom (store : Store) (index : PlaceMap) (refusal : Refusal) (old new : DiskView) : Type 0 where
  pub later : IsLater old new
  pub faults_are : CountsFault (ending_of (blames refusal)) old.faults new.faults
  pub cause : IsMakeRefusal store index old new refusal
  pub freed : List ℕ
  pub walked : IsWalkedFirst store index refusal old new freed
  pub content : Known old.content (λ given. Encodes given store → KnownWith new.content (IsPartlyFreed store freed given))
  pub images : ImagesFreed store freed old new
  pub crash : LeavesFreed store freed old new
  -- where the trees of all names are held
  pub failed : WhereHeld index old.content (λ counts held image. AllHeld counts held image (listing_of (names_of store)))
      (λ counts held image. IsTrue (fails refusal))

-- a store that was read, in memory
pub record IsRead (size : ℕ) (o : OpenStore) : Type 0 where
  pub store : Store
  pub represents : Represents store o
  pub valid : IsValidFor size store
