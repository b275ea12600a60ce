-- A core that was opened (docs/MODEL.md, 'The core').
use Rattle.std.specs.Prelude.{◌≡◌, ◌⊎◌, ◌≤◌, ℕ, Bool, true, false, List, None, Some, Err, replicate}
use Rattle.dd_disk.specs.Ending.{Done, Reads, ending_of}
use Rattle.dd_disk.specs.Shows.{Shows}
use Rattle.dd_disk.specs.View.{DiskView, IsDurable}
use Rattle.disk_format.specs.declared.numbers.TheConstants.{RESERVE}
use Rattle.container_meta.specs.Places.{PlaceMap}
use Rattle.actor_parts.specs.declared.actor.TheConstants.{ACTORS}
use Rattle.actor_parts.specs.declared.part.Part.TheVariants.{Idle}
use Rattle.refusals.specs.declared.refusal.Refusal.{Refusal}
use Rattle.refusals.specs.declared.refusal.Refusal.TheVariants.{DiskWrite}
use Rattle.store_model.specs.Files.{Stored}
use Rattle.store_model.specs.Image.{Store, Encodes, IsValidFor}
use Rattle.store_model.specs.Slots.{free_slots, last_id}
use Rattle.store_state.specs.Refused.{blames}
use Rattle.store_state.specs.Settled.{IsSettled}
use Rattle.store_state.specs.Tables.{Represents}
use Rattle.recovery.specs.Opening.{IsOpenRefusal, Opens}
use Rattle.recovery.specs.Room.{FromRoom, IsNotFull, RoomMade, RoomUnmade}
use Rattle.store_core.specs.Core.{IndexesAll}
use Rattle.store_core.specs.Runs.{IsAt}
use Rattle.store_core.specs.State.{CoreState}

-- Its tables and index are those of a store that reads showed; it runs, each actor is idle, and nothing is acknowledged.
pub record IsNew (shown : (List ℕ → Type 0) → Type 0) (size : ℕ) (c : CoreState) : Type 0 where
  pub store : Store
  pub right : shown (λ image. Encodes image store)
  pub represents : Represents store c.known c.tables
  -- no id was given out that none of its containers has
  pub last_id_is : c.tables.held.last_id ≡ last_id store.held
  pub valid : IsValidFor size store
  pub reserve : RESERVE ≤ free_slots store.held
  pub parts_are : c.parts ≡ replicate ACTORS Idle
  pub collection_is : c.collection ≡ None
  pub stop_is : c.stop ≡ None
  pub counted : c.acknowledged ≡ 0
  pub served : c.served
  -- the map of its index is known, whatever the disk tells, and has each key that the store holds
  pub told : (places : PlaceMap) × (c.known ≡ Some places)
  pub whole : IndexesAll store c.known

-- why an image that holds a store is not opened: memory or the disk failed, or too few of its slots are free
abbrev pub IsGivenUp : Refusal → List ℕ → Type 0
IsGivenUp refusal image = (store : Store) → Encodes image store → Opens store (Err refusal)

-- The store of a disk that was so before was read, and this is its core.
pub record IsReadFrom (before : DiskView) (c : CoreState) : Type 0 where
  pub opened : IsNew (Shows before c.disk) before.size c
  -- All that was written stands after a crash.
  pub durable : IsDurable c.disk
  pub reads : Reads Done before c.disk

-- It was not read, for its cause.
pub record IsNotRead (refusal : Refusal) (before new : DiskView) : Type 0 where
  pub cause : IsOpenRefusal (Shows before new) before.size refusal
  pub given_up : Shows before new (IsGivenUp refusal)
  pub reads : Reads (ending_of (blames refusal)) before new

-- A core was opened: two slots or more were closed, or room was made; and then the store was read.
abbrev pub OpensCore : (D : Type 0) → (D → DiskView) → DiskView → CoreState → Type 0
OpensCore D view old c = FromRoom D view (λ before. IsReadFrom before c) old

-- None was opened: the store was not read, though not because too few slots are closed; or not once room was made; or no room was made.
abbrev pub OpensNone : (D : Type 0) → (D → DiskView) → Refusal → DiskView → DiskView → Type 0
OpensNone D view refusal old new =
    (IsNotRead refusal old new × IsNotFull refusal)
    ⊎ ((mid : D) × (RoomMade old (view mid) × IsNotRead refusal (view mid) new))
    ⊎ RoomUnmade refusal old new

-- One that was not opened again, and nothing was written: nothing of it is another, but that its disk was read. What it knows of the disk
-- is the same, so where it ran it runs.
pub record IsKept (old new : CoreState) : Type 0 where
  pub tables_are : new.tables ≡ old.tables
  pub index_is : new.known ≡ old.known
  pub parts_are : new.parts ≡ old.parts
  pub collection_is : new.collection ≡ old.collection
  pub stop_is : new.stop ≡ old.stop
  pub counted : new.acknowledged ≡ old.acknowledged
  pub served : old.served → new.served

-- A container may have been given back, and the store was not read: room was made before, or a write or a sync of it failed.
abbrev pub WritesUnread : (D : Type 0) → (D → DiskView) → Refusal → DiskView → DiskView → Type 0
WritesUnread D view refusal old new =
    ((mid : D) × (RoomMade old (view mid) × IsNotRead refusal (view mid) new))
    ⊎ ((refusal ≡ DiskWrite) × RoomUnmade refusal old new)

-- What an opening that was refused leaves of the disk, by whether a container may have been given back.
abbrev pub LeavesUnread : (D : Type 0) → (D → DiskView) → Bool → Refusal → DiskView → DiskView → Type 0
LeavesUnread D view false refusal old new = Reads (ending_of (blames refusal)) old new
LeavesUnread D view true refusal old new = WritesUnread D view refusal old new

-- Then it is stopped, as its tables are not those of the disk any more.
pub record StopsUnopened (D : Type 0) (view : D → DiskView) (refusal : Refusal) (old new : CoreState) : Type 0 where
  pub tables_are : new.tables ≡ old.tables
  pub parts_are : new.parts ≡ old.parts
  pub collection_is : new.collection ≡ old.collection
  pub counted : new.acknowledged ≡ old.acknowledged
  pub stop_is : new.stop ≡ Some (record { refusal = refusal; at = old.acknowledged })
  pub wrote : WritesUnread D view refusal old.disk new.disk

-- What a core is that was not opened again: as it was, over a disk that was only read; or stopped.
abbrev pub StaysOrStops : (D : Type 0) → (D → DiskView) → Refusal → CoreState → CoreState → Type 0
StaysOrStops D view refusal old new =
    (IsKept old new × Reads (ending_of (blames refusal)) old.disk new.disk) ⊎ StopsUnopened D view refusal old new

-- Runs can begin: it is at a store of these files, whose keys the index all has, two slots are free, no id was given out that none of its
-- containers has, no collection runs, and its disk is settled.
pub record BeginsAt (S : List ℕ → Type 0) (stored : Stored) (c : CoreState) : Type 0 where
  pub store : Store
  pub is_at : IsAt S store stored c
  pub reserve : RESERVE ≤ free_slots store.held
  pub whole : IndexesAll store c.known
  pub none_runs : c.collection ≡ None
  pub last_id_is : c.tables.held.last_id ≡ last_id store.held
  pub settled : IsSettled c.tables.slots c.disk
