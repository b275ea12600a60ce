-- What an opening gives back where too few slots are closed, and why it gives up there (docs/MODEL.md, 'The reserve').
use Rattle.std.specs.Prelude.{◌≡◌, ◌⊎◌, ◌<◌, ℕ, Bool, true, false, IsTrue, List, [], ◌∷◌, ◌++◌, IfErr, IfOk, OnOk, Result, Ok, Err, Some}
use Rattle.base_model.specs.Known.{Known, KnownWith}
use Rattle.container_meta.specs.Places.{PlaceMap}
use Rattle.dd_disk.specs.Ending.{CountsFault, Reads, ending, ending_of}
use Rattle.dd_disk.specs.Shows.{Shows}
use Rattle.dd_disk.specs.View.{DiskView, IsLater, IsDurable, OnlyReads, CrashLeaves}
use Rattle.disk_format.specs.declared.numbers.TheConstants.{RESERVE}
use Rattle.merkle_file.specs.declared.top.Top.{Top}
use Rattle.merkle_file.specs.Walk.{start_of}
use Rattle.namespace.specs.Listing.{NamedRoot, listing_of}
use Rattle.read_steps.specs.Opening.{top_of}
use Rattle.read_steps.specs.Visiting.{HasPlace, IsVisitRefusal, IsVisited, VisitsRoots, VisitsTo}
use Rattle.read_steps.specs.Walking.{WasRead}
use Rattle.refusals.specs.declared.refusal.Refusal.{Refusal}
use Rattle.refusals.specs.declared.refusal.Refusal.TheVariants.{Memory, Full, DiskRead, DiskWrite, Corrupt, Missing, Damaged}
use Rattle.store_model.specs.Collisions.{ByteSet, IsIn, IsOf, OpensAs}
use Rattle.store_model.specs.Files.{Stored}
use Rattle.store_model.specs.Freeing.{FreesSome, FreesTo, IsPartlyFreed, SameButGates, with_all_freed}
use Rattle.store_model.specs.Image.{Store, Encodes, IsValidFor, names_of}
use Rattle.store_model.specs.Reserve.{IsReachable}
use Rattle.store_model.specs.Slots.{IsIndexOf, free_slots}
use Rattle.store_state.specs.declared.open_store.OpenStore.{OpenStore}
use Rattle.store_state.specs.Refused.{blames, fails}
use Rattle.recovery.specs.declared.unopened.Unopened.{Unopened}
use Rattle.recovery.specs.Making.{AreClear}
use Rattle.recovery.specs.Opening.{IsOpened, IsOpenRefusal, Opens}

-- Reads showed a store of which too few slots are closed; its index gives each key its newest copy.
pub record IsShort (shown : (List ℕ → Type 0) → Type 0) (size : ℕ) : Type 0 where
  pub store : Store
  pub right : shown (λ image. Encodes image store)
  pub valid : IsValidFor size store
  pub few : free_slots store.held < RESERVE
  pub index : PlaceMap
  pub index_is : IsIndexOf store.held index

-- The trees of all names were visited, in the order of the names' bytes.
pub record WalksAll (old new : DiskView) (short : IsShort (Shows old new) old.size) : Type 0 where
  pub visited : List Top
  pub visits : VisitsRoots (WasRead (Some short.index) old new) (HasPlace (Some short.index)) (listing_of (names_of short.store)) visited

-- ---- room is made

-- Where the content stood for files it stands for them, with two slots closed or more; and so does what a crash left on the way, but
-- that it may have to be opened.
pub record KeepsFiles (store : Store) (freed : List ℕ) (given now : List ℕ) : Type 0 where
  pub stands : (among : ByteSet) (stored : Stored) → OpensAs (IsIn among) stored given → IsOf (IsIn among) stored now
  pub on_the_way : (among : ByteSet) (stored : Stored) (c : List ℕ) → OpensAs (IsIn among) stored given → IsPartlyFreed store freed given c
      → OpensAs (IsIn among) stored c
  -- and each container that was given back held the newest copy of nothing that these files need
  pub spares : (among : ByteSet) (stored : Stored) → OpensAs (IsIn among) stored given
      → FreesTo (IsReachable stored.files) freed store (with_all_freed freed store)

-- Containers that no name needs were given back, the one of the least id first, until two slots were closed or no such was left. The gate
-- of each is 0.
pub record RoomMade (old new : DiskView) : Type 0 where
  pub later : IsLater old new
  pub faults_are : new.faults ≡ old.faults
  pub durable : IsDurable new
  pub short : IsShort (Shows old new) old.size
  pub walk : WalksAll old new short
  pub freed : List ℕ
  pub after : Store
  pub frees : FreesTo (IsVisited walk.visited) freed short.store after
  pub content : Known old.content (λ given. KnownWith new.content (λ now.
      Encodes now after × SameButGates freed given now × KeepsFiles short.store freed given now × AreClear freed now))
  pub crash : Known old.content (λ given. CrashLeaves (λ c. old.images c ⊎ IsPartlyFreed short.store freed given c) old new)

-- ---- it isn't

-- The walk came to a tree that it can't go on with: the index has no place for it, or reads showed what is wrong.
pub record IsStuck (old new : DiskView) (short : IsShort (Shows old new) old.size) (refusal : Refusal) : Type 0 where
  pub before : List NamedRoot
  pub at : NamedRoot
  pub rest : List NamedRoot
  pub names_are : listing_of (names_of short.store) ≡ before ++ at ∷ rest
  pub visited : List Top
  pub visits : VisitsRoots (WasRead (Some short.index) old new) (HasPlace (Some short.index)) before visited
  pub visited_there : List Top
  pub ahead : List Top
  pub way : VisitsTo (WasRead (Some short.index) old new) (HasPlace (Some short.index)) (start_of (top_of at.root)) visited_there ahead
  pub cause : IsVisitRefusal (Some short.index) (λ at why image. ⊥) old new ahead refusal

-- Why no room is made. Want of memory is free, and the count of faults says whether a call of the disk failed.
abbrev pub IsRoomRefusal : (old new : DiskView) → IsShort (Shows old new) old.size → Refusal → Type 0
IsRoomRefusal old new short Memory = Unit {0}
IsRoomRefusal old new short DiskRead = Unit {0}
IsRoomRefusal old new short DiskWrite = Unit {0}
IsRoomRefusal old new short (Corrupt slot offset count want got) = IsStuck old new short (Corrupt slot offset count want got)
IsRoomRefusal old new short (Missing key) = IsStuck old new short (Missing key)
IsRoomRefusal old new short (Damaged at why) = IsStuck old new short (Damaged at why)
IsRoomRefusal old new short refusal = ⊥

-- Nothing was given back; or a write or a sync of it failed, and the trees of all names were visited before.
abbrev pub FreesAfterAll : Refusal → (old new : DiskView) → IsShort (Shows old new) old.size → List ℕ → Type 0
FreesAfterAll refusal old new short freed =
    (freed ≡ []) ⊎ ((refusal ≡ DiskWrite) × ((walk : WalksAll old new short) × FreesSome (IsVisited walk.visited) freed short.store))

-- An opening gave up there. It may have given back some containers.
pub record RoomUnmade (refusal : Refusal) (old new : DiskView) : Type 0 where
  pub later : IsLater old new
  pub faults_are : CountsFault (ending_of (blames refusal)) old.faults new.faults
  pub short : IsShort (Shows old new) old.size
  pub cause : IsRoomRefusal old new short refusal
  -- Nothing is written before all was read and walked.
  pub only : (refusal ≡ DiskWrite) ⊎ OnlyReads old new
  pub freed : List ℕ
  pub frees : FreesAfterAll refusal old new short freed
  pub content : Known old.content (λ given. KnownWith new.content (IsPartlyFreed short.store freed given))
  pub images : Known old.content (λ given. (c : List ℕ) → new.images c → IsPartlyFreed short.store freed given c)
  pub crash : Known old.content (λ given. CrashLeaves (λ c. old.images c ⊎ IsPartlyFreed short.store freed given c) old new)
  -- Of a content that stood for files: it and what a crash leaves stand for them, and memory or the disk failed.
  pub files : Known old.content (λ given. (among : ByteSet) (stored : Stored) → OpensAs (IsIn among) stored given
      → IsTrue (fails refusal) × ((c : List ℕ) → IsPartlyFreed short.store freed given c → OpensAs (IsIn among) stored c))
  -- Then each container that was given back held the newest copy of nothing that these need.
  pub spares : Known old.content (λ given. (among : ByteSet) (stored : Stored) → OpensAs (IsIn among) stored given
      → FreesSome (IsReachable stored.files) freed short.store)

-- ---- an opening

-- From a disk that was so P holds; or from what it was once room was made.
abbrev pub FromRoom : (D : Type 0) → (D → DiskView) → (DiskView → Type 0) → DiskView → Type 0
FromRoom D view P old = P old ⊎ ((mid : D) × (RoomMade old (view mid) × P (view mid)))

-- The store was read.
pub record ReadsStore (result : Result OpenStore Refusal) (old new : DiskView) : Type 0 where
  pub opened : IfOk result (IsOpened (Shows old new) old.size)
  -- A store of the right size, whose cells and headers are right and whose ids differ, is opened, unless memory or the disk fails, or
  -- too few slots are closed.
  pub only : Shows old new (λ image. (store : Store) → Encodes image store → Opens store result)
  -- All that was written stands after a crash.
  pub durable : OnOk result (IsDurable new)
  pub reads : Reads (ending blames result) old new
  pub refused : IfErr result (IsOpenRefusal (Shows old new) old.size)

-- it isn't refused because too few slots are closed
abbrev pub IsNotFull : Refusal → Type 0
IsNotFull (Full free) = ⊥
IsNotFull refusal = Unit {0}

-- Or it gave up before, as room was to be made.
abbrev pub GivesUp : Result OpenStore Refusal → DiskView → DiskView → Type 0
GivesUp (Ok o) old new = ⊥
GivesUp (Err refusal) old new = RoomUnmade refusal old new

-- What an opening did, and answers. Where too few slots are closed it is refused for that only once room was made, as far as it could be.
abbrev pub Opening : (D : Type 0) → (D → DiskView) → Result OpenStore Refusal → D → D → Type 0
Opening D view result old new =
    (ReadsStore result (view old) (view new) × IfErr result IsNotFull)
    ⊎ ((mid : D) × (RoomMade (view old) (view mid) × ReadsStore result (view mid) (view new)))
    ⊎ GivesUp result (view old) (view new)

-- what was answered, but for what is told of writes
abbrev pub as_refused : Result OpenStore Unopened → Result OpenStore Refusal
as_refused (Ok o) = Ok o
as_refused (Err unopened) = Err unopened.refusal

-- What one that was refused leaves. Nothing was written; or a container may have been given back: room was made, and then the store was
-- not read, or a write or a sync of it failed.
abbrev pub LeavesOf : (D : Type 0) → (D → DiskView) → Bool → Refusal → D → D → Type 0
LeavesOf D view false refusal old new = Reads (ending_of (blames refusal)) (view old) (view new)
LeavesOf D view true refusal old new =
    ((mid : D) × (RoomMade (view old) (view mid) × ReadsStore (Err refusal) (view mid) (view new)))
    ⊎ ((refusal ≡ DiskWrite) × RoomUnmade refusal (view old) (view new))
