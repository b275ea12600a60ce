-- When a container may be sealed, and what that makes of the disk (docs/MODEL.md, 'Steps').
use Rattle.std.specs.Prelude.{◌≡◌, ◌⊎◌, ℕ, ◌+◌, ◌<◌, ◌≤◌, List, length, Option, Some, None, option_map}
use Rattle.std.specs.List.{AllByRecursion}
use Rattle.base_model.specs.Bytes.{range}
use Rattle.base_model.specs.Known.{Known, KnownWith}
use Rattle.disk_format.specs.declared.numbers.TheConstants.{RESERVE, LAST_ID}
use Rattle.disk_format.specs.Layout.{slot_at}
use Rattle.dd_disk.specs.View.{DiskView, CrashLeaves, SteppedFrom}
use Rattle.dd_disk.specs.Ending.{Ending, Done, Refused, Unread, Broken}
use Rattle.dd_disk.specs.Moves.{Way, one_step, Moves}
use Rattle.container_meta.specs.declared.kind.Kind.{Kind}
use Rattle.container_meta.specs.declared.place.Place.{Place}
use Rattle.container_meta.specs.Places.{PlaceMap}
use Rattle.container_meta.specs.Segments.{Segment, Contents, entries_from, segment_key}
use Rattle.segment_index.specs.Places.{KnownMap}
use Rattle.refusals.specs.declared.refusal.Refusal.{Refusal}
use Rattle.refusals.specs.declared.refusal.Refusal.TheVariants.{Memory, Full, DiskRead, DiskWrite, Numbers, Damaged}
use Rattle.store_model.specs.Collisions.{HasNoCollisions, ByteSet, IsIn, Stands}
use Rattle.store_model.specs.Files.{Files}
use Rattle.store_model.specs.Image.{Store}
use Rattle.store_model.specs.Indexing.{with_entries}
use Rattle.store_model.specs.Slots.{HasKey, newest, free_slots, first_free}
use Rattle.store_model.specs.Steps.{AnyKey, CanHold, MaySeal, FitsHeld, KeepsCopies, with_sealed}
use Rattle.store_model.specs.Trees.{HasNewest}
use Rattle.store_state.specs.Comparing.{FitSoFar, IsFirstUnlike}
use Rattle.store_state.specs.Invariant.{IndexesFiles}
use Rattle.store_state.specs.Settled.{IsSettled}
use Rattle.store_state.specs.declared.tables.Tables.{Tables}
use Rattle.store_state.specs.Tables.{Represents, Runs, OfEach}

-- ---- when

-- a slot for one more container: the closed one of least number, with so many more to spare
pub record IsSlotOf (spares slot : ℕ) (store : Store) : Type 0 where
  pub spare : spares < free_slots store.held
  pub first : slot ≡ first_free store.held
  pub within : slot < store.slots

-- it is that of each store that the tables represent
abbrev pub IsSlotFor : ℕ → Tables → ℕ → Type 0
IsSlotFor spares t slot = (size : ℕ) (known : Option PlaceMap) → OfEach size known t (IsSlotOf spares slot)

-- a container more may be written, to this slot: an id is left
pub record HasSlotBeside (spares : ℕ) (t : Tables) (slot : ℕ) : Type 0 where
  pub slot_is : IsSlotFor spares t slot
  pub below : t.held.last_id < LAST_ID

-- one that an actor fills may be: the slots of the reserve stay
abbrev pub HasSlot : Tables → ℕ → Type 0
HasSlot t slot = HasSlotBeside RESERVE t slot

-- Why none may: two slots or fewer are free; or more are, and the ids are at their end. Of each store that the tables represent, whatever
-- the index has: on a disk that lied there may be none that both represent.
abbrev pub IsSlotRefusal : Tables → ℕ → Refusal → Type 0
IsSlotRefusal t size (Full free) = OfEach size None t (λ store. (free ≡ free_slots store.held) × (free ≤ RESERVE))
IsSlotRefusal t size Numbers = OfEach size None t (λ store. RESERVE < free_slots store.held) × (LAST_ID ≤ t.held.last_id)
IsSlotRefusal t size refusal = ⊥

-- ---- what becomes of the bytes

-- the same bytes but those of a slot and those after all slots
pub record SameButSlotOf (slots slot : ℕ) (old new : List ℕ) : Type 0 where
  pub size : length new ≡ length old
  pub before : (p n : ℕ) → p + n ≤ slot_at slot → range p n new ≡ range p n old
  pub after : (p n : ℕ) → slot_at (slot + 1) ≤ p → p + n ≤ slot_at slots → range p n new ≡ range p n old

-- Nothing changes but what two images in which all else is the same may differ in, whatever the disk holds.
pub record ChangesAlone (Same : List ℕ → List ℕ → Type 0) (slots : ℕ) (old new : DiskView) : Type 0 where
  -- At any moment a crash leaves an image from before, or one but for that.
  pub leaves : Known old.content (λ given. CrashLeaves (SteppedFrom Same old) old new)
  -- Of a disk that was settled reads give, and a crash leaves, what they gave, but for that.
  pub settled : IsSettled slots old → Known old.content (λ given. KnownWith new.content (Same given) × CrashLeaves (Same given) old new)

-- nothing but the slot, and what comes after all slots
abbrev pub ChangesSlotAlone : ℕ → ℕ → DiskView → DiskView → Type 0
ChangesSlotAlone slots slot old new = ChangesAlone (SameButSlotOf slots slot) slots old new

-- the slot is the first free one of each store that the tables represent
abbrev pub ChangesFirstFree : Option PlaceMap → Tables → DiskView → DiskView → Type 0
ChangesFirstFree known t old new = OfEach old.size known t (λ store. ChangesSlotAlone t.slots (first_free store.held) old new)

-- ---- what the disk stands for, on the way

-- the store of these files, or that with the container
abbrev pub sealing : (List ℕ → Type 0) → ℕ → Contents → Store → Files → Way
sealing S id filled store files =
    one_step (Stands S store files) (Stands S (with_sealed id filled.kind filled.segments store) files)

-- Segments may stand beside what is held. S has no collisions, and each segment fits the newest copy of its key in an image, if the index
-- has one; or there is none of any; or each is the newest copy of its key.
abbrev pub FitBeside : (List ℕ → Type 0) → PlaceMap → Kind → List Segment → Store → List ℕ → Type 0
FitBeside S index kind segments store image =
    (HasNoCollisions S × AllByRecursion (FitsHeld (HasKey index) kind store image) segments)
    ⊎ AllByRecursion (λ s. newest 0 store.held (segment_key kind s) ≡ None) segments
    ⊎ AllByRecursion (λ s. HasNewest store.held (segment_key kind s) s.level s.bytes image) segments

-- What becomes of what the content held: where the container was written the newest copy of each key that the index had goes on, and
-- that of each of the segments is the segment; where it was refused each goes on.
abbrev pub KeepsHeld : PlaceMap → Ending → ℕ → Contents → Store → List ℕ → List ℕ → Type 0
KeepsHeld index Done id filled store given new =
    KeepsCopies (HasKey index) store given (with_sealed id filled.kind filled.segments store) new
    × AllByRecursion (λ s.
    HasNewest (with_sealed id filled.kind filled.segments store).held (segment_key filled.kind s) s.level s.bytes new) filled.segments
KeepsHeld index Refused id filled store given new = KeepsCopies AnyKey store given store new
KeepsHeld index Unread id filled store given new = KeepsCopies AnyKey store given store new
KeepsHeld index Broken id filled store given new = Unit {0}

-- A container is sealed: of each store that the tables represent, and of any files.
pub record SealsContainer (t : Tables) (id : ℕ) (filled : Contents) (ending : Ending) (old new : DiskView) : Type 0 where
  -- where its segments may be sealed, beside what the content holds, and the index has the keys of all files
  pub moves : (among : ByteSet) (store : Store) (known : Option PlaceMap) (index : PlaceMap) (files : Files) (given : List ℕ)
      → Represents store known t → old.content ≡ Some given → AllByRecursion (MaySeal (IsIn among) filled.kind) filled.segments
      → IndexesFiles index files → FitBeside (IsIn among) index filled.kind filled.segments store given
      → Moves (sealing (IsIn among) id filled store files) ending old new
  pub holds : (among : ByteSet) (store : Store) (known : Option PlaceMap) (index : PlaceMap) (files : Files) (given held : List ℕ)
      → Represents store known t → old.content ≡ Some given → new.content ≡ Some held → Stands (IsIn among) store files given
      → AllByRecursion (MaySeal (IsIn among) filled.kind) filled.segments
      → FitBeside (IsIn among) index filled.kind filled.segments store given → KeepsHeld index ending id filled store given held

-- from P to Q, where the index is changed first: a refusal may come after that change
abbrev pub index_first : (List ℕ → Type 0) → (List ℕ → Type 0) → Way
index_first P Q = record { before = P; between = λ c. P c ⊎ Q c; rest = P; after = Q }

-- the same, where the index is changed first
abbrev pub sealing_indexed : (List ℕ → Type 0) → ℕ → Contents → Store → Files → Way
sealing_indexed S id filled store files =
    index_first (Stands S store files) (Stands S (with_sealed id filled.kind filled.segments store) files)

pub record SealsIndexed (t : Tables) (id : ℕ) (filled : Contents) (ending : Ending) (old new : DiskView) : Type 0 where
  pub frame : (known : Option PlaceMap) → ChangesFirstFree known t old new
  pub moves : (among : ByteSet) (store : Store) (known : Option PlaceMap) (index : PlaceMap) (files : Files) (given : List ℕ)
      → Represents store known t → old.content ≡ Some given → AllByRecursion (MaySeal (IsIn among) filled.kind) filled.segments
      → IndexesFiles index files → FitBeside (IsIn among) index filled.kind filled.segments store given
      → Moves (sealing_indexed (IsIn among) id filled store files) ending old new
  pub holds : (among : ByteSet) (store : Store) (known : Option PlaceMap) (index : PlaceMap) (files : Files) (given held : List ℕ)
      → Represents store known t → old.content ≡ Some given → new.content ≡ Some held → Stands (IsIn among) store files given
      → AllByRecursion (MaySeal (IsIn among) filled.kind) filled.segments
      → FitBeside (IsIn among) index filled.kind filled.segments store given → KeepsHeld index ending id filled store given held

-- the store with the container, before which there were slots to spare
abbrev pub StandsSealed : (List ℕ → Type 0) → ℕ → Contents → Store → Files → List ℕ → Type 0
StandsSealed S id filled store files image =
    (RESERVE < free_slots store.held) × Stands S (with_sealed id filled.kind filled.segments store) files image

-- the same, in a slot that was answered as one for a container more
abbrev pub sealing_compared : (List ℕ → Type 0) → ℕ → Contents → Store → Files → Way
sealing_compared S id filled store files = index_first (Stands S store files) (StandsSealed S id filled store files)

-- A container that was compared is sealed: of each store that the tables represent and whose map the index is, where no two
-- data segments of S of one digest differ. What it leaves as it was it leaves so on any disk.
pub record SealsCompared (t : Tables) (known : Option PlaceMap) (id : ℕ) (filled : Contents) (ending : Ending) (old new : DiskView)
    : Type 0 where
  pub frame : ChangesFirstFree known t old new
  pub moves : (among : ByteSet) (store : Store) (files : Files) (map : PlaceMap) → known ≡ Some map → Represents store known t
      → IndexesFiles map files → HasNoCollisions (IsIn among) → AllByRecursion (MaySeal (IsIn among) filled.kind) filled.segments
      → Moves (sealing_compared (IsIn among) id filled store files) ending old new
  pub holds : (among : ByteSet) (store : Store) (files : Files) (map : PlaceMap) (given held : List ℕ) → known ≡ Some map
      → Represents store known t → old.content ≡ Some given → new.content ≡ Some held → Stands (IsIn among) store files given
      → HasNoCollisions (IsIn among) → AllByRecursion (MaySeal (IsIn among) filled.kind) filled.segments
      → KeepsHeld map ending id filled store given held

-- Each segment was compared with the copy of its key that is held, on any disk: where the map is known it has these places,
-- and reads showed that what lies there fits.
pub record WasCompared (size : ℕ) (known : Option PlaceMap) (shown : (List ℕ → Type 0) → Type 0) (filled : Contents) : Type 0 where
  pub hads : List (Option Place)
  pub fit : FitSoFar size known shown filled.kind filled.segments hads

-- what that showed where it is not sealed: all fitted where a write failed, and else the first that has another copy
abbrev pub IsCompared : ℕ → Option PlaceMap → ((List ℕ → Type 0) → Type 0) → Contents → Refusal → Type 0
IsCompared size known shown filled DiskWrite = WasCompared size known shown filled
IsCompared size known shown filled refusal = IsFirstUnlike size known shown filled.kind filled.segments refusal

-- Why it is not sealed: no memory; a read failed; damage, where the map isn't known; a write failed, and all was compared; or another copy
-- is held.
abbrev pub IsSealRefusal : Option PlaceMap → (Refusal → Type 0) → Refusal → Type 0
IsSealRefusal known compared Memory = Unit {0}
IsSealRefusal known compared DiskRead = Unit {0}
IsSealRefusal known compared (Damaged at why) = known ≡ None
IsSealRefusal known compared refusal = compared refusal

-- the map is as before, but after a write that failed, or damage
abbrev pub KeepsMap : Option PlaceMap → Option PlaceMap → Refusal → Type 0
KeepsMap old new DiskWrite = Unit {0}
KeepsMap old new (Damaged at why) = Unit {0}
KeepsMap old new refusal = new ≡ old

-- ---- what becomes of the tables

-- the map of the index, with the places of a container
abbrev pub places_with : Contents → ℕ → Option PlaceMap → Option PlaceMap
places_with filled slot known = option_map (with_entries filled.kind slot (entries_from 0 filled.segments)) known

-- The map of the index has the places of a container more: by what the disk tells, or, where it tells nothing, by the index alone.
pub record HasPlacesOf (filled : Contents) (slot : ℕ) (before after : Option (List ℕ) → Option PlaceMap) (old new : Option (List ℕ))
    : Type 0 where
  pub told : Known old (λ _. KnownMap (before old) (λ m. after new ≡ places_with filled slot (Some m)))
  pub untold : old ≡ None → KnownMap (before None) (λ m. after None ≡ places_with filled slot (Some m))

-- The tables are those of before with a container more, under the next id: of each store that they and the map of the index
-- were those of, they are those of the store with it. With whatever map they were those of some store, also with none, they are so
-- with that map and the places of the container.
pub record HasWritten (spares : ℕ) (old : Tables) (size : ℕ) (known : Option PlaceMap) (slot : ℕ) (filled : Contents) (new : Tables)
    (id : ℕ) : Type 0 where
  pub number : id ≡ old.held.last_id + 1
  pub last_is : new.held.last_id ≡ id
  pub others_stay : new ≡ record old { held = new.held }
  pub can : OfEach size known old (CanHold spares id filled.kind filled.segments)
  pub represents : OfEach size known old
      (λ store. Represents (with_sealed id filled.kind filled.segments store) (places_with filled slot known) new)
  -- of the tables alone, whatever the index has
  pub alone : OfEach size None old
      (λ store. CanHold spares id filled.kind filled.segments store
      × Represents (with_sealed id filled.kind filled.segments store) None new)
  -- where a slot is left
  pub runs : (map : Option PlaceMap) → 1 ≤ spares → Runs size map old → Runs size (places_with filled slot map) new

-- so it is of one that an actor fills
abbrev pub HasSealed : Tables → ℕ → Option PlaceMap → ℕ → Contents → Tables → ℕ → Type 0
HasSealed old size known slot filled new id = HasWritten RESERVE old size known slot filled new id
