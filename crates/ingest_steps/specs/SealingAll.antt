-- What becomes of the disk, the index and the tables where several containers are sealed together (docs/MODEL.md, 'Claims and seals').
use Rattle.std.specs.Prelude.{◌≡◌, ℕ, suc, ◌+◌, ◌≤◌, List, [], ◌∷◌, length, map, slice_get, get_or, Option, Some, None, option_map}
use Rattle.std.specs.List.{AllByRecursion}
use Rattle.base_model.specs.Known.{Known}
use Rattle.disk_format.specs.Layout.{slot_at}
use Rattle.dd_disk.specs.View.{DiskView}
use Rattle.dd_disk.specs.Ending.{Ending, Done, Refused, Unread, Broken}
use Rattle.dd_disk.specs.Moves.{Way, Moves}
use Rattle.dd_disk.specs.Wrote.{SameIn}
use Rattle.container_meta.specs.Places.{PlaceMap}
use Rattle.container_meta.specs.Segments.{Contents, bytes_in, entries_from, segment_key}
use Rattle.container_meta.specs.Spelling.{IsHeader, header_of}
use Rattle.container_log.specs.Many.{NoSlot}
use Rattle.segment_index.specs.Places.{KnownMap}
use Rattle.store_model.specs.Collisions.{HasNoCollisions, ByteSet, IsIn, Stands}
use Rattle.store_model.specs.Files.{Files}
use Rattle.store_model.specs.Image.{Store}
use Rattle.store_model.specs.Indexing.{with_entries}
use Rattle.store_model.specs.Slots.{HasKey}
use Rattle.store_model.specs.Steps.{AnyKey, CanSeal, MaySeal, KeepsCopies, with_sealed}
use Rattle.store_model.specs.Together.{Placed, StandsSome, with_all}
use Rattle.store_model.specs.Trees.{HasNewest}
use Rattle.store_state.specs.Invariant.{IndexesFiles}
use Rattle.store_state.specs.declared.tables.Tables.{Tables}
use Rattle.store_state.specs.Tables.{Represents, Runs, OfEach}
use Rattle.ingest_steps.specs.Offering.{in_free, offer_in}
use Rattle.ingest_steps.specs.Sealing.{ChangesAlone}

-- ---- what becomes of the bytes

abbrev pub slots_of : List Placed → List ℕ
slots_of ps = map (λ p. p.slot) ps

-- the same bytes but those of these slots and those after all slots
abbrev pub SameButSlotsOf : ℕ → List ℕ → List ℕ → List ℕ → Type 0
SameButSlotsOf slots taken old new = SameIn (λ at count. NoSlot taken at count × (at + count ≤ slot_at slots)) old new

-- nothing changes but these slots, and what comes after all slots
abbrev pub ChangesSlotsAlone : ℕ → List ℕ → DiskView → DiskView → Type 0
ChangesSlotsAlone slots taken old new = ChangesAlone (SameButSlotsOf slots taken) slots old new

-- ---- what the disk stands for, on the way

-- The store of these files; at any moment, and where a write broke, that with some of the containers, whichever; in the end that with all.
-- Where it is refused after the index was changed it is the store as it was.
abbrev pub sealing_all : (List ℕ → Type 0) → List Placed → Store → Files → Way
sealing_all S ps store files = record {
  before = Stands S store files;
  between = StandsSome S ps store files;
  rest = Stands S store files;
  after = Stands S (with_all ps store) files;
}

-- each segment may be sealed
abbrev pub MayAllSeal : (List ℕ → Type 0) → List Placed → Type 0
MayAllSeal S ps = AllByRecursion (λ p. AllByRecursion (MaySeal S p.kind) p.segments) ps

-- What becomes of what the content held: where the containers were written the newest copy of each key of which P holds goes on, and that
-- of each of their segments is the segment; where they were refused each goes on.
abbrev pub KeepsAllHeld : (List ℕ → Type 0) → Ending → List Placed → Store → List ℕ → List ℕ → Type 0
KeepsAllHeld P Done ps store given new =
    KeepsCopies P store given (with_all ps store) new
    × AllByRecursion (λ p. AllByRecursion (λ s. HasNewest (with_all ps store).held
    (segment_key p.kind s) s.level s.bytes new) p.segments) ps
KeepsAllHeld P Refused ps store given new = KeepsCopies AnyKey store given store new
KeepsAllHeld P Unread ps store given new = KeepsCopies AnyKey store given store new
KeepsAllHeld P Broken ps store given new = Unit {0}

-- their headers are right, under ids from one on
abbrev pub AreRight : ℕ → List Contents → Type 0
AreRight id filled = (i : ℕ) (c : Contents) → slice_get filled i ≡ Some c → IsHeader (header_of (id + i) c.kind c.segments)

-- how many bytes of data each has
abbrev pub AreSizes : List Contents → List ℕ → Type 0
AreSizes filled sizes = (i : ℕ) (c : Contents) → slice_get filled i ≡ Some c → get_or sizes i 0 ≡ bytes_in c.segments

-- Containers of data are sealed: of each store that the tables represent, and of any files. No two data segments of S of one digest differ.
pub record SealsData (t : Tables) (ps : List Placed) (ending : Ending) (old new : DiskView) : Type 0 where
  pub moves : (among : ByteSet) (store : Store) (known : Option PlaceMap) (files : Files) → Represents store known t
      → HasNoCollisions (IsIn among) → MayAllSeal (IsIn among) ps → Moves (sealing_all (IsIn among) ps store files) ending old new
  pub holds : (among : ByteSet) (store : Store) (known : Option PlaceMap) (files : Files) (given held : List ℕ) → Represents store known t
      → old.content ≡ Some given → new.content ≡ Some held → Stands (IsIn among) store files given → HasNoCollisions (IsIn among)
      → MayAllSeal (IsIn among) ps → KeepsAllHeld AnyKey ending ps store given held

-- Containers are sealed, of each store that the tables represent these: where the index is its map, and no two data segments of S of one
-- digest differ. What it leaves as it was it leaves so on any disk.
pub record SealsPlaced (t : Tables) (known : Option PlaceMap) (placed_in : Store → List Placed) (ending : Ending) (old new : DiskView)
    : Type 0 where
  pub frame : OfEach old.size known t (λ store. ChangesSlotsAlone t.slots (slots_of (placed_in store)) old new)
  pub moves : (among : ByteSet) (store : Store) (files : Files) (map : PlaceMap) → known ≡ Some map → Represents store known t
      → IndexesFiles map files → HasNoCollisions (IsIn among) → MayAllSeal (IsIn among) (placed_in store)
      → Moves (sealing_all (IsIn among) (placed_in store) store files) ending old new
  pub holds : (among : ByteSet) (store : Store) (files : Files) (map : PlaceMap) (given held : List ℕ) → known ≡ Some map
      → Represents store known t → old.content ≡ Some given → new.content ≡ Some held → Stands (IsIn among) store files given
      → HasNoCollisions (IsIn among) → MayAllSeal (IsIn among) (placed_in store)
      → KeepsAllHeld (HasKey map) ending (placed_in store) store given held

-- those of an offer for which there is room
abbrev pub SealsOffer : Tables → Option PlaceMap → List Contents → Ending → DiskView → DiskView → Type 0
SealsOffer t known filled ending old new = SealsPlaced t known (offer_in t filled) ending old new

-- ---- what becomes of the index and of the tables

-- the map of the index, with the places of containers, one after the other
abbrev pub places_with_all : List Placed → Option PlaceMap → Option PlaceMap
places_with_all [] known = known
places_with_all (p ∷ ps) known = places_with_all ps (option_map (with_entries p.kind p.slot (entries_from 0 p.segments)) known)

-- The map of the index has their places more: by what the disk tells, or, where it tells nothing, by the index alone.
pub record HasPlacesOfAll (ps : List Placed) (before after : Option (List ℕ) → Option PlaceMap) (old new : Option (List ℕ)) : Type 0 where
  pub told : Known old (λ _. KnownMap (before old) (λ m. after new ≡ places_with_all ps (Some m)))
  pub untold : old ≡ None → KnownMap (before None) (λ m. after None ≡ places_with_all ps (Some m))

-- containers can be sealed, under ids from one on, one after the other
abbrev pub CanSealAll : ℕ → List Contents → Store → Type 0
CanSealAll id [] store = Unit {0}
CanSealAll id (c ∷ cs) store = CanSeal id c.kind c.segments store × CanSealAll (suc id) cs (with_sealed id c.kind c.segments store)

-- The tables are those of before with these containers more, under the next ids: of each store that they and the map of the index were
-- those of, they are those of the store with them. With whatever map they were those of some store, also with none, they are so with
-- that map and the places of the containers.
pub record HaveSealed (old : Tables) (size : ℕ) (known : Option PlaceMap) (filled : List Contents) (new : Tables) : Type 0 where
  pub last_is : new.held.last_id ≡ old.held.last_id + length filled
  pub others_stay : new ≡ record old { held = new.held }
  pub can : OfEach size known old (CanSealAll (old.held.last_id + 1) filled)
  pub represents : OfEach size known old (λ store. let ps = in_free (old.held.last_id + 1) filled store in
      Represents (with_all ps store) (places_with_all ps known) new)
  -- of the tables alone, whatever the index has
  pub alone : OfEach size None old (λ store. CanSealAll (old.held.last_id + 1) filled store
      × Represents (with_all (in_free (old.held.last_id + 1) filled store) store) None new)
  pub runs : (map : Option PlaceMap) → (runs : Runs size map old)
      → Runs size (places_with_all (in_free (old.held.last_id + 1) filled runs.store) map) new
