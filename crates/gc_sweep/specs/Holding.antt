-- What holds of a sweep by the store, over a disk that tells its content: of what was copied, and of the sources that it came from
-- (docs/MODEL.md, 'Sweeping').
use Rattle.std.specs.Prelude.{◌≡◌, ◌⊎◌, ℕ, ◌<◌, ◌≤◌, Bool, true, List, ◌++◌, length, take, get_or, slice_get, Option, Some, Contains}
use Rattle.std.specs.FinMap as finite
use Rattle.std.specs.List.{AllByRecursion}
use Rattle.container_meta.specs.declared.kind.Kind.{Kind}
use Rattle.container_meta.specs.declared.place.Place.{Place}
use Rattle.container_meta.specs.Places.{PlaceMap}
use Rattle.container_meta.specs.Segments.{Segment, has_key, segment_key}
use Rattle.container_meta.specs.Spelling.{HeaderValue}
use Rattle.copy_forward.specs.Entries.{is_copy}
use Rattle.gc_enumerate.specs.Live.{LiveKeys, IsLiveAt}
use Rattle.store_model.specs.Indexing.{entry_key}
use Rattle.store_model.specs.Slots.{HasKey}
use Rattle.store_model.specs.Trees.{HasNewest}
use Rattle.gc_sweep.specs.declared.sweep.Sweep.{Sweep}
use Rattle.gc_sweep.specs.Releasing.{HasNoEntryIn}
use Rattle.gc_sweep.specs.UnderWay.{entry_in, sources_before}

-- a key is live: the index has a copy of it, and that is marked
abbrev pub IsLive : PlaceMap → LiveKeys → List ℕ → Type 0
IsLive index live key = (place : Place) × ((finite.get index key ≡ Some place) × IsLiveAt live key place)

-- A segment that was copied: its key is live, and the newest copy of that key has its level and its bytes.
pub record IsCopied (index : PlaceMap) (live : LiveKeys) (held : List (Option HeaderValue)) (image : List ℕ) (kind : Kind) (x : Segment)
    : Type 0 where
  pub is_live : IsLive index live (segment_key kind x)
  pub newest : HasNewest held (segment_key kind x) x.level x.bytes image

-- The container in a slot is the source that goes on from an entry, and that is not its first.
pub record IsHalfCopied (held : List (Option HeaderValue)) (s : Sweep) (slot : ℕ) (h : HeaderValue) : Type 0 where
  pub some : 0 < entry_in s.next
  pub there : slice_get held slot ≡ Some (Some h)
  pub id_is : h.id ≡ get_or s.sources.items (sources_before s s.next) 0

-- Where the index has the copy of a key that was copied: in a source that waits; in the one that was copied in part; or in a container that
-- came after the collection began.
abbrev pub IsOrigin : List (Option HeaderValue) → ℕ → Sweep → ℕ → Type 0
IsOrigin held snapshot s slot =
    Contains s.waiting.items slot ⊎ ((h : HeaderValue) × IsHalfCopied held s slot h)
    ⊎ ((h : HeaderValue) × ((slice_get held slot ≡ Some (Some h)) × (snapshot ≤ h.id)))

-- of the keys whose copies the index has in the slot each one passes a test
abbrev pub HasOnlyIn : (List ℕ → Bool) → PlaceMap → ℕ → Type 0
HasOnlyIn test index slot = (key : List ℕ) (place : Place) → finite.get index key ≡ Some place → place.slot ≡ slot → test key ≡ true

-- and so each of these entries of the container in a slot
abbrev pub AreCopied : (List ℕ → Bool) → PlaceMap → ℕ → HeaderValue → ℕ → Type 0
AreCopied test index slot h count =
    AllByRecursion (λ e. is_copy index h.kind slot e ≡ true → test (entry_key h.kind e) ≡ true) (take count h.entries)

-- Each source came before the collection began; one that waits or is ready stands in its slot still.
pub record SourcesStand (held : List (Option HeaderValue)) (snapshot : ℕ) (s : Sweep) : Type 0 where
  pub old : (number : ℕ) → number < length s.sources.items → get_or s.sources.items number 0 < snapshot
  pub before : sources_before s s.next ≤ length s.sources.items
  pub within : 0 < entry_in s.next → sources_before s s.next < length s.sources.items
  pub stand : (slot : ℕ) → Contains (s.waiting.items ++ s.ready.items) slot
      → (h : HeaderValue) × ((slice_get held slot ≡ Some (Some h)) × (h.id < snapshot))

-- What was copied is live, and is what the store holds; and the index has each key of it in one of the sources that it came from,
-- or in a newer container. What the index has of a source that waits was copied, as what it has of the first entries of one that was
-- copied in part; of a source that is ready it has nothing.
pub record HoldsSweep (index : PlaceMap) (held : List (Option HeaderValue)) (image : List ℕ) (live : LiveKeys) (snapshot : ℕ) (s : Sweep)
    : Type 0 where
  pub copied : AllByRecursion (IsCopied index live held image s.buffer.kind) s.buffer.segments
  pub origin : (key : List ℕ) (place : Place) → has_key s.buffer key ≡ true → finite.get index key ≡ Some place
      → IsOrigin held snapshot s place.slot
  pub waiting : (slot : ℕ) → Contains s.waiting.items slot → HasOnlyIn (has_key s.buffer) index slot
  pub ready : (slot : ℕ) → Contains s.ready.items slot → HasNoEntryIn index slot
  pub half : (slot : ℕ) (h : HeaderValue) → IsHalfCopied held s slot h
      → (entry_in s.next ≤ length h.entries) × AreCopied (has_key s.buffer) index slot h (entry_in s.next)

-- the index, the headers in the slots, the image and the live keys, at a moment
pub record StoreBeside : Type 0 where
  pub index : PlaceMap
  pub held : List (Option HeaderValue)
  pub image : List ℕ
  pub live : LiveKeys

abbrev pub store_beside : PlaceMap → List (Option HeaderValue) → List ℕ → LiveKeys → StoreBeside
store_beside index held image live = record { index = index; held = held; image = image; live = live }

-- What others leave of a store and its index: a live key stays so, and the newest copies of keys are what they were; what the index has
-- newly lies in containers that came after the collection began; and just those that came before stand where they stood.
pub record GoesOnBeside (old new : StoreBeside) (snapshot : ℕ) : Type 0 where
  pub keys : (key : List ℕ) → IsLive old.index old.live key → IsLive new.index new.live key
  pub places : (key : List ℕ) (place : Place) → finite.get new.index key ≡ Some place
      → (finite.get old.index key ≡ Some place)
      ⊎ ((h : HeaderValue) × ((slice_get new.held place.slot ≡ Some (Some h)) × (snapshot ≤ h.id)))
  pub copies : (key : List ℕ) (level : ℕ) (bytes : List ℕ) → HasKey old.index key → HasNewest old.held key level bytes old.image
      → HasNewest new.held key level bytes new.image
  pub stand : (slot : ℕ) (h : HeaderValue) → slice_get old.held slot ≡ Some (Some h) → slice_get new.held slot ≡ Some (Some h)
  pub stood : (slot : ℕ) (h : HeaderValue) → slice_get new.held slot ≡ Some (Some h) → h.id < snapshot
      → slice_get old.held slot ≡ Some (Some h)
