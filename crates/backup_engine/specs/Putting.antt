-- What is so on the way of storing a file (docs/MODEL.md, 'Commands').
use Rattle.std.specs.Prelude.{◌≡◌, ℕ, List, length, option_map, Option, Some, None}
use Rattle.std.specs.FinMap as finite
use Rattle.std.specs.List.{AllByRecursion}
use Rattle.container_meta.specs.declared.kind.Kind.{Kind}
use Rattle.container_meta.specs.Places.{PlaceMap}
use Rattle.container_meta.specs.Segments.{KindSegment, Segment, segment_key}
use Rattle.actor_parts.specs.declared.part.Part.TheVariants.{Writing}
use Rattle.actor_parts.specs.Parts.{part_of}
use Rattle.actor_parts.specs.PinMap.{PinMap}
use Rattle.actor_parts.specs.Segments.{pin_of}
use Rattle.store_model.specs.Image.{Store, IsValidFor}
use Rattle.store_model.specs.Slots.{HasFree, last_id}
use Rattle.store_state.specs.Tables.{Represents, Runs, OfEach}
use Rattle.ingest_steps.specs.Claiming.{key_of_seg}
use Rattle.store_core.specs.Core.{ChangesTo, IndexesAll, OfEachIndexed}
use Rattle.store_core.specs.Keeping.{kept_of}
use Rattle.store_core.specs.Runs.{CoreRun, FileEvent, events_of}
use Rattle.store_core.specs.State.{CoreState, IsUp}
use Rattle.store_machine.specs.Storing.{AddsOnce}
use Rattle.backup_engine.specs.Running.{IsDoneBefore, IsOneOf, IsPutStep, seals_of}

-- ---- what is kept

-- how long the copy is whose place the index has
abbrev pub length_in : PlaceMap → List ℕ → Option ℕ
length_in places key = option_map (λ p. p.length) (finite.get places key)

-- the pin of a key is that of one of these segments
abbrev pub HasPinOf : List KindSegment → PinMap → List ℕ → Type 0
HasPinOf kept pins key =
    (y : KindSegment) × IsOneOf y kept × (key_of_seg y ≡ key) × (finite.get pins key ≡ Some (pin_of y))

-- The index has a copy of each of these segments, as long as it is, and its key is pinned.
pub record AreKept (kept : List KindSegment) (pins : PinMap) (places : PlaceMap) : Type 0 where
  pub long : AllByRecursion (λ x. length_in places (key_of_seg x) ≡ Some (length x.segment.bytes)) kept
  pub pinned : AllByRecursion (λ x. HasPinOf kept pins (key_of_seg x)) kept

-- the index has the key of none of these segments
abbrev pub AreNew : PlaceMap → Kind → List Segment → Type 0
AreNew places kind segments = AllByRecursion (λ x. finite.get places (segment_key kind x) ≡ None) segments

-- ---- the way

-- The core is on the store to which the seals of these steps lead from another, each of pieces of the file that were not held, and the
-- index has each key of it.
pub record SealsSo (file : List ℕ) (steps : List FileEvent) (s : Store) (c : CoreState) : Type 0 where
  pub after : Store
  pub chain : ChangesTo (seals_of steps) s after
  pub once : AddsOnce file (seals_of steps) s
  pub represents : Represents after c.known c.tables
  pub valid : IsValidFor c.disk.size after
  pub has_free : HasFree after.held
  pub whole : IndexesAll after c.known

-- The steps by which a file is stored, so far. It is one of these files, since not all of its bytes may be known. Each step was
-- done; the first actor keeps what they kept, and the index has nothing of what is still to be sealed.
pub record Way (C : Type 0) (state : C → CoreState) (files : List ℕ → Type 0) (opens : Kind → List Segment) (old new : C) : Type 0 where
  pub steps : List FileEvent
  pub ran : CoreRun C state (events_of steps) old new
  pub each : (name file : List ℕ) → files file → AllByRecursion (IsPutStep name file) steps
  pub done : AllByRecursion (λ f. IsDoneBefore f.event) steps
  pub seals : (file : List ℕ) → files file → OfEachIndexed (state old).disk.size (state old).known (state old).tables
      (λ s. SealsSo file steps s (state new))
  pub up : IsUp (state new)
  pub runs : (state new).stop ≡ None
  pub pins : PinMap
  pub writing : part_of (state new).parts 0 ≡ Writing pins
  pub places : PlaceMap
  pub known : (state new).known ≡ Some places
  pub indexed : Runs (state new).disk.size (state new).known (state new).tables
  pub ids : OfEach (state new).disk.size (state new).known (state new).tables
      (λ store. (state new).tables.held.last_id ≡ last_id store.held)
  pub kept : AreKept (kept_of steps) pins places
  pub fresh : (kind : Kind) → AreNew places kind (opens kind)
