-- When a segment is claimed, and what an actor keeps of it (docs/MODEL.md, 'Steps').
use Rattle.std.specs.Prelude.{◌≡◌, ℕ, List, length, Option, Some, None}
use Rattle.std.specs.FinMap as finite
use Rattle.sha2.specs.Sha256.{sha256}
use Rattle.disk_format.specs.declared.why.Why.{Why}
use Rattle.container_meta.specs.declared.place.Place.{Place}
use Rattle.container_meta.specs.Places.{PlaceMap}
use Rattle.container_meta.specs.Segments.{KindSegment, segment_key}
use Rattle.segment_index.specs.Places.{KnownMap, IsPlace}
use Rattle.actor_parts.specs.declared.part.Part.{Part}
use Rattle.actor_parts.specs.declared.part.Part.TheVariants.{Writing}
use Rattle.actor_parts.specs.Parts.{part_of, with_part}
use Rattle.actor_parts.specs.PinMap.{PinMap}
use Rattle.actor_parts.specs.Segments.{first_unpinned, pin_of}
use Rattle.refusals.specs.declared.refusal.PartKind.TheVariants as kinds
use Rattle.refusals.specs.declared.refusal.Refusal.{Refusal}
use Rattle.refusals.specs.declared.refusal.Refusal.TheVariants.{Memory, WrongPart, Unpinned}
use Rattle.store_model.specs.Collisions.{HasNoCollisions, ByteSet, IsIn, IsAmong, Stands}
use Rattle.store_model.specs.Files.{Files}
use Rattle.store_model.specs.Image.{Store}
use Rattle.store_model.specs.Slots.{HasKey, IsPartialIndexOf}
use Rattle.store_state.specs.Comparing.{FitsBytes, IsUnlike, IsOneRefusal}
use Rattle.store_state.specs.Invariant.{HoldsPart}
use Rattle.ingest_steps.specs.declared.claiming.Claimed.{Claimed}
use Rattle.ingest_steps.specs.declared.claiming.Claimed.TheVariants.{Held, Absent}
use Rattle.ingest_steps.specs.Writers.{IsWrongPart}

abbrev pub key_of_seg : KindSegment → List ℕ
key_of_seg s = segment_key s.kind s.segment

-- The actor stores a file, and keeps each child of the segment.
pub record MayClaim (part : Part) (seg : KindSegment) : Type 0 where
  pub pins : PinMap
  pub writing : part ≡ Writing pins
  pub pinned : first_unpinned seg pins ≡ None

-- why it isn't so, in this order: the part, the first child that it doesn't keep
abbrev pub MayNotClaim : Part → KindSegment → Refusal → Type 0
MayNotClaim part seg (WrongPart kind) = IsWrongPart kinds.Writing part (WrongPart kind)
MayNotClaim part seg (Unpinned key) = (pins : PinMap) × (part ≡ Writing pins) × (first_unpinned seg pins ≡ Some key)
MayNotClaim part seg refusal = ⊥

-- The segment is held: its key has a place, where a copy lies that is as long, and, of a node, has the same bytes.
pub record WasHeld (size : ℕ) (known : Option PlaceMap) (seg : KindSegment) (shown : (List ℕ → Type 0) → Type 0) : Type 0 where
  pub place : Place
  pub found : KnownMap known (λ m. finite.get m (key_of_seg seg) ≡ Some place)
  pub lies : IsPlace size place
  pub length_is : place.length ≡ length seg.segment.bytes
  pub same : shown (FitsBytes seg.kind seg.segment.bytes place)

-- what a look-up says of a segment
abbrev pub IsLookedUp : ℕ → Option PlaceMap → KindSegment → ((List ℕ → Type 0) → Type 0) → Claimed → Type 0
IsLookedUp size known seg shown Held = WasHeld size known seg shown
IsLookedUp size known seg shown Absent = KnownMap known (λ m. finite.get m (key_of_seg seg) ≡ None)

-- the copy of the segment's key isn't the same
abbrev pub DiffersFrom : ℕ → Option PlaceMap → KindSegment → ((List ℕ → Type 0) → Type 0) → Refusal → Type 0
DiffersFrom size known seg shown = IsUnlike size known shown seg.kind (sha256 seg.segment.bytes) seg.segment.bytes

-- Why a claim is refused. Want of memory is free, and a failed read is told by the count of faults.
abbrev pub IsClaimRefusal : Part → KindSegment → (ℕ → Why → Type 0) → (Refusal → Type 0) → Refusal → Type 0
IsClaimRefusal part seg damaged other Memory = Unit {0}
IsClaimRefusal part seg damaged other (WrongPart kind) = MayNotClaim part seg (WrongPart kind)
IsClaimRefusal part seg damaged other (Unpinned key) = MayNotClaim part seg (Unpinned key)
IsClaimRefusal part seg damaged other refusal = MayClaim part seg × IsOneRefusal damaged other refusal

-- the parts once a segment is claimed: where it is held the actor keeps it, too
abbrev pub parts_after : Claimed → List Part → ℕ → PinMap → KindSegment → List Part
parts_after Held parts actor pins seg = with_part parts actor (Writing (finite.insert pins (key_of_seg seg) (pin_of seg)))
parts_after Absent parts actor pins seg = parts

pub record IsClaimed (size : ℕ) (known : Option PlaceMap) (parts : List Part) (actor : ℕ) (seg : KindSegment)
    (shown : (List ℕ → Type 0) → Type 0) (new : List Part) (claim : Claimed) : Type 0 where
  pub may : MayClaim (part_of parts actor) seg
  pub looked_up : IsLookedUp size known seg shown claim
  pub parts_are : new ≡ parts_after claim parts actor may.pins seg

-- What the actor keeps is right still, and closed, where a content stands for files and the map is that of its store; data of
-- the segment's digest is the segment.
abbrev pub KeepsPart : Option (List ℕ) → Option PlaceMap → List Part → ℕ → KindSegment → List Part → Type 0
KeepsPart content known parts actor seg new =
    (among : ByteSet) (store : Store) (files : Files) (image : List ℕ) (places : PlaceMap)
    → content ≡ Some image → known ≡ Some places
    → IsPartialIndexOf store.held places → Stands (IsIn among) store files image → HasNoCollisions (IsIn among)
    → IsAmong (IsIn among) seg.kind seg.segment.bytes → HoldsPart (HasKey places) store.held image (part_of parts actor)
    → HoldsPart (HasKey places) store.held image (part_of new actor)
