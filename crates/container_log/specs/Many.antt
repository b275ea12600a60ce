-- Several containers that are sealed together, and several slots that are closed together: what the slots hold meanwhile, and after.
use Rattle.std.specs.Prelude.{◌≡◌, ◌≢◌, ◌⊎◌, ℕ, suc, ◌+◌, ◌<◌, ◌≤◌, List, [], ◌∷◌, length, drop, get_or, slice_get, true, Some, None, Result, IfOk}
use Rattle.base_model.specs.Bytes.{range, byte_at}
use Rattle.disk_format.specs.declared.numbers.TheConstants.{SLOT_BYTES}
use Rattle.disk_format.specs.Layout.{slot_at}
use Rattle.dd_disk.specs.Wrote.{SameIn}
use Rattle.container_meta.specs.declared.kind.Kind.{Kind}
use Rattle.container_meta.specs.Format.{is_id}
use Rattle.container_meta.specs.Segments.{Segment, Contents, StandFrom}
use Rattle.container_meta.specs.Spelling.{HeaderValue, IsSpelled, container_spelling, header_digest, header_of}
use Rattle.store_model.specs.Slots.{HoldsSlot, HoldsContainer}
use Rattle.store_model.specs.Together.{Placed}

-- the slots lie in a disk of this size, each past the one before it
pub record AreSlots (size : ℕ) (slots : List ℕ) : Type 0 where
  pub within : (i slot : ℕ) → slice_get slots i ≡ Some slot → slot_at slot + SLOT_BYTES ≤ size
  pub rise : (i j low high : ℕ) → i < j → slice_get slots i ≡ Some low → slice_get slots j ≡ Some high → low < high

-- the slots lie in a disk of this size, in any order, and none of them twice
pub record AreApart (size : ℕ) (slots : List ℕ) : Type 0 where
  pub within : (i slot : ℕ) → slice_get slots i ≡ Some slot → slot_at slot + SLOT_BYTES ≤ size
  pub apart : (i j one other : ℕ) → i < j → slice_get slots i ≡ Some one → slice_get slots j ≡ Some other → one ≢ other

-- each of the containers has a segment
abbrev pub HaveSegments : List Contents → Type 0
HaveSegments filled = (i : ℕ) (contents : Contents) → slice_get filled i ≡ Some contents → 1 ≤ length contents.segments

-- What is asked of containers that are sealed together: slots of a disk of this size, one for each of them, with room for a digest;
-- an id for each, from one on; and a buffer.
pub record MaySealAll (size : ℕ) (slots : List ℕ) (id : ℕ) (filled : List Contents) (image : List ℕ)
    (digests : List (List ℕ)) : Type 0 where
  pub places : AreSlots size slots
  pub each : length filled ≡ length slots
  pub room : length digests ≡ length slots
  pub there : HaveSegments filled
  pub ids : (i : ℕ) → i < length slots → is_id (id + i) ≡ true
  pub buffer : length image ≡ SLOT_BYTES

-- ---- places outside of the slots

-- so many bytes from a place on have none of any slot
abbrev pub NoSlot : List ℕ → ℕ → ℕ → Type 0
NoSlot slots at count = (i slot : ℕ) → slice_get slots i ≡ Some slot → (at + count ≤ slot_at slot) ⊎ (slot_at slot + SLOT_BYTES ≤ at)

-- none but gates
abbrev pub NoBody : List ℕ → ℕ → ℕ → Type 0
NoBody slots at count = (i slot : ℕ) → slice_get slots i ≡ Some slot → (at + count ≤ slot_at slot + 1) ⊎ (slot_at slot + SLOT_BYTES ≤ at)

-- no gate
abbrev pub NoGate : List ℕ → ℕ → ℕ → Type 0
NoGate slots at count = (i slot : ℕ) → slice_get slots i ≡ Some slot → (at + count ≤ slot_at slot) ⊎ (slot_at slot + 1 ≤ at)

-- ---- bodies, and then gates

-- the bytes of a slot with a container
pub record IsSlotOf (id : ℕ) (kind : Kind) (segments : List Segment) (cell : List ℕ) : Type 0 where
  pub size : length cell ≡ SLOT_BYTES
  pub header : IsSpelled (header_of id kind segments) cell
  pub stored : StandFrom 0 segments cell

abbrev pub spelling_of : ℕ → Contents → List ℕ
spelling_of id contents = container_spelling id contents.kind contents.segments

-- all of a container but its gate stands in a slot
pub record HasBody (image : List ℕ) (slot id : ℕ) (contents : Contents) : Type 0 where
  pub is : IsSlotOf id contents.kind contents.segments (spelling_of id contents)
  pub stands : range (slot_at slot + 1) 262143 image ≡ drop 1 (spelling_of id contents)

-- of each of the first so many, under ids from one on; all but the bodies is as it was
pub record HaveBodies (count : ℕ) (slots : List ℕ) (id : ℕ) (filled : List Contents) (given now : List ℕ) : Type 0 where
  pub rest : SameIn (NoBody slots) given now
  pub each : (i slot : ℕ) (contents : Contents) → i < count → slice_get slots i ≡ Some slot → slice_get filled i ≡ Some contents
      → HasBody now slot (id + i) contents

-- the first so many of the slots have this byte as their gate; all but the gates is as it was
pub record HaveGates (gate count : ℕ) (slots : List ℕ) (given now : List ℕ) : Type 0 where
  pub rest : SameIn (NoGate slots) given now
  pub each : (i slot : ℕ) → i < count → slice_get slots i ≡ Some slot → byte_at (slot_at slot) now ≡ gate

-- ---- containers that are sealed

-- a buffer holds the bytes of one of the containers, if there is one
abbrev pub SpellsOne : ℕ → List Contents → List ℕ → Type 0
SpellsOne id filled image =
    1 ≤ length filled → (i : ℕ) × (contents : Contents) × (slice_get filled i ≡ Some contents) × (image ≡ spelling_of (id + i) contents)

-- the digests of the headers of the first so many
abbrev pub AreDigests : ℕ → ℕ → List Contents → List (List ℕ) → Type 0
AreDigests count id filled digests =
    (i : ℕ) (contents : Contents) → i < count → slice_get filled i ≡ Some contents
    → get_or digests i [] ≡ header_digest (header_of (id + i) contents.kind contents.segments)

-- What is left of a call that spelled so many: one of them in the buffer; and, if it succeeded, their digests.
pub record AreSpelled {A E : Type 0} (result : Result A E) (count id : ℕ) (filled : List Contents) (image : List ℕ)
    (digests : List (List ℕ)) : Type 0 where
  pub size : length image ≡ SLOT_BYTES
  pub one : SpellsOne id filled image
  pub digests_are : IfOk result (λ _. AreDigests count id filled digests)

-- Containers are being written, each to its slot. From an image: slots that were closed are closed still. Or, from what the disk
-- gave at the start, each of the slots is closed or has its container, whichever of them. All else is as it was there.
abbrev pub SealsAll : List ℕ → ℕ → List Contents → List ℕ → List ℕ → List ℕ → Type 0
SealsAll slots id filled given old new =
    (SameIn (NoSlot slots) old new × ((i slot : ℕ) → slice_get slots i ≡ Some slot → HoldsSlot old slot None → HoldsSlot new slot None))
    ⊎ (SameIn (NoSlot slots) given new
    × ((i slot : ℕ) (contents : Contents) → slice_get slots i ≡ Some slot → slice_get filled i ≡ Some contents
    → HoldsSlot new slot None ⊎ HoldsContainer new slot (id + i) contents.kind contents.segments))

-- each slot has its container, byte by byte, and all else is as it was
pub record AreSealed (slots : List ℕ) (id : ℕ) (filled : List Contents) (given new : List ℕ) : Type 0 where
  pub rest : SameIn (NoSlot slots) given new
  pub each : (i slot : ℕ) (contents : Contents) → slice_get slots i ≡ Some slot → slice_get filled i ≡ Some contents
      → HoldsContainer new slot (id + i) contents.kind contents.segments
  pub whole : (i slot : ℕ) (contents : Contents) → slice_get slots i ≡ Some slot → slice_get filled i ≡ Some contents
      → range (slot_at slot) SLOT_BYTES new ≡ spelling_of (id + i) contents

-- the containers, each with its slot and its id
abbrev pub placed : List ℕ → ℕ → List Contents → List Placed
placed [] id filled = []
placed (slot ∷ slots) id [] = []
placed (slot ∷ slots) id (c ∷ cs) = record { slot = slot; id = id; kind = c.kind; segments = c.segments } ∷ placed slots (suc id) cs

-- ---- slots that are closed

-- Whichever of them: one that had a container has it still, or is closed. All but their gates is as it was.
abbrev pub FreesAll : List ℕ → List ℕ → List ℕ → Type 0
FreesAll slots old new =
    SameIn (NoGate slots) old new
    × ((i slot : ℕ) (h : HeaderValue) → slice_get slots i ≡ Some slot → HoldsSlot old slot (Some h)
    → HoldsSlot new slot None ⊎ HoldsSlot new slot (Some h))

-- each has the gate 0, and all but the gates is as it was
abbrev pub AreFreed : List ℕ → List ℕ → List ℕ → Type 0
AreFreed slots given new = HaveGates 0 (length slots) slots given new

-- R holds of each slot, one after the other, between an image and the next
abbrev pub OneByOne : (ℕ → List ℕ → List ℕ → Type 0) → List ℕ → List ℕ → List ℕ → Type 0
OneByOne R [] old new = new ≡ old
OneByOne R (slot ∷ slots) old new = (mid : List ℕ) × R slot old mid × OneByOne R slots mid new
