-- A segment that is offered, beside the copy of its key that is held (docs/MODEL.md, 'The running store').
use Rattle.std.specs.Prelude.{◌≡◌, ◌≢◌, ℕ, ◌+◌, ◌<◌, List, [], ◌∷◌, length, take, get_or, Option, Some, None}
use Rattle.std.specs.FinMap as finite
use Rattle.sha2.specs.Sha256.{sha256}
use Rattle.disk_format.specs.declared.why.Why.{Why}
use Rattle.container_meta.specs.Places.{PlaceMap}
use Rattle.container_meta.specs.Segments.{Segment, segment_at, entries_from}
use Rattle.segment_index.specs.Places.{KnownMap, IsPlace}
use Rattle.store_state.specs.Indexing.{AreHad}
use Rattle.disk_format.specs.Layout.{data_at}
use Rattle.container_meta.specs.declared.kind.Kind.{Kind}
use Rattle.container_meta.specs.declared.kind.Kind.TheVariants as kinds
use Rattle.container_meta.specs.declared.place.Place.{Place}
use Rattle.container_meta.specs.Format.{kind_byte}
use Rattle.base_model.specs.Bytes.{key_of}
use Rattle.refusals.specs.declared.refusal.Difference.TheVariants.{Length, Byte}
use Rattle.refusals.specs.declared.refusal.Refusal.{Refusal}
use Rattle.refusals.specs.declared.refusal.Refusal.TheVariants.{Memory, DiskRead, Clash, Corrupt, Damaged}
use Rattle.store_model.specs.Refusals.{WereFound}
use Rattle.store_model.specs.Trees.{bytes_at}

-- the copy at a place is data of this length, or these bytes
abbrev pub FitsBytes : Kind → List ℕ → Place → List ℕ → Type 0
FitsBytes kinds.Leaf bytes place image = place.length ≡ length bytes
FitsBytes kinds.Tree bytes place image = bytes_at place image ≡ bytes

-- why a copy is not given: a read that failed, or bytes of another digest
abbrev pub IsCopyRefusal : ((List ℕ → Type 0) → Type 0) → Place → List ℕ → Refusal → Type 0
IsCopyRefusal shown place digest DiskRead = Unit {0}
IsCopyRefusal shown place digest (Corrupt slot offset count want got) =
    (slot ≡ place.slot) × (offset ≡ place.offset) × (count ≡ place.length) × (want ≡ digest) × (want ≢ got)
    × WereFound shown (data_at slot + offset) count got
IsCopyRefusal shown place digest refusal = ⊥

-- the first byte at which bytes differ: its place, and both
pub record FirstDifference (offered held : List ℕ) (place mine other : ℕ) : Type 0 where
  pub within : place < length offered
  pub same : take place offered ≡ take place held
  pub offered_is : mine ≡ get_or offered place 0
  pub held_is : other ≡ get_or held place 0
  pub differ : mine ≢ other

-- a clash by bytes
abbrev pub IsDifference : Kind → List ℕ → List ℕ → List ℕ → Refusal → Type 0
IsDifference kind digest offered held (Clash key (Byte place mine other)) =
    (key ≡ key_of (kind_byte kind) digest) × FirstDifference offered held place mine other
IsDifference kind digest offered held refusal = ⊥

-- a clash by lengths
abbrev pub IsClash : Kind → List ℕ → List ℕ → Place → Refusal → Type 0
IsClash kind digest offered place (Clash key (Length mine other)) =
    (key ≡ key_of (kind_byte kind) digest) × (mine ≡ length offered) × (other ≡ place.length) × (mine ≢ other)
IsClash kind digest offered place refusal = ⊥

-- why a node's copy is not the same, where it has its length: it is not given, or it has the digest and another byte
abbrev pub IsNodeRefusal : ((List ℕ → Type 0) → Type 0) → Kind → List ℕ → List ℕ → Place → Refusal → Type 0
IsNodeRefusal shown kind digest offered place (Clash key (Byte at mine other)) =
    (key ≡ key_of (kind_byte kind) digest)
    × shown (λ image. (sha256 (bytes_at place image) ≡ digest) × FirstDifference offered (bytes_at place image) at mine other)
IsNodeRefusal shown kind digest offered place (Clash key (Length mine other)) = ⊥
IsNodeRefusal shown kind digest offered place refusal = IsCopyRefusal shown place digest refusal

-- Why a copy is not the same. Only a node's is read, and only where it has the length.
abbrev pub IsSameRefusal : ((List ℕ → Type 0) → Type 0) → Kind → List ℕ → List ℕ → Place → Refusal → Type 0
IsSameRefusal shown kind digest offered place (Clash key (Length mine other)) =
    IsClash kind digest offered place (Clash key (Length mine other))
IsSameRefusal shown kind digest offered place refusal =
    (kind ≡ kinds.Tree) × (place.length ≡ length offered) × IsNodeRefusal shown kind digest offered place refusal

-- ---- a container of segments that are offered

-- the copy of a segment fits it, if there is one
abbrev pub FitsHad : Kind → List ℕ → Option Place → List ℕ → Type 0
FitsHad kind bytes None image = Unit {0}
FitsHad kind bytes (Some place) image = FitsBytes kind bytes place image

-- those of segments, one by one
abbrev pub AllFit : Kind → List Segment → List (Option Place) → List ℕ → Type 0
AllFit kind [] hads image = Unit {0}
AllFit kind (s ∷ ss) [] image = ⊥
AllFit kind (s ∷ ss) (had ∷ hads) image = FitsHad kind s.bytes had image × AllFit kind ss hads image

-- a segment has a copy, where the map is known, that isn't the same
pub record IsUnlike (size : ℕ) (known : Option PlaceMap) (shown : (List ℕ → Type 0) → Type 0) (kind : Kind) (digest offered : List ℕ)
    (refusal : Refusal) : Type 0 where
  pub place : Place
  pub there : KnownMap known (λ m. finite.get m (key_of (kind_byte kind) digest) ≡ Some place)
  pub lies : IsPlace size place
  pub refused : IsSameRefusal shown kind digest offered place refusal

-- why a segment is refused beside what is held: a read that failed, damage of the index, or another copy
abbrev pub IsOneRefusal : (ℕ → Why → Type 0) → (Refusal → Type 0) → Refusal → Type 0
IsOneRefusal damaged unlike DiskRead = Unit {0}
IsOneRefusal damaged unlike (Damaged at why) = damaged at why
IsOneRefusal damaged unlike refusal = unlike refusal

-- the first segments of a container, so many, have these copies, and each fits
pub record FitSoFar (size : ℕ) (known : Option PlaceMap) (shown : (List ℕ → Type 0) → Type 0) (kind : Kind) (segments : List Segment)
    (hads : List (Option Place)) : Type 0 where
  pub had : AreHad size known kind (entries_from 0 segments) hads
  pub fit : shown (AllFit kind segments hads)

-- the first segment that has another copy
pub record IsFirstUnlike (size : ℕ) (known : Option PlaceMap) (shown : (List ℕ → Type 0) → Type 0) (kind : Kind) (segments : List Segment)
    (refusal : Refusal) : Type 0 where
  pub number : ℕ
  pub within : number < length segments
  pub hads : List (Option Place)
  pub before : FitSoFar size known shown kind (take number segments) hads
  pub unlike : IsUnlike size known shown kind (sha256 (segment_at segments number).bytes) (segment_at segments number).bytes refusal

-- why a container is refused: want of memory, a read that failed, damage of an index whose map isn't known, or another copy
abbrev pub IsAllRefusal : Option PlaceMap → (Refusal → Type 0) → Refusal → Type 0
IsAllRefusal known unlike Memory = Unit {0}
IsAllRefusal known unlike DiskRead = Unit {0}
IsAllRefusal known unlike (Damaged at why) = known ≡ None
IsAllRefusal known unlike refusal = unlike refusal
