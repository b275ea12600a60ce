-- A walk down a tree of a running store: nodes that are opened on the way to a segment, and what reads give of each
-- (docs/MODEL.md, 'Reading').
use Rattle.std.specs.Prelude.{◌≡◌, ◌≢◌, ◌⊎◌, ℕ, ◌+◌, ◌≤◌, ◌==◌, if◌then◌else◌, List, [], ◌∷◌, ◌++◌, length, drop, take, sum_by, Option, Some, None, Result, Ok, Err}
use Rattle.std.specs.FinMap as finite
use Rattle.std.specs.List.{AllByRecursion}
use Rattle.sha2.specs.Sha256.{sha256}
use Rattle.base_model.specs.Bytes.{key_of}
use Rattle.dd_disk.specs.Ending.{Ending, Reads}
use Rattle.dd_disk.specs.View.{DiskView}
use Rattle.dd_disk.specs.Shows.{Shows}
use Rattle.disk_format.specs.Layout.{data_at}
use Rattle.disk_format.specs.declared.why.Why.{Why}
use Rattle.disk_format.specs.declared.why.Why.TheVariants.{Digest, Field}
use Rattle.container_meta.specs.declared.place.Place.{Place}
use Rattle.container_meta.specs.Places.{PlaceMap}
use Rattle.container_meta.specs.Spelling.{HeaderValue}
use Rattle.merkle_file.specs.declared.top.Top.{Top}
use Rattle.merkle_file.specs.Tree.{Tree}
use Rattle.merkle_file.specs.Reading.{contents_in}
use Rattle.merkle_file.specs.Walk.{Ahead, SpellsNext, fault_for, opened, segments_in, start_of}
use Rattle.refusals.specs.declared.refusal.Refusal.{Refusal}
use Rattle.refusals.specs.declared.refusal.Refusal.TheVariants.{DiskRead, Corrupt, Missing, Damaged}
use Rattle.segment_index.specs.Places.{KnownMap, IsPlace}
use Rattle.store_model.specs.Refusals.{WereFound}
use Rattle.store_model.specs.Collisions.{ByteSet, IsIn}
use Rattle.store_model.specs.Reserve.{HoldsCounted}
use Rattle.store_model.specs.Slots.{HasKey, IsPartialIndexOf}
use Rattle.store_model.specs.Trees.{bytes_at}

-- ---- what is read

-- the index, where its map is known, has this place for the key
abbrev pub IsPlaceOf : Option PlaceMap → List ℕ → Place → Type 0
IsPlaceOf known key place = KnownMap known (λ m. finite.get m key ≡ Some place)

-- Reads gave the bytes at this place, and the index has it for the key.
pub record IsCopyAt (known : Option PlaceMap) (old new : DiskView) (key : List ℕ) (place : Place) (bytes : List ℕ) : Type 0 where
  pub place_is : IsPlaceOf known key place
  pub right : IsPlace old.size place
  pub long : length bytes ≡ place.length
  pub there : Shows old new (λ image. bytes_at place image ≡ bytes)

-- Reads gave these bytes for a key: those at the place that the index has for it.
pub record WasRead (known : Option PlaceMap) (old new : DiskView) (key bytes : List ℕ) : Type 0 where
  pub place : Place
  pub copy : IsCopyAt known old new key place bytes

-- Calls that only read, and ask the index: its map stays, and its bytes break its form nowhere but where they did.
pub record AsksIndex (known now : Option PlaceMap) (breaks breaks_now : ℕ → Why → List ℕ → Type 0) (ending : Ending) (old new : DiskView)
    : Type 0 where
  pub map : now ≡ known
  pub form : (at : ℕ) (why : Why) (bytes : List ℕ) → breaks_now at why bytes → breaks at why bytes
  pub reads : Reads ending old new

-- a node of this digest comes first
abbrev pub IsNodeNamed : List Top → List ℕ → Type 0
IsNodeNamed [] digest = ⊥
IsNodeNamed (t ∷ ts) digest = (1 ≤ t.level) × (digest ≡ t.digest)

-- the level of what comes first
abbrev pub level_ahead : List Top → ℕ
level_ahead [] = 0
level_ahead (t ∷ ts) = t.level

-- a segment that is named so
abbrev pub leaf_top : ℕ → List ℕ → Top
leaf_top count digest = record { length = count; level = 0; digest = digest }

-- a kind's number in the key of a tree: a segment's, or a node's
abbrev pub kind_of : Top → ℕ
kind_of t = if t.level == 0 then 0 else 1

abbrev pub top_key : Top → List ℕ
top_key t = key_of (kind_of t) t.digest

-- A node comes first, and these bytes, which P says were read for its key, are it.
abbrev pub IsNodeRead : (List ℕ → List ℕ → Type 0) → List Top → List ℕ → Type 0
IsNodeRead P [] bytes = ⊥
IsNodeRead P (t ∷ ts) bytes = (1 ≤ t.level) × P (key_of 1 t.digest) bytes × (sha256 bytes ≡ t.digest) × SpellsNext (t ∷ ts) bytes

-- These nodes were opened one after the other, each where it came first, and put its children in its place.
abbrev pub Opened : (List ℕ → List ℕ → Type 0) → List (List ℕ) → List Top → List Top → Type 0
Opened P [] before after = after ≡ before
Opened P (b ∷ bs) before after = IsNodeRead P before b × Opened P bs (opened (contents_in b) ++ drop 1 before) after

-- some nodes were opened
pub record Walked (P : List ℕ → List ℕ → Type 0) (before after : List Top) : Type 0 where
  pub nodes : List (List ℕ)
  pub way : Opened P nodes before after

-- So many bytes are the segment that was named. P says that they were read for its key.
pub record IsLeafRead (P : List ℕ → List ℕ → Type 0) (t : Top) (count : ℕ) (bytes : List ℕ) : Type 0 where
  pub was_read : P (key_of 0 t.digest) bytes
  pub digest : sha256 bytes ≡ t.digest
  pub named : t.length ≡ count
  pub long : length bytes ≡ count
  pub some : 1 ≤ count

-- They are the segment that comes first once some nodes are opened, and it was passed.
pub record Gives (P : List ℕ → List ℕ → Type 0) (before after : List Top) (count : ℕ) (bytes : List ℕ) : Type 0 where
  pub next : Top
  pub walked : Walked P before (next ∷ after)
  pub leaf : next.level ≡ 0
  pub read : IsLeafRead P next count bytes

-- what is answered: a segment, or the end, where nothing is to come
abbrev pub IsAnswer : (List ℕ → List ℕ → Type 0) → List Top → List Top → List ℕ → Option ℕ → Type 0
IsAnswer P before after buf None = (before ≡ []) × (after ≡ [])
IsAnswer P before after buf (Some count) = Gives P before after count (take count buf)

-- ---- why it is refused

-- the place that the index has for a key has these parts
pub record IsPlacedAt (known : Option PlaceMap) (key : List ℕ) (slot offset count : ℕ) : Type 0 where
  pub place : Place
  pub place_is : IsPlaceOf known key place
  pub slot_is : slot ≡ place.slot
  pub offset_is : offset ≡ place.offset
  pub count_is : count ≡ place.length

-- the index, whose map is not known then, has bytes that break its form so
pub record IsDamage (known : Option PlaceMap) (breaks : ℕ → Why → List ℕ → Type 0) (old new : DiskView) (at : ℕ) (why : Why)
    : Type 0 where
  pub unknown : known ≡ None
  pub there : Shows old new (breaks at why)

-- why a key has no place: a read that failed, or no entry, or damage of the index
abbrev pub IsLookupRefusal : Option PlaceMap → (ℕ → Why → List ℕ → Type 0) → DiskView → DiskView → List ℕ → Refusal → Type 0
IsLookupRefusal known breaks old new key DiskRead = Unit {0}
IsLookupRefusal known breaks old new key (Missing k) = (k ≡ key) × KnownMap known (λ m. finite.get m key ≡ None)
IsLookupRefusal known breaks old new key (Damaged at why) = IsDamage known breaks old new at why
IsLookupRefusal known breaks old new key refusal = ⊥

-- what is told of a copy with another digest: where its bytes lie, and the digests
pub record CorruptCopy : Type 0 where
  pub slot : ℕ
  pub offset : ℕ
  pub count : ℕ
  pub want : List ℕ
  pub got : List ℕ

-- bytes that were found at the place of a key have another digest than the one wanted
pub record IsCorrupt (known : Option PlaceMap) (old new : DiskView) (key digest : List ℕ) (c : CorruptCopy) : Type 0 where
  pub want_is : c.want ≡ digest
  pub differ : c.want ≢ c.got
  pub placed : IsPlacedAt known key c.slot c.offset c.count
  pub found : WereFound (Shows old new) (data_at c.slot + c.offset) c.count c.got

-- why the bytes of a key are not given
abbrev pub IsCopyRefusal : Option PlaceMap → (ℕ → Why → List ℕ → Type 0) → DiskView → DiskView → List ℕ → List ℕ → Refusal → Type 0
IsCopyRefusal known breaks old new key digest (Corrupt slot offset count want got) =
    IsCorrupt known old new key digest (record { slot = slot; offset = offset; count = count; want = want; got = got })
IsCopyRefusal known breaks old new key digest refusal = IsLookupRefusal known breaks old new key refusal

-- bytes of the right digest aren't what was named: as a node by their first wrong field, as a segment by their length
abbrev pub IsWrong : Top → List ℕ → Why → Type 0
IsWrong t bytes (Field offset got) =
    ((1 ≤ t.level) × (fault_for (t ∷ []) bytes ≡ Some (record { offset = offset; got = got })))
    ⊎ ((t.level ≡ 0) × (offset ≡ 0) × (got ≡ length bytes) × (got ≢ t.length))
IsWrong t bytes (Digest want got) = ⊥

-- They lie at this byte of the disk.
pub record IsMisnamed (known : Option PlaceMap) (old new : DiskView) (t : Top) (at : ℕ) (why : Why) : Type 0 where
  pub bytes : List ℕ
  pub was_read : WasRead known old new (top_key t) bytes
  pub at_is : at ≡ data_at was_read.place.slot + was_read.place.offset
  pub digest : sha256 bytes ≡ t.digest
  pub wrong : IsWrong t bytes why

-- why a tree that comes first is not gone on with
abbrev pub IsTopRefusal : Option PlaceMap → (ℕ → Why → List ℕ → Type 0) → DiskView → DiskView → Top → Refusal → Type 0
IsTopRefusal known breaks old new t (Damaged at why) = IsDamage known breaks old new at why ⊎ IsMisnamed known old new t at why
IsTopRefusal known breaks old new t refusal = IsCopyRefusal known breaks old new (top_key t) t.digest refusal

abbrev pub IsNextRefusal : Option PlaceMap → (ℕ → Why → List ℕ → Type 0) → DiskView → DiskView → List Top → Refusal → Type 0
IsNextRefusal known breaks old new [] refusal = ⊥
IsNextRefusal known breaks old new (t ∷ ts) refusal = IsTopRefusal known breaks old new t refusal

-- The walk came to a place, and what comes first there is not given. So what is to come stays: some of its nodes stand
-- opened in their own place.
pub record IsWalkRefusal (known : Option PlaceMap) (breaks : ℕ → Why → List ℕ → Type 0) (old new : DiskView) (before after : List Top)
    (refusal : Refusal) : Type 0 where
  pub walked : Walked (WasRead known old new) before after
  pub cause : IsNextRefusal known breaks old new after refusal

-- ---- trees that are held

-- The disk tells its content, the map of the index is known, and each place in it is that of the newest copy in these slots; it has the
-- keys of this set.
pub record IsIndexed (counts : ByteSet) (held : List (Option HeaderValue)) (known : Option PlaceMap) (content : Option (List ℕ))
    (image : List ℕ) : Type 0 where
  pub told : content ≡ Some image
  pub index : PlaceMap
  pub index_known : known ≡ Some index
  pub index_is_newest : IsPartialIndexOf held index
  pub has : (key : List ℕ) → IsIn counts key → HasKey index key

-- These trees, in order, are to come, and the image holds them. Their keys are in the set.
pub record HeldAhead (counts : ByteSet) (held : List (Option HeaderValue)) (image : List ℕ) (ahead : List Top) (ts : List (Tree (List ℕ)))
    : Type 0 where
  pub trees : Ahead ahead ts
  pub each : AllByRecursion (HoldsCounted (IsIn counts) held image) ts

-- held trees are to come, and these are their segments
pub record SegmentsAhead (counts : ByteSet) (held : List (Option HeaderValue)) (image : List ℕ) (ahead : List Top)
    (segments : List (List ℕ)) : Type 0 where
  pub trees : List (Tree (List ℕ))
  pub held_ahead : HeldAhead counts held image ahead trees
  pub segments_are : segments ≡ segments_in trees

-- the first of the segments to come is in the buffer, and the others are still to come
pub record GivesFirst (counts : ByteSet) (held : List (Option HeaderValue)) (image : List ℕ) (after : List Top) (segments : List (List ℕ))
    (first : List ℕ) : Type 0 where
  pub others : List (List ℕ)
  pub segments_are : segments ≡ first ∷ others
  pub ahead : SegmentsAhead counts held image after others

-- What is answered where these segments of held trees are to come: the first of them, or the end, or that a read failed.
abbrev pub IsHeldAnswer : ByteSet → List (Option HeaderValue) → List ℕ → List Top → List (List ℕ) → List ℕ → Result (Option ℕ) Refusal
    → Type 0
IsHeldAnswer counts held image after segments buf (Ok None) = segments ≡ []
IsHeldAnswer counts held image after segments buf (Ok (Some count)) = GivesFirst counts held image after segments (take count buf)
IsHeldAnswer counts held image after segments buf (Err DiskRead) = SegmentsAhead counts held image after segments
IsHeldAnswer counts held image after segments buf (Err refusal) = ⊥

-- ---- all reads of a walk

-- how many bytes are to come
abbrev pub bytes_ahead : List Top → ℕ
bytes_ahead ahead = sum_by (λ t. t.length) ahead

abbrev pub AnyBytes : List ℕ → List ℕ → Type 0
AnyBytes key bytes = Unit {0}

-- One read after the other gave these segments, and led from what was to come to what is. Between two that gave one,
-- some nodes may have been opened by reads that were refused.
abbrev pub GivesAll : List Top → List (List ℕ) → List Top → Type 0
GivesAll before [] after = Walked AnyBytes before after
GivesAll before (s ∷ ss) after =
    (mid : List Top) × ((end : List Top) × Walked AnyBytes before mid × Gives AnyBytes mid end (length s) s × GivesAll end ss after)

-- A reader that has come to the end was given as many bytes as the root that it began at says.
abbrev pub ReadsAreWhole : Type 0
ReadsAreWhole = (top : Top) (segments : List (List ℕ)) → GivesAll (start_of top) segments [] → sum_by length segments ≡ top.length
