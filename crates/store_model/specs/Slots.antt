-- What the container slots of a disk image hold (docs/MODEL.md, 'Containers').
use Rattle.std.specs.Prelude.{◌≡◌, ◌≢◌, ◌≤◌, ℕ, zero, suc, ◌+◌, List, [], ◌∷◌, length, max, nat_lt, if◌then◌else◌, Bool, is_some, Option, Some, None, find, option_map}
use Rattle.std.specs.Str.{bytes_eq}
use Rattle.std.specs.FinMap as finite
use Rattle.base_model.specs.Bytes.{range, byte_at, key_of}
use Rattle.container_meta.specs.declared.entry.Entry.{Entry}
use Rattle.container_meta.specs.declared.kind.Kind.{Kind}
use Rattle.container_meta.specs.Segments.{Segment}
use Rattle.container_meta.specs.Format.{kind_byte}
use Rattle.container_meta.specs.Spelling.{HeaderValue, IsHeader, header_of, header_size, header_spelling}
use Rattle.disk_format.specs.declared.numbers.TheConstants.{CONTAINER_GATE}
use Rattle.disk_format.specs.Layout.{slot_at, data_at}
use Rattle.container_meta.specs.declared.place.Place.{Place}
use Rattle.container_meta.specs.Places.{PlaceMap}

-- a slot is closed, or has a right header; what stands between that and its data is free
abbrev pub HoldsSlot : List ℕ → ℕ → Option HeaderValue → Type 0
HoldsSlot image slot None = byte_at (slot_at slot) image ≢ CONTAINER_GATE
HoldsSlot image slot (Some h) = IsHeader h × (range (slot_at slot) (header_size h) image ≡ header_spelling h)

-- segments stand one after the other, from a byte of the image on
abbrev pub StandAt : ℕ → List Segment → List ℕ → Type 0
StandAt at [] image = Unit {0}
StandAt at (s ∷ ss) image = (range at (length s.bytes) image ≡ s.bytes) × StandAt (at + length s.bytes) ss image

-- the slot has this container: its header, and the bytes of each segment where its entry says
pub record HoldsContainer (image : List ℕ) (slot id : ℕ) (kind : Kind) (segments : List Segment) : Type 0 where
  pub header : HoldsSlot image slot (Some (header_of id kind segments))
  pub bytes : StandAt (data_at slot) segments image

-- so many slots, from one on
abbrev pub HoldSlots : ℕ → List (Option HeaderValue) → List ℕ → Type 0
HoldSlots slot [] image = Unit {0}
HoldSlots slot (c ∷ cs) image = HoldsSlot image slot c × HoldSlots (slot + 1) cs image

-- the headers are such
abbrev pub AreHeaders : List (Option HeaderValue) → Type 0
AreHeaders [] = Unit {0}
AreHeaders (None ∷ cs) = AreHeaders cs
AreHeaders (Some h ∷ cs) = IsHeader h × AreHeaders cs

-- no container has this id
abbrev pub IsUnusedId : ℕ → List (Option HeaderValue) → Type 0
IsUnusedId id [] = Unit {0}
IsUnusedId id (None ∷ cs) = IsUnusedId id cs
IsUnusedId id (Some h ∷ cs) = (h.id ≢ id) × IsUnusedId id cs

abbrev pub DifferentIds : List (Option HeaderValue) → Type 0
DifferentIds [] = Unit {0}
DifferentIds (None ∷ cs) = DifferentIds cs
DifferentIds (Some h ∷ cs) = IsUnusedId h.id cs × DifferentIds cs

-- a copy of a segment: the id of its container, and where it lies
pub record Copy : Type 0 where
  pub id : ℕ
  pub place : Place

abbrev pub place_of : ℕ → Entry → Place
place_of slot e = record { slot = slot; offset = e.offset; length = e.length; level = e.level }

-- the copy of a key that a slot holds
abbrev pub copy_in : ℕ → Option HeaderValue → List ℕ → Option Copy
copy_in slot None key = None
copy_in slot (Some h) key =
    option_map (λ e. record { id = h.id; place = place_of slot e })
    (find (λ e. bytes_eq (key_of (kind_byte h.kind) e.digest) key) h.entries)

-- the one of the greater id; ids differ
abbrev pub newer : Option Copy → Option Copy → Option Copy
newer None b = b
newer (Some a) None = Some a
newer (Some a) (Some b) = if nat_lt a.id b.id then Some b else Some a

-- the newest copy of a key in slots from one on: that in the container of the greatest id
abbrev pub newest : ℕ → List (Option HeaderValue) → List ℕ → Option Copy
newest slot [] key = None
newest slot (c ∷ cs) key = newer (copy_in slot c key) (newest (slot + 1) cs key)

-- the index gives each key its newest copy
abbrev pub IsIndexOf : List (Option HeaderValue) → PlaceMap → Type 0
IsIndexOf containers places = (key : List ℕ) → finite.get places key ≡ option_map (λ c. c.place) (newest 0 containers key)

-- the index has a place for the key
abbrev pub HasKey : PlaceMap → List ℕ → Type 0
HasKey places key = (place : Place) × (finite.get places key ≡ Some place)

-- the keys of an index, as a set
abbrev pub key_set_of : PlaceMap → List ℕ → Bool
key_set_of places key = is_some (finite.get places key)

-- each place that the index has is that of its key's newest copy; it may lack keys
abbrev pub IsPartialIndexOf : List (Option HeaderValue) → PlaceMap → Type 0
IsPartialIndexOf containers places = (key : List ℕ) (place : Place) → finite.get places key ≡ Some place
    → option_map (λ c. c.place) (newest 0 containers key) ≡ Some place

-- the greatest id, 0 where there is no container
abbrev pub last_id : List (Option HeaderValue) → ℕ
last_id [] = 0
last_id (None ∷ cs) = last_id cs
last_id (Some h ∷ cs) = max h.id (last_id cs)

-- the id in each slot, 0 where it is closed; ids are from 1 on
abbrev pub ids_of : List (Option HeaderValue) → List ℕ
ids_of [] = []
ids_of (None ∷ cs) = 0 ∷ ids_of cs
ids_of (Some h ∷ cs) = h.id ∷ ids_of cs

-- how many slots are closed
abbrev pub free_slots : List (Option HeaderValue) → ℕ
free_slots [] = 0
free_slots (None ∷ cs) = suc (free_slots cs)
free_slots (Some h ∷ cs) = free_slots cs

-- one slot is closed at least: what the steps of a running store go by
abbrev pub HasFree : List (Option HeaderValue) → Type 0
HasFree held = 1 ≤ free_slots held

-- the closed slot of least number; where none is, how many there are
abbrev pub first_free : List (Option HeaderValue) → ℕ
first_free [] = 0
first_free (None ∷ cs) = 0
first_free (Some h ∷ cs) = suc (first_free cs)

-- the slots once a container is in one of them
abbrev pub with_slot : ℕ → HeaderValue → List (Option HeaderValue) → List (Option HeaderValue)
with_slot slot h [] = []
with_slot zero h (c ∷ cs) = Some h ∷ cs
with_slot (suc slot) h (c ∷ cs) = c ∷ with_slot slot h cs

-- the slots once one of them is closed
abbrev pub without_slot : ℕ → List (Option HeaderValue) → List (Option HeaderValue)
without_slot slot [] = []
without_slot zero (c ∷ cs) = None ∷ cs
without_slot (suc slot) (c ∷ cs) = c ∷ without_slot slot cs
