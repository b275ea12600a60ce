-- What is needed, and what a container may be given back for: keys that values have, which names have, actors or a collection that runs.
use Rattle.std.specs.Prelude.{◌≡◌, ◌≢◌, ◌⊎◌, ◌<◌, ℕ, true, not, List, [], ◌∷◌, ◌++◌, filter, map, length, Contains, Option, Some, None, option_map}
use Rattle.std.specs.List.{list_any}
use Rattle.std.specs.Str.{bytes_eq}
use Rattle.std.specs.FinMap as finite
use Rattle.actor_parts.specs.Segments.{first_unpinned, pin_by, pin_of}
use Rattle.actor_parts.specs.PinMap.{PinMap, has_pin}
use Rattle.sha2.specs.Sha256.{sha256}
use Rattle.base_model.specs.Bytes.{byte_at, range}
use Rattle.container_meta.specs.declared.kind.Kind.{Kind}
use Rattle.container_meta.specs.declared.kind.Kind.TheVariants.{Tree}
use Rattle.container_meta.specs.declared.place.Place.{Place}
use Rattle.container_meta.specs.Segments.{KindSegment, Segment, segment_key}
use Rattle.disk_format.specs.Cells.{Root}
use Rattle.refusals.specs.declared.refusal.Difference.{Difference}
use Rattle.refusals.specs.declared.refusal.Difference.TheVariants.{Length, Byte}
use Rattle.store_model.specs.Image.{Store}
use Rattle.store_model.specs.Refusals.{root_key}
use Rattle.store_model.specs.Slots.{Copy, newest}
use Rattle.store_machine.specs.Machine.{Collection, Found, Machine, Part, Writing, Reading}
use Rattle.store_machine.specs.Values.{Values}

-- ---- what actors keep

abbrev pub empty_root : Root
empty_root = record { length = 0; level = 0; digest = sha256 [] }

-- the root's segment is kept, with its level and length; that of the empty file needs none
abbrev pub IsKept : PinMap → Root → Type 0
IsKept pins root = (root ≡ empty_root) ⊎ (has_pin pins (root_key root) (record { level = root.level; length = root.length }) ≡ true)

-- the keys that writers keep, and the values that readers read
abbrev pub keys_kept : {V R : Type 0} → List (Part V R) → List (List ℕ)
keys_kept [] = []
keys_kept (Writing pins ∷ parts) = finite.keys pins ++ keys_kept parts
keys_kept (part ∷ parts) = keys_kept parts

abbrev pub values_read : {V R : Type 0} → List (Part V R) → List V
values_read [] = []
values_read (Reading value rest ∷ parts) = value ∷ values_read parts
values_read (part ∷ parts) = values_read parts

-- the keys of segments, and the pins with them
abbrev pub keys_of : Kind → List Segment → List (List ℕ)
keys_of kind segments = map (segment_key kind) segments

abbrev pub with_pins : Kind → List Segment → PinMap → PinMap
with_pins kind [] pins = pins
with_pins kind (s ∷ ss) pins = with_pins kind ss (finite.insert pins (segment_key kind s) (pin_by kind s))

-- the key of the first child of segments that isn't kept
abbrev pub or_else : Option (List ℕ) → Option (List ℕ) → Option (List ℕ)
or_else (Some key) next = Some key
or_else None next = next

abbrev pub first_unkept : Kind → List Segment → PinMap → Option (List ℕ)
first_unkept kind [] pins = None
first_unkept kind (s ∷ ss) pins = or_else (first_unpinned (record { kind = kind; segment = s }) pins) (first_unkept kind ss pins)

-- ---- what the store has

-- the newest copy of the segment's key has its length and its level, which is 0 of data
pub record HasCopy (store : Store) (seg : KindSegment) : Type 0 where
  pub copy : Copy
  pub copy_is : newest 0 store.held (segment_key seg.kind seg.segment) ≡ Some copy
  pub level_is : copy.place.level ≡ (pin_of seg).level
  pub length_is : copy.place.length ≡ length seg.segment.bytes

-- it has its length
abbrev pub HasLength : Store → KindSegment → Type 0
HasLength store seg =
    (copy : Copy) × (newest 0 store.held (segment_key seg.kind seg.segment) ≡ Some copy) × (copy.place.length ≡ length seg.segment.bytes)

-- some container has the key
abbrev pub HoldsKey : Store → List ℕ → Type 0
HoldsKey store key = (copy : Copy) × (newest 0 store.held key ≡ Some copy)

-- the index has this place for the key: that of its newest copy, unless it was forgotten
abbrev pub IndexHas : Store → (forgotten : List (List ℕ)) → List ℕ → Place → Type 0
IndexHas store forgotten key place = (option_map (λ c. c.place) (newest 0 store.held key) ≡ Some place) × ¬ (Contains forgotten key)

-- no container has the key, or it was forgotten: the index lacks it
abbrev pub IsLacked : Store → (forgotten : List (List ℕ)) → List ℕ → Type 0
IsLacked store forgotten key = (newest 0 store.held key ≡ None) ⊎ Contains forgotten key

-- the copy that the index has of a segment's key, if there is one, has its level and its length
abbrev pub Fits : Store → (forgotten : List (List ℕ)) → Kind → Segment → Type 0
Fits store forgotten kind s =
    IsLacked store forgotten (segment_key kind s) ⊎ HasCopy store (record { kind = kind; segment = s })

-- how offered bytes and held ones differ: by their lengths, or by the first byte that does
abbrev pub DifferBy : Difference → List ℕ → List ℕ → Type 0
DifferBy (Length mine other) offered held = (mine ≡ length offered) × (other ≡ length held) × (mine ≢ other)
DifferBy (Byte place mine other) offered held =
    (length offered ≡ length held) × (place < length offered) × (range 0 place offered ≡ range 0 place held)
    × (byte_at place offered ≡ mine) × (byte_at place held ≡ other) × (mine ≢ other)

-- the copy that the index has of a node's key is as long as other bytes of its digest
pub record IsClash (store : Store) (forgotten : List (List ℕ)) (seg : KindSegment) (key : List ℕ) (at : Difference) : Type 0 where
  pub kind : seg.kind ≡ Tree
  pub key_is : key ≡ segment_key seg.kind seg.segment
  pub copy : Copy
  pub copy_is : newest 0 store.held key ≡ Some copy
  pub there : ¬ (Contains forgotten key)
  pub held : List ℕ
  pub long : length held ≡ copy.place.length
  pub digest : sha256 held ≡ sha256 seg.segment.bytes
  pub differ : DifferBy at seg.segment.bytes held

-- the keys that are forgotten still once these were sealed
abbrev pub forgotten_beside : List (List ℕ) → List (List ℕ) → List (List ℕ)
forgotten_beside keys forgotten = filter (λ k. not (list_any (bytes_eq k) keys)) forgotten

-- ---- what is needed

module _ {V R : Type 0} (v : Values V R) where
  abbrev pub OneNeeds : List V → List ℕ → Type 0
  OneNeeds values key = (value : V) × (Contains values value × v.Needs value key)

  -- a name's value has the key
  abbrev pub NamesNeed : Found V → List ℕ → Type 0
  NamesNeed now key = OneNeeds (finite.values now.names) key

  -- an actor keeps it, or reads a value that has it
  abbrev pub ActorsNeed : List (Part V R) → List ℕ → Type 0
  ActorsNeed parts key = Contains (keys_kept parts) key ⊎ OneNeeds (values_read parts) key

  -- it was needed as the collection began, or since
  abbrev pub NeededSince : Collection V → List ℕ → Type 0
  NeededSince c key = OneNeeds c.values key ⊎ Contains c.keys key

  abbrev pub CollectionNeeds : Option (Collection V) → List ℕ → Type 0
  CollectionNeeds None key = ⊥
  CollectionNeeds (Some c) key = NeededSince c key

  -- anything needs it
  abbrev pub IsNeeded : Machine V R → List ℕ → Type 0
  IsNeeded m key = NamesNeed m.now key ⊎ ActorsNeed m.parts key ⊎ CollectionNeeds m.collection key
