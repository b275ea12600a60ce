-- The steps of a store, and what they make of it (docs/MODEL.md, 'Steps').
use Rattle.std.specs.Prelude.{◌≡◌, ℕ, suc, ◌+◌, ◌-◌, ◌^◌, ◌<◌, ◌≤◌, Bool, true, nat_lt, if◌then◌else◌, List, [], ◌∷◌, ◌++◌, length, slice_get, Option, Some}
use Rattle.disk_format.specs.Cells.{Change, RecordValue, IsName, IsChange}
use Rattle.disk_format.specs.Cells.Change.{Put as PutRoot, Delete as DeleteName}
use Rattle.disk_format.specs.Layout.{half_cells}
use Rattle.disk_format.specs.declared.numbers.TheConstants.{RESERVE}
use Rattle.container_meta.specs.declared.kind.Kind.{Kind}
use Rattle.container_meta.specs.declared.kind.Kind.TheVariants as kinds
use Rattle.container_meta.specs.Segments.{Segment, segment_key}
use Rattle.container_meta.specs.declared.place.Place.{Place}
use Rattle.container_meta.specs.Spelling.{HeaderValue, IsHeader, header_of}
use Rattle.namespace.specs.Names.{HasPlace}
use Rattle.namespace.specs.Puts.{puts_of}
use Rattle.store_model.specs.Files.{Command, Put, Delete}
use Rattle.store_model.specs.Freeing.{with_freed}
use Rattle.store_model.specs.Image.{Store, names_of, last_sequence}
use Rattle.store_model.specs.Journal.{selector_after}
use Rattle.store_model.specs.Slots.{Copy, newest, last_id, free_slots, first_free, with_slot}
use Rattle.store_model.specs.Standing.{IsOfKind}
use Rattle.store_model.specs.Collisions.{IsAmong}
use Rattle.store_model.specs.Trees.{HasNewest, HoldsTree, bytes_at, file_tree, root_of}

-- ---- a container is sealed

-- the store with one more container, under this id: in the free slot of least number
abbrev pub with_sealed : ℕ → Kind → List Segment → Store → Store
with_sealed id kind segments store =
    record store { held = with_slot (first_free store.held) (header_of id kind segments) store.held }

-- There is a slot for it, with so many more to spare; its id is above all that are there, and its header is right.
pub record CanHold (spare : ℕ) (id : ℕ) (kind : Kind) (segments : List Segment) (store : Store) : Type 0 where
  pub slot : spare < free_slots store.held
  pub new_id : last_id store.held < id
  pub right : IsHeader (header_of id kind segments)

-- one that an actor fills leaves the slots of the reserve
abbrev pub CanSeal : ℕ → Kind → List Segment → Store → Type 0
CanSeal id kind segments store = CanHold RESERVE id kind segments store

-- one that is filled with copies, which a collection writes, leaves one slot
abbrev pub CanFlush : ℕ → Kind → List Segment → Store → Type 0
CanFlush id kind segments store = CanHold 1 id kind segments store

-- a segment that may be sealed: it is of its kind, and, as data, among S
pub record MaySeal (S : List ℕ → Type 0) (kind : Kind) (s : Segment) : Type 0 where
  pub of_kind : IsOfKind kind s.level s.bytes
  pub among : IsAmong S kind s.bytes

-- a segment and a copy of its key: data of one length, or the same node
abbrev pub FitsCopy : Kind → Segment → Place → List ℕ → Type 0
FitsCopy kinds.Leaf s place image = place.length ≡ length s.bytes
FitsCopy kinds.Tree s place image = bytes_at place image ≡ s.bytes

-- the newest copy of the segment's key fits it, where there is one; of keys of which P holds, those that count
abbrev pub FitsHeld : (List ℕ → Type 0) → Kind → Store → List ℕ → Segment → Type 0
FitsHeld P kind store image s =
    (copy : Copy) → P (segment_key kind s) → newest 0 store.held (segment_key kind s) ≡ Some copy → FitsCopy kind s copy.place image

-- ---- a cell for a record: a free one, or one that a checkpoint makes

-- the half that counts has a free cell
abbrev pub has_cell : Store → Bool
has_cell store = nat_lt (length store.records) half_cells

-- it has so many, so that so many records need no checkpoint
abbrev pub HasCellsFor : Store → ℕ → Type 0
HasCellsFor store count = length store.records + count ≤ half_cells

-- the store after a checkpoint: the other half counts, with the puts of the names, by their numbers
abbrev pub with_checkpoint : Store → Store
with_checkpoint store = record store {
  selector = selector_after store.selector.half store.selector.generation (last_sequence store);
  other_open = true;
  records = puts_of (names_of store);
}

-- the store with a free cell: it as it is, or where it has none after a checkpoint
abbrev pub with_cell : Store → Store
with_cell store = record store {
  selector = if has_cell store then store.selector else (with_checkpoint store).selector;
  other_open = if has_cell store then store.other_open else (with_checkpoint store).other_open;
  records = if has_cell store then store.records else (with_checkpoint store).records;
}

-- a checkpoint's generation is a number, where one is made
abbrev pub CanRise : Store → Type 0
CanRise store = half_cells ≤ length store.records → store.selector.generation < 2 ^ 64 - 1

-- the store, the gate of whose other selector is open or not
abbrev pub with_other : Bool → Store → Store
with_other is_open store = record store { other_open = is_open }

-- ---- a name is given a root, or taken away

abbrev pub record_of : List ℕ → Change → Store → RecordValue
record_of name change store = record { sequence = suc (last_sequence store); name = name; change = change }

-- the store with its record after the others
abbrev pub appended : List ℕ → Change → Store → Store
appended name change store = record store { records = store.records ++ record_of name change store ∷ [] }

abbrev pub with_change : List ℕ → Change → Store → Store
with_change name change store = appended name change (with_cell store)

-- The name is good; it has room for a root, or is there to be taken away; a cell is free or can be made, and a number is left.
pub record CanChangeName (name : List ℕ) (change : Change) (store : Store) : Type 0 where
  pub named : IsName name
  pub place : HasPlace (names_of store) name change
  pub rise : CanRise store
  pub number : last_sequence store < 2 ^ 64 - 1

-- what a command changes, of which name
abbrev pub name_of : Command → List ℕ
name_of (Put name bytes) = name
name_of (Delete name) = name

abbrev pub change_of : Command → Change
change_of (Put name bytes) = PutRoot (root_of bytes)
change_of (Delete name) = DeleteName

-- the image has what a command puts
abbrev pub HoldsFor : Command → List (Option HeaderValue) → List ℕ → Type 0
HoldsFor (Put name bytes) held image = HoldsTree held image (file_tree bytes)
HoldsFor (Delete name) held image = Unit {0}

-- ---- a container is given back

-- one stands in the slot
abbrev pub CanFree : ℕ → Store → Type 0
CanFree slot store = (h : HeaderValue) × (slice_get store.held slot ≡ Some (Some h))

-- ---- each of them

-- what a step changes of a store
pub data StoreChange : Type 0 where
  SealContainer : (id : ℕ) → (kind : Kind) → (segments : List Segment) → StoreChange
  ChangeName : (name : List ℕ) → (change : Change) → StoreChange
  FlushContainer : (id : ℕ) → (kind : Kind) → (segments : List Segment) → StoreChange
  FreeContainer : (slot : ℕ) → StoreChange

-- the store after a change
abbrev pub changed : StoreChange → Store → Store
changed (SealContainer id kind segments) store = with_sealed id kind segments store
changed (ChangeName name change) store = with_change name change store
changed (FlushContainer id kind segments) store = with_sealed id kind segments store
changed (FreeContainer slot) store = with_freed slot store

-- it can be made
abbrev pub CanChange : StoreChange → Store → Type 0
CanChange (SealContainer id kind segments) store = CanSeal id kind segments store
CanChange (ChangeName name change) store = CanChangeName name change store × IsChange change
CanChange (FlushContainer id kind segments) store = CanFlush id kind segments store
CanChange (FreeContainer slot) store = CanFree slot store

-- every key
abbrev pub AnyKey : List ℕ → Type 0
AnyKey key = Unit {0}

-- The newest copies of an image that is one store are those of an image that is another, later one: of keys of which P holds, those
-- that count.
abbrev pub KeepsCopies : (List ℕ → Type 0) → Store → List ℕ → Store → List ℕ → Type 0
KeepsCopies P s old t new =
    (key : List ℕ) (level : ℕ) (bytes : List ℕ) → P key → HasNewest s.held key level bytes old → HasNewest t.held key level bytes new
