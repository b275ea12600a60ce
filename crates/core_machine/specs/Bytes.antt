-- What a step does to the bytes of a disk that tells its content: what it compared with, and what it may have changed (docs/MODEL.md, 'The
-- running store').
use Rattle.std.specs.Prelude.{◌≡◌, ◌⊎◌, ◌+◌, ◌-◌, ◌<◌, ◌≤◌, ℕ, List, [], ◌∷◌, length, map, slice_get, take, Contains, Option, Some, None, Result, Ok, Err}
use Rattle.std.specs.List.{AllByRecursion}
use Rattle.actor_parts.specs.Segments.{pin_of}
use Rattle.base_model.specs.Bytes.{range}
use Rattle.base_model.specs.Known.{Known, KnownWith}
use Rattle.sha2.specs.Sha256.{sha256}
use Rattle.container_meta.specs.declared.kind.Kind.TheVariants.{Tree}
use Rattle.container_meta.specs.Segments.{Contents, KindSegment, Segment, segment_key}
use Rattle.disk_format.specs.declared.numbers.TheConstants.{CELL_BYTES, FIRST_HALF, SLOT_BYTES}
use Rattle.disk_format.specs.Layout.{cell_at, half_cells, slot_at}
use Rattle.refusals.specs.declared.refusal.Difference.{Difference}
use Rattle.refusals.specs.declared.refusal.Refusal.{Refusal}
use Rattle.refusals.specs.declared.refusal.Refusal.TheVariants.{Clash, DiskWrite, NotCollecting, Stopped as IsStopped}
use Rattle.store_model.specs.Freeing.{FreesSome, FreesTo, IsPartlyFreed, SameButGates}
use Rattle.store_model.specs.Image.{Store, Encodes}
use Rattle.store_model.specs.Slots.{Copy, first_free, free_slots, newest}
use Rattle.store_model.specs.Steps.{FreeContainer, HasCellsFor, with_sealed}
use Rattle.store_model.specs.Trees.{HasNewest, bytes_at}
use Rattle.store_machine.specs.Asked.{Asked}
use Rattle.store_machine.specs.Asked as asked
use Rattle.store_machine.specs.ByMap.{FileMachine}
use Rattle.store_machine.specs.Collecting.{Makes, stores_without_some}
use Rattle.store_machine.specs.Done.{Done}
use Rattle.store_machine.specs.Done as done
use Rattle.store_machine.specs.Machine.{Found, Stepped, Stopped}
use Rattle.store_machine.specs.Needs.{NamesNeed, DifferBy}
use Rattle.store_machine.specs.Offers.{AnyByRecursion, placed, sealed_in}
use Rattle.store_machine.specs.Opening.{MayBeFound}
use Rattle.store_machine.specs.Values.{of_files}

-- P is so of the store that the content is: there is one
abbrev pub OfStore : List ℕ → (Store → Type 0) → Type 0
OfStore content P = (store : Store) × (Encodes content store × P store)

-- ---- what it compared with

-- the newest copy of the segment's key has its bytes and its level, which is 0 of data
abbrev pub Holds : List ℕ → KindSegment → Type 0
Holds content seg =
    OfStore content (λ store. HasNewest store.held (segment_key seg.kind seg.segment) (pin_of seg).level seg.segment.bytes content)

abbrev pub AllHeld : List ℕ → Contents → Type 0
AllHeld content filled = AllByRecursion (λ s. Holds content (record { kind = filled.kind; segment = s })) filled.segments

-- the newest copy of a node's key is another node, of the same SHA-256
pub record ClashesWith (seg : KindSegment) (content key : List ℕ) (at : Difference) : Type 0 where
  pub kind : seg.kind ≡ Tree
  pub key_is : key ≡ segment_key seg.kind seg.segment
  pub store : Store
  pub right : Encodes content store
  pub copy : Copy
  pub copy_is : newest 0 store.held key ≡ Some copy
  pub digest : sha256 (bytes_at copy.place content) ≡ sha256 seg.segment.bytes
  pub differ : DifferBy at seg.segment.bytes (bytes_at copy.place content)

-- one of its segments does
abbrev pub OneClashes : Contents → List ℕ → List ℕ → Difference → Type 0
OneClashes filled content key at = (index : ℕ) × ((s : Segment) × ((slice_get filled.segments index ≡ Some s)
    × ClashesWith (record { kind = filled.kind; segment = s }) content key at))

-- ---- what it may have changed

-- but for the record cells of which P holds, the selectors and halves of the journal are as they were
pub record SameJournal (P : ℕ → ℕ → Type 0) (old new : List ℕ) : Type 0 where
  pub head : range 0 FIRST_HALF new ≡ range 0 FIRST_HALF old
  pub cells : (half cell : ℕ) → half ≤ 1 → cell < half_cells → ¬ (P half cell)
      → range (cell_at half cell) CELL_BYTES new ≡ range (cell_at half cell) CELL_BYTES old

-- But for the record cells of which P holds, and the slots of which Q does, all before the end of the slots is as it was; of the
-- journal, where no checkpoint was made. What lies after the slots counts for nothing.
pub record SameBut (NoCheckpoint : Type 0) (P : ℕ → ℕ → Type 0) (Q : ℕ → Type 0) (slots : ℕ) (old new : List ℕ) : Type 0 where
  pub size_is : length new ≡ length old
  pub format : range 0 CELL_BYTES new ≡ range 0 CELL_BYTES old
  pub journal : NoCheckpoint → SameJournal P old new
  pub slots_are : (slot : ℕ) → slot < slots → ¬ (Q slot) → range (slot_at slot) SLOT_BYTES new ≡ range (slot_at slot) SLOT_BYTES old

-- all before the end of the slots is as it was
abbrev pub SameStore : List ℕ → List ℕ → Type 0
SameStore old new = OfStore old (λ store. SameBut (Unit {0}) (λ half cell. ⊥) (λ slot. ⊥) store.slots old new)

-- or all but the closed slot of least number
abbrev pub SameButSlot : List ℕ → List ℕ → Type 0
SameButSlot old new =
    OfStore old (λ store. SameBut (Unit {0}) (λ half cell. ⊥) (λ slot. slot ≡ first_free store.held) store.slots old new)

-- or all but those that these containers are for, each the closed slot of least number that the ones before it leave
abbrev pub SameButSlots : ℕ → List Contents → List ℕ → List ℕ → Type 0
SameButSlots last cs old new = OfStore old (λ store. SameBut (Unit {0}) (λ half cell. ⊥)
    (λ slot. AnyByRecursion (λ p. slot ≡ p.slot) (placed last cs store)) store.slots old new)

-- or all but the cell after the records; of the journal, where that is one of its half
abbrev pub SameButRecord : List ℕ → List ℕ → Type 0
SameButRecord old new = OfStore old (λ store. SameBut (HasCellsFor store 1)
    (λ half cell. (half ≡ store.selector.half) × (cell ≡ length store.records)) (λ slot. ⊥) store.slots old new)

-- or all but the gates of these slots
pub record OnlyGates (gone : List ℕ) (slots : ℕ) (old new : List ℕ) : Type 0 where
  pub rest : SameBut (Unit {0}) (λ half cell. ⊥) (λ other. Contains gone other) slots old new
  pub bodies : (slot : ℕ) → Contains gone slot
      → range (slot_at slot + 1) (SLOT_BYTES - 1) new ≡ range (slot_at slot + 1) (SLOT_BYTES - 1) old

-- ---- a step of a collection

-- One that was done changed no store; or it wrote copies of what was held; or it gave containers back, by their gates alone.
abbrev pub Sweeps : FileMachine → FileMachine → List ℕ → List ℕ → Type 0
Sweeps m n old new = ((n.store ≡ m.store) × SameStore old new)
    ⊎ ((id : ℕ) × ((filled : Contents) × ((n.store ≡ with_sealed id filled.kind filled.segments m.store)
    × SameButSlot old new × AllHeld old filled × AllHeld new filled)))
    ⊎ ((gone : List ℕ) × (Makes (map FreeContainer gone) m.store n.store × OfStore old (λ store. OnlyGates gone store.slots old new)))

-- One that broke off, by the stores that may stand beside that of before: none, and all is as it was; or it has a container more, and all
-- is but the slot for that; or they have slots closed, and all is but their gates.
abbrev pub BreaksOff : FileMachine → FileMachine → List ℕ → List ℕ → Type 0
BreaksOff m n old new = ((n.state ≡ Stopped None []) × SameStore old new)
    ⊎ ((id : ℕ) × ((filled : Contents) × ((n.state ≡ Stopped None (with_sealed id filled.kind filled.segments m.store ∷ []))
    × (1 < free_slots m.store.held) × SameButSlot old new)))
    ⊎ ((gone : List ℕ) × ((n.state ≡ Stopped None (stores_without_some gone m.store))
    × OfStore old (λ store. OnlyGates gone store.slots old new)))

-- ---- an opening

-- Room was made for these names, as far as it had to be and could be: containers were given back, each by its gate alone; and the store is
-- this.
abbrev pub MadeRoom : Found (List ℕ) → Store → List ℕ → List ℕ → Type 0
MadeRoom found after old new = OfStore old (λ store. (freed : List ℕ)
    × (FreesTo (NamesNeed of_files found) freed store after × SameButGates freed old new × Encodes new after))

-- it was begun: some of them were
abbrev pub BeganRoom : Found (List ℕ) → List ℕ → List ℕ → Type 0
BeganRoom found old new =
    OfStore old (λ store. (freed : List ℕ) × (FreesSome (NamesNeed of_files found) freed store × IsPartlyFreed store freed old new))

-- an opening that was refused wrote nothing; or room was made before, or begun to be made, where a write failed
abbrev pub LeavesUnopened : Refusal → FileMachine → FileMachine → List ℕ → List ℕ → Type 0
LeavesUnopened refusal m n old new = ((n ≡ m) × (new ≡ old))
    ⊎ ((found : Found (List ℕ)) × (MayBeFound of_files m.state m.now found
    × (((after : Store) × MadeRoom found after old new) ⊎ ((refusal ≡ DiskWrite) × BeganRoom found old new))))

-- ---- each step

-- what a step that was asked for and answered so did
abbrev pub BytesOf : Asked (List ℕ) → Result Done Refusal → FileMachine → FileMachine → List ℕ → List ℕ → Type 0
BytesOf (asked.Claim seg) (Ok done.Held) m n old new = (new ≡ old) × Holds old seg
BytesOf (asked.Claim seg) (Err (Clash key at)) m n old new = (new ≡ old) × ClashesWith seg old key at
BytesOf (asked.Seal offered) (Ok (done.Sealed id count)) m n old new =
    SameButSlots m.last_id (take count offered) old new × AllByRecursion (AllHeld new) (take count offered)
BytesOf (asked.Seal offered) (Err (Clash key at)) m n old new =
    SameStore old new × AnyByRecursion (λ filled. OneClashes filled old key at) (sealed_in offered m)
BytesOf (asked.Seal offered) (Err DiskWrite) m n old new = SameButSlots m.last_id (sealed_in offered m) old new
BytesOf (asked.Seal offered) (Err (IsStopped at)) m n old new = new ≡ old
BytesOf (asked.Seal offered) (Err refusal) m n old new = SameStore old new
BytesOf (asked.Commit name value) (Ok answer) m n old new = SameButRecord old new
BytesOf (asked.Commit name value) (Err DiskWrite) m n old new = SameButRecord old new
BytesOf (asked.Delete name) (Ok answer) m n old new = SameButRecord old new
BytesOf (asked.Delete name) (Err DiskWrite) m n old new = SameButRecord old new
BytesOf asked.GcStep (Ok (done.Did phase)) m n old new = Sweeps m n old new
BytesOf asked.GcStep (Err DiskWrite) m n old new = BreaksOff m n old new
BytesOf asked.GcStep (Err NotCollecting) m n old new = new ≡ old
BytesOf asked.GcStep (Err (IsStopped at)) m n old new = new ≡ old
BytesOf asked.GcStep (Err refusal) m n old new = SameStore old new
BytesOf asked.Reopen (Ok answer) m n old new = MadeRoom n.now n.store old new
BytesOf asked.Reopen (Err refusal) m n old new = LeavesUnopened refusal m n old new
BytesOf step answer m n old new = new ≡ old

-- So it is where the content was known, and it is known still.
abbrev pub ChangesBytes : Stepped (List ℕ) → FileMachine → FileMachine → Option (List ℕ) → Option (List ℕ) → Type 0
ChangesBytes s m n was now = Known was (λ old. KnownWith now (BytesOf s.asked s.answer m n old))
