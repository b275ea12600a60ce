-- What a container more makes of a disk, in terms of the tables.
use Rattle.ingest_steps.proofs.Prelude.{◌≡◌, ◌⊎◌, inl, inr, ℕ, ◌+◌, ◌<◌, ◌≤◌, List, [], ◌∷◌, length, Option, Some, None, refl, sym, ◌∙◌, ap, subst, arith, AllByRecursion, slot_at, DiskView, SteppedFrom, Ending, Done, Refused, Unread, Broken, Writes, Moves, leaves_weaker, moves_written, Kind, PlaceMap, Segment, Contents, segment_key, Files, Store, AreHeaders, HasFree, HasKey, newest, free_slots, first_free, ByteSet, IsIn, Stands, AnyKey, CanHold, with_sealed, HasNewest, as_many, Tables, Represents, Runs, HasSlotBeside, FitBeside, KeepsHeld, IsSlotOf, SealsContainer, SameButSlotOf, ChangesSlotAlone, sealing}
use Rattle.base_model.specs.Frames.{SameOutside}
use Rattle.disk_format.specs.declared.numbers.TheConstants.{SLOT_BYTES, MOST_SLOTS}
use Rattle.dd_disk.specs.Writes.{Written}
use Rattle.dd_disk.proofs.Moves.{stands_content}
use Rattle.dd_disk.proofs.Writes.{writes_weaker}
use Rattle.container_log.specs.Writing.{Seals, IsSealed}
use Rattle.store_model.specs.Slots.{HoldsContainer, last_id}
use Rattle.store_model.specs.Steps.{MaySeal, KeepsCopies}
use Rattle.store_model.proofs.FramedTrees.{unsealed}
use Rattle.store_model.proofs.Free.{first_free_closed, same_free}
use Rattle.store_model.proofs.SealedTrees.{IsNewestOf, all_by_fit, newest_of_copy, newest_of_none, newest_kept, newest_sealed, sealed}
use Rattle.store_model.proofs.Sound.{sound_of_right}
use Rattle.store_state.specs.Invariant.{IndexesFiles}
use Rattle.ingest_steps.specs.Sealing.{IsSlotFor}
use Rattle.ingest_steps.proofs.SlotFrame.{frame_of, slot_after, slot_settled}

pub same_content : (a b : List ℕ) → Some a ≡ Some b → a ≡ b
same_content a b is = cc

pub same_keeps : (store : Store) (given held : List ℕ) → held ≡ given → KeepsCopies AnyKey store given store held
same_keeps store given held is = λ key level bytes counts has. subst (HasNewest store.held key level bytes) (sym is) has

-- ---- in terms of the store

all_of_none : (P : List ℕ → Type 0) (kind : Kind) (store : Store) (image : List ℕ) (segments : List Segment)
    → AllByRecursion (λ s. newest 0 store.held (segment_key kind s) ≡ None) segments
    → AllByRecursion (IsNewestOf P kind store image image) segments
all_of_none P kind store image [] none = tt
all_of_none P kind store image (s ∷ ss) none = (newest_of_none P kind store image image s none.0, all_of_none P kind store image ss none.1)

all_of_copies : (P : List ℕ → Type 0) (kind : Kind) (store : Store) (image : List ℕ) (segments : List Segment)
    → AllByRecursion (λ s. HasNewest store.held (segment_key kind s) s.level s.bytes image) segments → AllByRecursion (IsNewestOf P kind store image image) segments
all_of_copies P kind store image [] each = tt
all_of_copies P kind store image (s ∷ ss) each = (newest_of_copy P kind store image s each.0, all_of_copies P kind store image ss each.1)

module _ {spares : ℕ} (S : List ℕ → Type 0) (index : PlaceMap) (id : ℕ) (filled : Contents) (store : Store) (files : Files) (given : List ℕ)
    (spare : spares < free_slots store.held) (above : last_id store.held < id)
    (may : AllByRecursion (MaySeal S filled.kind) filled.segments) (fit : FitBeside S index filled.kind filled.segments store given) where
  -- the newest copies of the segments' keys are the segments
  newests : Stands S store files given → AllByRecursion (IsNewestOf (HasKey index) filled.kind store given given) filled.segments
  newests stands = elim fit [
    | inl each ↦ all_by_fit S (HasKey index) filled.kind store files given given each.0 stands filled.segments may each.1
    | inr (inl none) ↦ all_of_none (HasKey index) filled.kind store given filled.segments none
    | inr (inr each) ↦ all_of_copies (HasKey index) filled.kind store given filled.segments each
  ]

  can : (c : List ℕ) → HoldsContainer c (first_free store.held) id filled.kind filled.segments → CanHold spares id filled.kind filled.segments store
  can c container = record { slot = spare; new_id = above; right = container.header.0 }

  -- once it is written
  once : IndexesFiles index files → (c : List ℕ) → Stands S store files given → IsSealed (first_free store.held) id filled.kind filled.segments given c
      → Stands S (with_sealed id filled.kind filled.segments store) files c
  once indexed c stands (same, container) =
      sealed S (HasKey index) id filled.kind filled.segments store files given given c stands stands same container (can c container) may (newests stands) indexed

  -- what was held is held
  pub kept_once : (c : List ℕ) → Stands S store files given → IsSealed (first_free store.held) id filled.kind filled.segments given c
      → KeepsCopies (HasKey index) store given (with_sealed id filled.kind filled.segments store) c
  kept_once c stands (same, container) =
      newest_kept S (HasKey index) id filled.kind filled.segments store files given c stands same container (can c container) may (newests stands)

  -- while it is written
  while : IndexesFiles index files → (d c : List ℕ) → Stands S store files given → Stands S store files d → Seals (first_free store.held) id filled.kind filled.segments given d c
      → Stands S store files c ⊎ Stands S (with_sealed id filled.kind filled.segments store) files c
  while indexed d c stands was (inl (same, still)) =
      inl (unsealed S store files d c was same (still (first_free_closed d store was.holds.right (omega (arith, spare)))))
  while indexed d c stands was (inr (same, inl closed)) = inl (unsealed S store files given c stands same closed)
  while indexed d c stands was (inr (same, inr container)) = inr (once indexed c stands (same, container))

  -- each of the segments is
  segments_once : (c : List ℕ) → IsSealed (first_free store.held) id filled.kind filled.segments given c
      → AllByRecursion (λ s. HasNewest (with_sealed id filled.kind filled.segments store).held (segment_key filled.kind s) s.level s.bytes c) filled.segments
  segments_once c (same, container) = newest_sealed id filled.kind filled.segments store c (omega (arith, spare)) above container

  holds_written : (e : Ending) (old new : DiskView) (held : List ℕ) → old.content ≡ Some given → new.content ≡ Some held → Stands S store files given
      → Written (IsSealed (first_free store.held) id filled.kind filled.segments) e old new → KeepsHeld index e id filled store given held
  holds_written Done old new held known is stands written =
      let c = written.0 given known in
      let whole = subst (IsSealed (first_free store.held) id filled.kind filled.segments given) (same_content c.0 held (sym c.1 ∙ is)) c.2 in
      (kept_once held stands whole, segments_once held whole)
  holds_written Refused old new held known is stands written = same_keeps store given held (same_content held given (sym is ∙ written.content_is ∙ known))
  holds_written Unread old new held known is stands written = same_keeps store given held (same_content held given (sym is ∙ written.content_is ∙ known))
  holds_written Broken old new held known is stands written = tt

  -- on a disk
  abbrev Steps : List ℕ → List ℕ → List ℕ → Type 0
  Steps = Seals (first_free store.held) id filled.kind filled.segments

  abbrev Whole : List ℕ → List ℕ → Type 0
  Whole = IsSealed (first_free store.held) id filled.kind filled.segments

  pub moves_sealed : IndexesFiles index files → (e : Ending) (old new : DiskView) → old.content ≡ Some given → Writes Steps Whole e old new
      → Moves (sealing S id filled store files) e old new
  moves_sealed indexed e old new known writes =
      let P : List ℕ → Type 0 = Stands S store files in
      let Q : List ℕ → Type 0 = Stands S (with_sealed id filled.kind filled.segments store) files in
      let here : (g : List ℕ) → old.content ≡ Some g → g ≡ given = λ g is. same_content g given (sym is ∙ known) in
      moves_written P (λ c. P c ⊎ Q c) Q (λ g d c. (g ≡ given) × Steps g d c) (λ g c. (g ≡ given) × Whole g c) old new
      (λ g c stands is. once indexed c (subst P is.0 stands) (subst (λ (x : List ℕ). Whole x c) is.0 is.1)) e (λ c stands. inl stands)
      (λ g d c stands was is. while indexed d c (subst P is.0 stands) was (subst (λ (x : List ℕ). Steps x d c) is.0 is.1))
      (writes_weaker Steps (λ g d c. (g ≡ given) × Steps g d c) Whole (λ g c. (g ≡ given) × Whole g c) old new
      (λ g c is whole. (here g is, whole)) e (λ g d c is image step. (here g is, step)) writes)

-- ---- in terms of the tables

-- the slot lies on the disk
pub slot_fits : {spares : ℕ} (size : ℕ) (known : Option PlaceMap) (t : Tables) (slot : ℕ) → IsSlotFor spares t slot → Runs size known t → slot_at slot + SLOT_BYTES ≤ size
slot_fits size known t slot gives runs =
    omega (arith, ((gives size known).store_has runs.store runs.represents runs.valid runs.has_free).within, runs.valid.size_is)

pub slot_within : {spares : ℕ} (size : ℕ) (known : Option PlaceMap) (t : Tables) (slot : ℕ) → IsSlotFor spares t slot → Runs size known t → slot < t.slots
slot_within size known t slot gives runs =
    omega (arith, ((gives size known).store_has runs.store runs.represents runs.valid runs.has_free).within, runs.represents.slots_are)

-- there are at most as many slots as a disk may have
pub few_slots : (size : ℕ) (known : Option PlaceMap) (t : Tables) → Runs size known t → length t.held.ids.items ≤ MOST_SLOTS
few_slots size known t runs =
    omega (arith, ap length runs.represents.slots_hold.ids_are, as_many runs.store.held, runs.valid.many, runs.valid.count.1)

-- a slot is free in each store that the tables of a running store represent
pub free_by : (size : ℕ) (known : Option PlaceMap) (t : Tables) → Runs size known t → (store : Store) (other : Option PlaceMap) → Represents store other t → AreHeaders store.held
    → HasFree store.held
free_by size known t runs store other keeps headers =
    omega (arith, runs.has_free, same_free runs.store.held store.held runs.valid.headers headers (sym runs.represents.slots_hold.ids_are ∙ keeps.slots_hold.ids_are))

-- that of a store that the content stands for
pub slot_in : {spares : ℕ} (size : ℕ) (one : Option PlaceMap) (t : Tables) (slot : ℕ) → Runs size one t → HasSlotBeside spares t slot
    → (among : ByteSet) (store : Store) (known : Option PlaceMap) (files : Files) (given : List ℕ)
    → Represents store known t → Stands (IsIn among) store files given → IsSlotOf spares slot store
slot_in size one t slot runs has among store known files given keeps stands =
    let valid = sound_of_right (length given) given store refl stands.holds.right in
    (has.slot_is (length given) known).store_has store keeps valid (free_by size one t runs store known keeps valid.headers)

-- the container that is written is the one that the store is to have
pub seals_container : {spares : ℕ} (size : ℕ) (one : Option PlaceMap) (t : Tables) (slot id : ℕ) (filled : Contents) → Runs size one t → HasSlotBeside spares t slot
    → id ≡ t.held.last_id + 1 → (e : Ending) (old new : DiskView)
    → Writes (Seals slot id filled.kind filled.segments) (IsSealed slot id filled.kind filled.segments) e old new → SealsContainer t id filled e old new
seals_container size one t slot id filled runs has next e old new writes = record {
  moves = λ among store known index files given keeps content may indexed fit stands.
      let holds : Stands (IsIn among) store files given = stands_content (Stands (IsIn among) store files) old stands given content in
      let at = slot_in size one t slot runs has among store known files given keeps holds in
      moves_sealed (IsIn among) index id filled store files given at.spare (omega (arith, next, keeps.slots_hold.last_id_is)) may fit indexed e old new content
      (of_slot at.first) stands;
  holds = λ among store known index files given held keeps content now holds may fit.
      let at = slot_in size one t slot runs has among store known files given keeps holds in
      holds_written (IsIn among) index id filled store files given at.spare (omega (arith, next, keeps.slots_hold.last_id_is)) may fit e old new held content now holds
      (of_slot at.first).written;
}
  where
    of_slot : {first : ℕ} → slot ≡ first → Writes (Seals first id filled.kind filled.segments) (IsSealed first id filled.kind filled.segments) e old new
    of_slot is = subst (λ (i : ℕ). Writes (Seals i id filled.kind filled.segments) (IsSealed i id filled.kind filled.segments) e old new) is writes

-- ---- the bytes

module _ (slots slot id : ℕ) (filled : Contents) (within : slot < slots) where
  slot_alone : (d c : List ℕ) → SameOutside (slot_at slot) SLOT_BYTES d c → SameButSlotOf slots slot d c
  slot_alone d c same = record {
    size = same.size;
    before = λ p n below. same.before p n below;
    after = λ p n above below. same.after p n (omega (arith, above));
  }

  stepped : (old : DiskView) (given d c : List ℕ) → old.content ≡ Some given → old.images d → Seals slot id filled.kind filled.segments given d c
      → SteppedFrom (SameButSlotOf slots slot) old c
  stepped old given d c known image (inl is) = inr (d, image, slot_alone d c is.0)
  stepped old given d c known image (inr is) = inr (given, old.as_read given known, slot_alone given c is.0)

  pub changes_slot : (e : Ending) (old new : DiskView) → Writes (Seals slot id filled.kind filled.segments) (IsSealed slot id filled.kind filled.segments) e old new
      → ChangesSlotAlone slots slot old new
  changes_slot e old new writes = frame_of slots (SameButSlotOf slots slot) (slot_settled slots slot within) (slot_after slots slot within) old new writes.later (λ given known.
      leaves_weaker (SteppedFrom (Seals slot id filled.kind filled.segments given) old) (SteppedFrom (SameButSlotOf slots slot) old) old new (λ c from. elim from [
        | inl image ↦ inl image
        | inr step ↦ stepped old given step.0 c known step.1 step.2
      ]) (writes.steps given known))
