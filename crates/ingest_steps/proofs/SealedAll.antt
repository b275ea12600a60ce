-- What several containers of data make of a disk, in terms of the tables.
use Rattle.ingest_steps.proofs.Prelude.{◌≡◌, inl, inr, ℕ, ◌+◌, ◌<◌, ◌≤◌, List, [], ◌∷◌, length, Option, Some, refl, sym, ◌∙◌, ap, subst, arith, AllByRecursion, DiskView, SteppedFrom, Ending, Done, Refused, Unread, Broken, Writes, Moves, Arrives, leaves_weaker, Kind, Leaf, PlaceMap, Segment, Contents, segment_key, Files, Store, free_slots, first_free, ByteSet, HasNoCollisions, IsIn, Stands, AnyKey, with_sealed, HasNewest, Tables, Represents, Runs}
use Rattle.std.proofs.Common.{Bool, true, false, slice_get}
use Rattle.disk_format.specs.Layout.{size_of}
use Rattle.std.specs.Prelude.{◌&&◌, nat_le}
use Rattle.std.proofs.lemmas.Bool.{le-leb}
use Rattle.container_meta.specs.Format.{is_id}
use Rattle.disk_format.specs.declared.numbers.TheConstants.{LAST_ID}
use Rattle.dd_disk.specs.Moves.{step}
use Rattle.dd_disk.specs.Writes.{Written}
use Rattle.dd_disk.specs.Wrote.{SameIn}
use Rattle.dd_disk.proofs.Moves.{stands_content}
use Rattle.container_log.specs.Many.{AreSlots, AreSealed, NoSlot, SealsAll, placed}
use Rattle.store_model.specs.Slots.{HoldsContainer, last_id}
use Rattle.store_model.specs.Steps.{KeepsCopies}
use Rattle.store_model.specs.Together.{Placed, AreFirstFree, AreLeftSo, CanPlace, IdsRise, IsLeft, IsThere, MayPlace, StandsSome, with_all, with_placed, with_some}
use Rattle.store_model.proofs.Filled.{free_less, last_new}
use Rattle.store_model.proofs.Once.{store_once}
use Rattle.store_model.proofs.SealedTrees.{newest_sealed}
use Rattle.store_model.proofs.Sound.{sound_of_right}
use Rattle.store_model.proofs.Together.{all_sealed, can_place, some_sealed}
use Rattle.container_meta.specs.Spelling.{header_of}
use Rattle.store_state.specs.Tables.{OfEach}
use Rattle.ingest_steps.specs.Offering.{AreSlotsOf, HasSlots, in_free}
use Rattle.ingest_steps.specs.SealingAll.{AreRight, ChangesSlotsAlone, KeepsAllHeld, MayAllSeal, SameButSlotsOf, SealsData}
use Rattle.ingest_steps.proofs.PlacedFree.{can_in_free, free_first, in_free_few, in_free_rise, may_place, placed_in_free, slot_below, slots_on_disk_are}
use Rattle.ingest_steps.proofs.Sealed.{free_by, same_content, same_keeps}
use Rattle.ingest_steps.proofs.SlotFrame.{frame_of, slots_after, slots_settled}

-- ---- in terms of the store

there_left : (ps : List Placed) (old new : List ℕ) → AreLeftSo IsThere ps old new → AreLeftSo IsLeft ps old new
there_left [] old new left = left
there_left (p ∷ ps) old new left = (left.0, left.1, inr left.2, there_left ps left.0 new left.3)

module _ (S : List ℕ → Type 0) (files : Files) (distinct : HasNoCollisions S) where
  -- what was held is held, once all stand
  all_keep : (ps : List Placed) (last : ℕ) (store : Store) (image new : List ℕ) → MayPlace S ps → last_id store.held ≤ last → CanPlace last ps store
      → Stands S store files image → AreLeftSo IsThere ps image new → KeepsCopies AnyKey store image (with_all ps store) new
  all_keep ps last store image new may low can stands left =
      let some = some_sealed S files distinct ps last store image new may low can stands (there_left ps image new left) in
      let all = all_sealed S files distinct ps last store image new may low can stands left in
      subst (λ (s : Store). KeepsCopies AnyKey store image s new) (store_once new (with_some some.0 ps store) (with_all ps store) some.1.holds.right all.holds.right) some.2

  abbrev AllNewest : Store → List ℕ → List Placed → Type 0
  AllNewest store new ps = AllByRecursion (λ p. AllByRecursion (λ s. HasNewest store.held (segment_key p.kind s) s.level s.bytes new) p.segments) ps

  each_on : (kind : Kind) (s t : Store) (mid new : List ℕ) (ss : List Segment) → KeepsCopies AnyKey s mid t new
      → AllByRecursion (λ x. HasNewest s.held (segment_key kind x) x.level x.bytes mid) ss → AllByRecursion (λ x. HasNewest t.held (segment_key kind x) x.level x.bytes new) ss
  each_on kind s t mid new [] keeps all = tt
  each_on kind s t mid new (x ∷ xs) keeps all = (keeps (segment_key kind x) x.level x.bytes tt all.0, each_on kind s t mid new xs keeps all.1)

  -- and so is each of their segments
  all_newest : (ps : List Placed) (last : ℕ) (store : Store) (image new : List ℕ) → MayPlace S ps → last_id store.held ≤ last → AreFirstFree ps store → IdsRise last ps
      → length ps ≤ free_slots store.held → Stands S store files image → AreLeftSo IsThere ps image new → AllNewest (with_all ps store) new ps
  all_newest [] last store image new may low first ids room stands left = tt
  all_newest (p ∷ ps) last store image new may low first ids room stands left =
      let some : 1 ≤ free_slots store.held = omega (arith, room) in
      let above : last_id store.held < p.id = omega (arith, low, ids.0) in
      let can = can_place last (p ∷ ps) store first ids room in
      let one : Stands S (with_placed p store) files left.0 =
      all_sealed S files distinct (p ∷ []) last store image left.0 (may.0, tt) low (can.0, can.1, can.2, tt, tt) stands (left.0, left.1, left.2, refl) in
      let at_first : HoldsContainer left.0 (first_free store.held) p.id p.kind p.segments =
      subst (λ (n : ℕ). HoldsContainer left.0 n p.id p.kind p.segments) first.0 left.2 in
      let sealed_is : with_sealed p.id p.kind p.segments store ≡ with_placed p store =
      ap (λ (n : ℕ). with_placed (record { slot = n; id = p.id; kind = p.kind; segments = p.segments }) store) (sym first.0) in
      let here : AllByRecursion (λ s. HasNewest (with_placed p store).held (segment_key p.kind s) s.level s.bytes left.0) p.segments =
      subst (λ (t : Store). AllByRecursion (λ s. HasNewest t.held (segment_key p.kind s) s.level s.bytes left.0) p.segments) sealed_is
      (newest_sealed p.id p.kind p.segments store left.0 some above at_first) in
      let last_is : last_id (with_placed p store).held ≤ p.id =
      subst (λ (t : Store). last_id t.held ≤ p.id) sealed_is (omega (arith, last_new (header_of p.id p.kind p.segments) store.held some above)) in
      let room_left : length ps ≤ free_slots (with_placed p store).held =
      subst (λ (t : Store). length ps ≤ free_slots t.held) sealed_is (omega (arith, room, free_less (header_of p.id p.kind p.segments) store.held some)) in
      let can_rest = can_place p.id ps (with_placed p store) first.1 ids.2 room_left in (
        each_on p.kind (with_placed p store) (with_all ps (with_placed p store)) left.0 new p.segments
            (all_keep ps p.id (with_placed p store) left.0 new may.1 last_is can_rest one left.3) here,
        all_newest ps p.id (with_placed p store) left.0 new may.1 last_is first.1 ids.2 room_left one left.3,
      )

-- ---- in terms of the tables

-- what is so of each store that the tables of a running store represent is so of one that an image stands for
pub of_standing : {P : Store → Type 0} (size : ℕ) (one : Option PlaceMap) (t : Tables) → Runs size one t → ((n : ℕ) (known : Option PlaceMap) → OfEach n known t P)
    → (among : ByteSet) (store : Store) (known : Option PlaceMap) (files : Files) (given : List ℕ)
    → Represents store known t → Stands (IsIn among) store files given → P store
of_standing size one t runs each among store known files given keeps stands =
    let valid = sound_of_right (length given) given store refl stands.holds.right in
    (each (length given) known).store_has store keeps valid (free_by size one t runs store known keeps valid.headers)

-- the slots lie on the disk, one past the other, and the ids are such
module _ (size : ℕ) (one : Option PlaceMap) (t : Tables) (runs : Runs size one t) (offered : ℕ) (slots : List ℕ) (has : HasSlots t offered slots) where
  here : AreSlotsOf t offered slots runs.store
  here = (has size one).store_has runs.store runs.represents runs.valid runs.has_free

  pub slots_lie : AreSlots size slots
  slots_lie = slots_on_disk_are size slots runs.store here.first (omega (arith, runs.valid.size_is, runs.valid.many))

  pub places_lie : (i slot : ℕ) → slice_get slots i ≡ Some slot → size_of (slot + 1) ≤ size
  places_lie i slot there = omega (arith, slot_below slots runs.store here.first i slot there, runs.valid.size_is, runs.valid.many)

  pub id_below : (id : ℕ) → id ≡ t.held.last_id + 1 → (i : ℕ) → i < length slots → id + i ≤ LAST_ID
  id_below id next i within = omega (arith, next, within, here.many)

  pub ids_right : (id : ℕ) → id ≡ t.held.last_id + 1 → (i : ℕ) → i < length slots → is_id (id + i) ≡ true
  ids_right id next i within =
      both (nat_le 1 (id + i)) (nat_le (id + i) LAST_ID) (le-leb 1 (id + i) (omega (arith, next))) (le-leb (id + i) LAST_ID (id_below id next i within))
    where
      both : (a b : Bool) → a ≡ true → b ≡ true → a && b ≡ true
      both true b first second = second
      both false b first second = absurd cc

module _ (size : ℕ) (one : Option PlaceMap) (t : Tables) (runs : Runs size one t) (offered : ℕ) (slots : List ℕ) (has : HasSlots t offered slots) (id : ℕ)
    (next : id ≡ t.held.last_id + 1)
    (filled : List Contents) (many : length filled ≡ length slots) (leaves : AllByRecursion (λ c. c.kind ≡ Leaf) filled) (right : AreRight id filled) where
  abbrev ps : List Placed
  ps = placed slots id filled

  module _ (among : ByteSet) (store : Store) (known : Option PlaceMap) (files : Files) (given : List ℕ) (keeps : Represents store known t)
      (stands : Stands (IsIn among) store files given) where
    at : AreSlotsOf t offered slots store
    at = of_standing size one t runs has among store known files given keeps stands

    ps_are : ps ≡ in_free id filled store
    ps_are = placed_in_free slots id filled store at.first many

    above : last_id store.held < id
    above = omega (arith, next, keeps.slots_hold.last_id_is)

    room : length filled ≤ free_slots store.held
    room = omega (arith, many, at.many)

    can : CanPlace (last_id store.held) ps store
    can = subst (λ (l : List Placed). CanPlace (last_id store.held) l store) (sym ps_are) (can_in_free (last_id store.held) id filled store above right room)

  -- the way that the call goes
  arrives_all : (P B Q : List ℕ → Type 0) (e : Ending) (old new : DiskView) → Arrives (step P B Q) e old new
      → Arrives (record { before = P; between = B; rest = P; after = Q }) e old new
  arrives_all P B Q Done old new arrives = arrives
  arrives_all P B Q Refused old new (inl reads) = inl reads
  arrives_all P B Q Refused old new (inr none) = absurd (none.each none.known.0 (new.as_read none.known.0 none.known.1))
  arrives_all P B Q Unread old new (inl reads) = inl reads
  arrives_all P B Q Unread old new (inr none) = absurd (none.each none.known.0 (new.as_read none.known.0 none.known.1))
  arrives_all P B Q Broken old new arrives = arrives

  module _ (e : Ending) (old new : DiskView)
      (moves : (among : ByteSet) (store : Store) (files : Files) → HasNoCollisions (IsIn among) → MayPlace (IsIn among) ps → CanPlace (last_id store.held) ps store
      → Moves (step (Stands (IsIn among) store files) (StandsSome (IsIn among) ps store files) (Stands (IsIn among) (with_all ps store) files)) e old new)
      (writes : Writes (SealsAll slots id filled) (AreSealed slots id filled) e old new) (on_disk : AreSlots old.size slots)
      (all_there : (size : ℕ) (given new : List ℕ) → AreSlots size slots → length given ≡ size → AreSealed slots id filled given new → AreLeftSo IsThere ps given new) where
    written_holds : (among : ByteSet) (store : Store) (known : Option PlaceMap) (files : Files) (given held : List ℕ) → (x : Ending) → Represents store known t
        → old.content ≡ Some given → new.content ≡ Some held
        → Stands (IsIn among) store files given → HasNoCollisions (IsIn among) → MayAllSeal (IsIn among) ps → Written (AreSealed slots id filled) x old new
        → KeepsAllHeld AnyKey x ps store given held
    written_holds among store known files given held Done keeps content now stands distinct may written =
        let c = written.0 given content in
        let whole : AreSealed slots id filled given held = subst (AreSealed slots id filled given) (same_content c.0 held (sym c.1 ∙ now)) c.2 in
        let left = all_there old.size given held on_disk (old.sized given content) whole in
        let place = may_place (IsIn among) slots id filled leaves may in
        let first : AreFirstFree ps store = subst (λ (l : List Placed). AreFirstFree l store) (sym (ps_are among store known files given keeps stands))
        (free_first id filled store (room among store known files given keeps stands)) in
        let ids : IdsRise (last_id store.held) ps = subst (IdsRise (last_id store.held)) (sym (ps_are among store known files given keeps stands))
        (in_free_rise (last_id store.held) id filled store (above among store known files given keeps stands) right) in
        let few : length ps ≤ free_slots store.held = subst (λ (l : List Placed). length l ≤ free_slots store.held) (sym (ps_are among store known files given keeps stands))
        (in_free_few id filled store (room among store known files given keeps stands)) in (
          all_keep (IsIn among) files distinct ps (last_id store.held) store given held place (omega arith) (can among store known files given keeps stands) stands left,
          all_newest (IsIn among) files distinct ps (last_id store.held) store given held place (omega arith) first ids few stands left,
        )
    written_holds among store known files given held Refused keeps content now stands distinct may written =
        same_keeps store given held (same_content held given (sym now ∙ written.content_is ∙ content))
    written_holds among store known files given held Unread keeps content now stands distinct may written =
        same_keeps store given held (same_content held given (sym now ∙ written.content_is ∙ content))
    written_holds among store known files given held Broken keeps content now stands distinct may written = tt

    pub seals_data : SealsData t ps e old new
    seals_data = record {
      moves = λ among store known files keeps distinct may stands.
          let P : List ℕ → Type 0 = Stands (IsIn among) store files in
          let given = stands.known.0 in
          let before = stands_content P old stands given stands.known.1 in
          let moved = moves among store files distinct (may_place (IsIn among) slots id filled leaves may) (can among store known files given keeps before) stands in
          record {
            leaves = moved.leaves;
            arrives = arrives_all P (StandsSome (IsIn among) ps store files) (Stands (IsIn among) (with_all ps store) files) e old new moved.arrives;
          };
      holds = λ among store known files given held keeps content now stands distinct may.
          written_holds among store known files given held e keeps content now stands distinct may writes.written;
    }

-- ---- the bytes

module _ (slots : ℕ) (taken : List ℕ) where
  slots_alone : (d c : List ℕ) → SameIn (NoSlot taken) d c → SameButSlotsOf slots taken d c
  slots_alone d c same = record { size = same.size; same = λ at count outside. same.same at count outside.0 }

  module _ (id : ℕ) (filled : List Contents) (e : Ending) (old new : DiskView) (writes : Writes (SealsAll taken id filled) (AreSealed taken id filled) e old new) where
    stepped : (given d c : List ℕ) → old.content ≡ Some given → old.images d → SealsAll taken id filled given d c → SteppedFrom (SameButSlotsOf slots taken) old c
    stepped given d c known image (inl is) = inr (d, image, slots_alone d c is.0)
    stepped given d c known image (inr is) = inr (given, old.as_read given known, slots_alone given c is.0)

    pub changes_slots : ChangesSlotsAlone slots taken old new
    changes_slots = frame_of slots (SameButSlotsOf slots taken) (slots_settled slots taken) (slots_after slots taken) old new writes.later (λ given known.
        leaves_weaker (SteppedFrom (SealsAll taken id filled given) old) (SteppedFrom (SameButSlotsOf slots taken) old) old new (λ c from. elim from [
          | inl image ↦ inl image
          | inr one ↦ stepped given one.0 c known one.1 one.2
        ]) (writes.steps given known))
