-- Slots are closed in which the index has no entry: the tables, and the disk.
use Rattle.gc_sweep.proofs.Prelude.{◌≡◌, ◌≢◌, ◌⊎◌, inl, inr, ℕ, zero, suc, ◌+◌, ◌<◌, ◌≤◌, true, false, List, [], ◌∷◌, ◌++◌, length, get_or, take, Option, Some, None, option_map, refl, sym, ◌∙◌, ap, subst, arith, nat_eq, eq-eqb, AllByRecursion, Place, PlaceMap, HeaderValue, Done, DiskView, IsIn, Stands, Files, with_all_freed, with_freed, Store, HoldsNone, HasKey, IsPartialIndexOf, ids_of, without_slot, KeepsCopies, HasNewest, some_same, slot_held, slot_at, Represents, RepresentsSlots, Runs, SlotTable, Tables, as_many, count_of, length-map, ChangesGatesAlone, HasFreed, HasNoEntryIn, HasNoEntryInAny, GivesBack}
use Rattle.std.specs.List.{IsDistinct, slice_get}
use Rattle.base_model.specs.Known.{Known, KnownWith}
use Rattle.container_log.specs.Many.{AreApart, AreFreed, FreesAll, NoGate, OneByOne}
use Rattle.container_log.specs.Writing.{Frees, IsFreed}
use Rattle.disk_format.specs.declared.numbers.TheConstants.{SLOT_BYTES}
use Rattle.disk_format.specs.Layout.{size_of}
use Rattle.dd_disk.specs.Ending.{Ending, Refused, Unread, Broken}
use Rattle.dd_disk.specs.Moves.{Moves}
use Rattle.dd_disk.specs.View.{SteppedFrom}
use Rattle.dd_disk.specs.Writes.{Writes, Written}
use Rattle.dd_disk.specs.Wrote.{SameIn}
use Rattle.dd_disk.proofs.Later.{leaves_weaker}
use Rattle.dd_disk.proofs.Moves.{moves_written}
use Rattle.segment_index.specs.Places.{KnownMap}
use Rattle.store_model.specs.Freeing.{HasNoGate, SameButGates}
use Rattle.store_model.specs.Slots.{Copy}
use Rattle.store_model.proofs.Freed.{length-without_slot, other_there}
use Rattle.store_model.proofs.FreedAll.{free_all, freed_then, valid_all}
use Rattle.store_model.proofs.FreedFiles.{same_but_held, unfreed_stands, one_freed_stands, one_freed_keeps}
use Rattle.store_model.proofs.FreedTrees.{newest_freed}
use Rattle.store_model.proofs.Lookups.{finds}
use Rattle.store_state.specs.Invariant.{IndexesFiles}
use Rattle.store_state.specs.Tables.{RepresentsNames}
use Rattle.gc_sweep.specs.Releasing.{KeepsFreed, StandsWithout, freeing}
use Rattle.gc_sweep.proofs.OnDisk.{slot_fits}

-- ---- lists of slots

pub differs : (x y : ℕ) → nat_eq x y ≡ false → x ≢ y
differs x y apart same = let wrong : true ≡ false = sym (eq-eqb x y same) ∙ apart in cc

pub each_at : (P : ℕ → Type 0) (xs : List ℕ) → AllByRecursion P xs → (i x : ℕ) → slice_get xs i ≡ Some x → P x
each_at P [] all i x here = absurd cc
each_at P (y ∷ ys) all zero x here = subst P (some_same y x here) all.0
each_at P (y ∷ ys) all (suc i) x here = each_at P ys all.1 i x here

apart_at : (xs : List ℕ) → IsDistinct nat_eq xs → (i j one other : ℕ) → i < j → slice_get xs i ≡ Some one → slice_get xs j ≡ Some other → one ≢ other
unfolding IsDistinct
apart_at [] once i j one other less here there = absurd cc
apart_at (x ∷ xs) once i zero one other less here there = absurd (omega (arith, less))
apart_at (x ∷ xs) once zero (suc j) one other less here there =
    subst (λ (y : ℕ). y ≢ other) (some_same x one here) (differs x other (each_at (λ w. nat_eq x w ≡ false) xs once.0 j other there))
apart_at (x ∷ xs) once (suc i) (suc j) one other less here there = apart_at xs once.1 i j one other (omega (arith, less)) here there

pub are_apart : (size : ℕ) (known : Option PlaceMap) (t : Tables) (slots : List ℕ) → Runs size known t → AllByRecursion (λ slot. slot < length t.held.ids.items) slots
    → IsDistinct nat_eq slots → AreApart size slots
are_apart size known t slots runs within once = record {
  within = λ i slot here. slot_fits size known t slot runs (each_at (λ s. s < length t.held.ids.items) slots within i slot here);
  apart = apart_at slots once;
}

-- ---- the slots

-- one whose id isn't 0 has a container
pub open_slot : (held : List (Option HeaderValue)) (slot : ℕ) → get_or (ids_of held) slot 0 ≢ 0 → (h : HeaderValue) × (slice_get held slot ≡ Some (Some h))
open_slot [] slot there_is = absurd (there_is refl)
open_slot (None ∷ cs) zero there_is = absurd (there_is refl)
open_slot (Some h ∷ cs) zero there_is = (h, refl)
open_slot (None ∷ cs) (suc slot) there_is = open_slot cs slot there_is
open_slot (Some g ∷ cs) (suc slot) there_is = open_slot cs slot there_is

-- ---- the index

-- the slot has the newest copy of no key that the index has
pub none_held : (store : Store) (index : PlaceMap) (slot : ℕ) → IsPartialIndexOf store.held index → HasNoEntryIn index slot → HoldsNone (HasKey index) store.held slot
none_held store index slot partial none key copy has is here =
    let found = finds store index key has.0 partial has.1 in
    none key has.0 has.1 (ap (λ (p : Place). p.slot) (sym found.2 ∙ ap (λ (c : Copy). c.place) (some_same found.0 copy (sym found.1 ∙ is))) ∙ here)

pub none_held_any : (store : Store) (index : PlaceMap) (slots : List ℕ) → IsPartialIndexOf store.held index → HasNoEntryInAny index slots
    → AllByRecursion (HoldsNone (HasKey index) store.held) slots
none_held_any store index [] partial none = tt
none_held_any store index (slot ∷ slots) partial none = (none_held store index slot partial none.0, none_held_any store index slots partial none.1)

-- it gives each key that it has its newest copy still
partial_freed : (store : Store) (index : PlaceMap) (slot : ℕ) → IsPartialIndexOf store.held index → HasNoEntryIn index slot → IsPartialIndexOf (without_slot slot store.held) index
partial_freed store index slot partial none key place found =
    ap (option_map (λ (c : Copy). c.place)) (newest_freed (HasKey index) slot store.held (none_held store index slot partial none) key (place, found)) ∙ partial key place found

partial_all : (slots : List ℕ) (store : Store) (index : PlaceMap) → IsPartialIndexOf store.held index → HasNoEntryInAny index slots
    → IsPartialIndexOf (with_all_freed slots store).held index
partial_all [] store index partial none = partial
partial_all (slot ∷ slots) store index partial none = partial_all slots (with_freed slot store) index (partial_freed store index slot partial none.0) none.1

-- ---- the tables

-- The table holds the slots of before without these.
pub record HoldsFewer (old : Tables) (slots : List ℕ) (now : Tables) : Type 0 where
  pub others_stay : now ≡ record old { held = now.held }
  pub last_stays : now.held.last_id ≡ old.held.last_id
  pub slots_hold : (store : Store) → RepresentsSlots store.held old.held → RepresentsSlots (with_all_freed slots store).held now.held

pub fewer_none : (old : Tables) → HoldsFewer old [] old
fewer_none old = record { others_stay = refl; last_stays = refl; slots_hold = λ store holds. holds }

pub fewer_more : (old mid : Tables) (slots : List ℕ) (slot : ℕ) (held : SlotTable) → HoldsFewer old slots mid
    → ((cs : List (Option HeaderValue)) → RepresentsSlots cs mid.held → RepresentsSlots (without_slot slot cs) held) → held.last_id ≡ mid.held.last_id
    → HoldsFewer old (slots ++ slot ∷ []) (record mid { held = held })
fewer_more old mid slots slot held fewer gives last = record {
  others_stay = ap (λ (t : Tables). record t { held = held }) fewer.others_stay;
  last_stays = last ∙ fewer.last_stays;
  slots_hold = λ store holds.
      subst (λ (s : Store). RepresentsSlots s.held held) (sym (freed_then slots (slot ∷ []) store)) (gives (with_all_freed slots store).held (fewer.slots_hold store holds));
}

length_all : (slots : List ℕ) (store : Store) → length (with_all_freed slots store).held ≡ length store.held
length_all [] store = refl
length_all (slot ∷ slots) store = length_all slots (with_freed slot store) ∙ length-without_slot slot store.held

-- its columns are as long as they were
module _ (size : ℕ) (known : Option PlaceMap) (old now : Tables) (slots : List ℕ) (runs : Runs size known old) (fewer : HoldsFewer old slots now) where
  now_hold : RepresentsSlots (with_all_freed slots runs.store).held now.held
  now_hold = fewer.slots_hold runs.store runs.represents.slots_hold

  pub as_long : length now.held.ids.items ≡ length old.held.ids.items
  as_long =
      ap length now_hold.ids_are ∙ as_many (with_all_freed slots runs.store).held ∙ length_all slots runs.store
      ∙ sym (ap length runs.represents.slots_hold.ids_are ∙ as_many runs.store.held)

  pub both_columns : length now.held.counts.items ≡ length now.held.ids.items
  both_columns =
      let held = (with_all_freed slots runs.store).held in
      omega (arith, ap length now_hold.counts_are, length-map held count_of, ap length now_hold.ids_are, as_many held)

pub has_freed : (old now : Tables) (slots : List ℕ) → HoldsFewer old slots now → HasFreed old slots now
has_freed old now slots fewer = record {
  others_stay = fewer.others_stay;
  last_stays = fewer.last_stays;
  represents = after;
  runs = λ size known none runs. record {
    store = with_all_freed slots runs.store;
    represents = after runs.store known none runs.represents;
    valid = valid_all size slots runs.store runs.valid;
    has_free = omega (arith, runs.has_free, free_all slots runs.store);
  };
}
  where
    after : (store : Store) (known : Option PlaceMap) → KnownMap known (λ index. HasNoEntryInAny index slots) → Represents store known old
        → Represents (with_all_freed slots store) known now
    after store known none was =
        let same = same_but_held slots store in
        subst (Represents (with_all_freed slots store) known) (sym fewer.others_stay) (record {
          slots_are = was.slots_are ∙ sym (ap (λ (s : Store). s.slots) same);
          names_are = subst (λ (s : Store). RepresentsNames s old) (sym same) was.names_are;
          slots_hold = fewer.slots_hold store was.slots_hold;
          index_is_newest = λ index is. partial_all slots store index (was.index_is_newest index is) (none index is);
        })

-- ---- the disk

same_content : (a b : List ℕ) → Some a ≡ Some b → a ≡ b
same_content a b is = cc

same_keeps : (P : List ℕ → Type 0) (store : Store) (given held : List ℕ) → held ≡ given → KeepsCopies P store given store held
same_keeps P store given held is = λ key level bytes need has. subst (HasNewest store.held key level bytes) (sym is) has

-- Each of these slots has a container, none of them comes twice, and in none has the index an entry.
pub record CanFree (index : PlaceMap) (slots : List ℕ) (held : List (Option HeaderValue)) : Type 0 where
  pub there : AllByRecursion (λ slot. (h : HeaderValue) × (slice_get held slot ≡ Some (Some h))) slots
  pub once : IsDistinct nat_eq slots
  pub none : HasNoEntryInAny index slots

others_there : (slot : ℕ) (slots : List ℕ) (held : List (Option HeaderValue)) → AllByRecursion (λ w. nat_eq slot w ≡ false) slots
    → AllByRecursion (λ other. (h : HeaderValue) × (slice_get held other ≡ Some (Some h))) slots
    → AllByRecursion (λ other. (h : HeaderValue) × (slice_get (without_slot slot held) other ≡ Some (Some h))) slots
others_there slot [] held apart there = tt
others_there slot (other ∷ slots) held apart there =
    ((there.0.0, other_there slot other held (differs slot other apart.0) ∙ there.0.1), others_there slot slots held apart.1 there.1)

others_once : (slot : ℕ) (slots : List ℕ) → IsDistinct nat_eq (slot ∷ slots) → IsDistinct nat_eq slots
unfolding IsDistinct
others_once slot slots once = once.1

can_after : (index : PlaceMap) (slot : ℕ) (slots : List ℕ) (held : List (Option HeaderValue)) → CanFree index (slot ∷ slots) held → CanFree index slots (without_slot slot held)
unfolding IsDistinct
can_after index slot slots held can = record { there = others_there slot slots held can.once.0 can.there.1; once = can.once.1; none = can.none.1 }

module _ (S : List ℕ → Type 0) (index : PlaceMap) (files : Files) (needed : IndexesFiles index files) where
  -- ---- one slot

  module _ (store : Store) (slot : ℕ) (slots : List ℕ) (partial : IsPartialIndexOf store.held index) (can : CanFree index (slot ∷ slots) store.held) where
    once : (given c : List ℕ) → Stands S store files given → IsFreed slot given c → Stands S (with_freed slot store) files c
    once given c stands freed =
        one_freed_stands S (HasKey index) files store slot can.there.0.0 given c can.there.0.1 freed.0 stands needed (none_held store index slot partial can.none.0) freed.1

    while : (d c : List ℕ) → Stands S store files d → Frees slot d c → Stands S store files c ⊎ Stands S (with_freed slot store) files c
    while d c was torn = elim (torn.1 can.there.0.0 (slot_held slot store.held (Some can.there.0.0) d was.holds.right.slots_are can.there.0.1)) [
      | inl closed ↦ inr (once d c was (torn.0, closed))
      | inr has ↦ inl (unfreed_stands S (HasKey index) files store slot can.there.0.0 d c can.there.0.1 torn.0 was has)
    ]

    keeps : (given c : List ℕ) → Stands S store files given → IsFreed slot given c → KeepsCopies (HasKey index) store given (with_freed slot store) c
    keeps given c stands freed =
        one_freed_keeps S (HasKey index) files store slot can.there.0.0 given c can.there.0.1 freed.0 stands needed (none_held store index slot partial can.none.0) freed.1

  -- ---- one after the other

  all_once : (slots : List ℕ) (store : Store) (given c : List ℕ) → IsPartialIndexOf store.held index → CanFree index slots store.held → Stands S store files given
      → OneByOne IsFreed slots given c → Stands S (with_all_freed slots store) files c
  all_once [] store given c partial can stands same = subst (Stands S store files) (sym same) stands
  all_once (slot ∷ slots) store given c partial can stands (mid, one, rest) =
      all_once slots (with_freed slot store) mid c (partial_freed store index slot partial can.none.0) (can_after index slot slots store.held can)
      (once store slot slots partial can given mid stands one) rest

  all_while : (slots : List ℕ) (store : Store) (d c : List ℕ) → IsPartialIndexOf store.held index → CanFree index slots store.held → Stands S store files d
      → OneByOne Frees slots d c → StandsWithout S slots store files c
  all_while [] store d c partial can stands same = ([], subst (Stands S store files) (sym same) stands)
  all_while (slot ∷ slots) store d c partial can stands (mid, one, rest) = elim (while store slot slots partial can d mid stands one) [
    | inl still ↦
        let kept : CanFree index slots store.held = record { there = can.there.1; once = others_once slot slots can.once; none = can.none.1 } in
        let some = all_while slots store mid c partial kept still rest in (false ∷ some.0, some.1)
    | inr closed ↦
        let some = all_while slots (with_freed slot store) mid c (partial_freed store index slot partial can.none.0) (can_after index slot slots store.held can) closed rest in
        (true ∷ some.0, some.1)
  ]

  all_keep : (slots : List ℕ) (store : Store) (given c : List ℕ) → IsPartialIndexOf store.held index → CanFree index slots store.held → Stands S store files given
      → OneByOne IsFreed slots given c → KeepsCopies (HasKey index) store given (with_all_freed slots store) c
  all_keep [] store given c partial can stands same = same_keeps (HasKey index) store given c same
  all_keep (slot ∷ slots) store given c partial can stands (mid, one, rest) = λ key level bytes need has.
      all_keep slots (with_freed slot store) mid c (partial_freed store index slot partial can.none.0) (can_after index slot slots store.held can)
      (once store slot slots partial can given mid stands one) rest key level bytes need (keeps store slot slots partial can given mid stands one key level bytes need has)

  -- ---- the whole

  module _ (size : ℕ) (slots : List ℕ) (store : Store) (partial : IsPartialIndexOf store.held index) (can : CanFree index slots store.held) (apart : AreApart size slots)
      (in_turn : (old new : List ℕ) → length old ≡ size → FreesAll slots old new → OneByOne Frees slots old new)
      (each_in_turn : (given new : List ℕ) → length given ≡ size → AreFreed slots given new → OneByOne IsFreed slots given new) where
    moves_freed : (e : Ending) (old new : DiskView) → old.size ≡ size → Writes (λ _. FreesAll slots) (AreFreed slots) e old new → Moves (freeing S slots store files) e old new
    moves_freed e old new size_is writes = λ stands.
        let long : (d : List ℕ) → Stands S store files d → length d ≡ size =
        λ d is. (is.holds.right.size ∙ sym (stands.each stands.known.0 (old.as_read stands.known.0 stands.known.1)).holds.right.size
        ∙ old.sized stands.known.0 stands.known.1 ∙ size_is) in
        moves_written (Stands S store files) (StandsWithout S slots store files) (Stands S (with_all_freed slots store) files) (λ _. FreesAll slots)
        (AreFreed slots) old new
        (λ given c is freed. all_once slots store given c partial can is (each_in_turn given c (long given is) freed))
        e (λ c is. ([], is)) (λ given d c whole is torn. all_while slots store d c partial can is (in_turn d c (long d is) torn)) writes stands

    holds_written : (e : Ending) (old new : DiskView) (given held : List ℕ) → old.size ≡ size → old.content ≡ Some given → new.content ≡ Some held → Stands S store files given
        → Written (AreFreed slots) e old new
        → KeepsFreed e index slots store given held
    holds_written Done old new given held size_is known is stands written =
        let c = written.0 given known in
        let whole = subst (AreFreed slots given) (same_content c.0 held (sym c.1 ∙ is)) c.2 in
        all_keep slots store given held partial can stands (each_in_turn given held (old.sized given known ∙ size_is) whole)
    holds_written Refused old new given held size_is known is stands written = same_keeps (HasKey index) store given held
        (same_content held given (sym is ∙ written.content_is ∙ known))
    holds_written Unread old new given held size_is known is stands written = same_keeps (HasKey index) store given held
        (same_content held given (sym is ∙ written.content_is ∙ known))
    holds_written Broken old new given held size_is known is stands written = tt

-- the containers in slots of a store that the tables represent
there_by : (t : Tables) (slots : List ℕ) (store : Store) (known : Option PlaceMap) → AllByRecursion (λ slot. get_or t.held.ids.items slot 0 ≢ 0) slots → Represents store known t
    → AllByRecursion (λ slot. (h : HeaderValue) × (slice_get store.held slot ≡ Some (Some h))) slots
there_by t [] store known there rep = tt
there_by t (slot ∷ slots) store known there rep = (
  open_slot store.held slot (subst (λ (ids : List ℕ). get_or ids slot 0 ≢ 0) rep.slots_hold.ids_are there.0),
  there_by t slots store known there.1 rep,
)

module _ (t : Tables) (slots : List ℕ) (there : AllByRecursion (λ slot. get_or t.held.ids.items slot 0 ≢ 0) slots) (once : IsDistinct nat_eq slots) (size : ℕ)
    (apart : AreApart size slots) (in_turn : (old new : List ℕ) → length old ≡ size → FreesAll slots old new → OneByOne Frees slots old new)
    (each_in_turn : (given new : List ℕ) → length given ≡ size → AreFreed slots given new → OneByOne IsFreed slots given new)
    (e : Ending) (old new : DiskView) (size_is : old.size ≡ size) (writes : Writes (λ _. FreesAll slots) (AreFreed slots) e old new) where
  can : (store : Store) (index : PlaceMap) → Represents store (Some index) t → HasNoEntryInAny index slots → CanFree index slots store.held
  can store index rep none = record { there = there_by t slots store (Some index) there rep; once = once; none = none }

  pub gives_back : GivesBack t slots e old new
  gives_back = record {
    moves = λ among store index files rep needed none.
        moves_freed (IsIn among) index files needed size slots store (rep.index_is_newest index refl)
        (can store index rep none) apart in_turn each_in_turn e old new size_is writes;
    holds = λ among store index files given held rep needed none known is stands.
        holds_written (IsIn among) index files needed size slots store (rep.index_is_newest index refl) (can store index rep none) apart in_turn each_in_turn e old new given held
        size_is known is stands writes.written;
  }

-- nothing but the gates changes
but_gates : (slots : List ℕ) (old new : List ℕ) → SameIn (NoGate slots) old new → SameButGates slots old new
but_gates slots old new same = record {
  size = same.size;
  same = λ at count none. same.same at count (λ i slot here.
      elim (each_at (λ s. (at + count ≤ slot_at s) ⊎ (slot_at s < at)) slots none i slot here) [ inl before ↦ inl before | inr after ↦ inr (omega (arith, after)) ]);
}

gates_read : (slots : List ℕ) (e : Ending) (old new : DiskView) → Written (AreFreed slots) e old new → e ≡ Done
    → Known old.content (λ given. KnownWith new.content (SameButGates slots given))
gates_read slots Done old new written done = λ given known. let c = written.0 given known in (c.0, c.1, but_gates slots given c.0 c.2.rest)
gates_read slots Refused old new written done = absurd cc
gates_read slots Unread old new written done = absurd cc
gates_read slots Broken old new written done = absurd cc

pub gates_alone : (slots : List ℕ) (e : Ending) (old new : DiskView) → Writes (λ _. FreesAll slots) (AreFreed slots) e old new → ChangesGatesAlone slots e old new
gates_alone slots e old new writes = record {
  leaves = λ given known.
      leaves_weaker (SteppedFrom (FreesAll slots) old) (SteppedFrom (SameButGates slots) old) old new
      (λ c from. elim from [ inl same ↦ inl same | inr stepped ↦ inr (stepped.0, stepped.1, but_gates slots stepped.0 c stepped.2.0) ]) (writes.steps given known);
  content = λ done. gates_read slots e old new writes.written done;
}
