-- One container that is sealed, as a list of one.
use Rattle.ingest_steps.proofs.Prelude.{◌≡◌, inl, inr, ℕ, ◌+◌, ◌≤◌, List, [], ◌∷◌, length, Option, Some, None, true, refl, sym, ◌∙◌, ap, subst, arith, DiskView, SteppedFrom, Ending, Done, Refused, Unread, Broken, Arrives, leaves_weaker, Contents, PlaceMap, HasKey, Files, Store, ByteSet, IsIn, Stands, first_free, free_slots, with_sealed, Refusal, Memory, DiskWrite, Tables, Represents, Runs, HasSlot, SameButSlotOf, KeepsHeld, SealsCompared, HasPlacesOf, WasCompared, IsCompared, IsSealRefusal, places_with}
use Rattle.std.proofs.Common.{slice_get, get_or, Result, Ok, Err, IfOk}
use Rattle.std.proofs.lemmas.Option.{slice_get-get_or}
use Rattle.container_log.specs.Many.{placed}
use Rattle.dd_disk.specs.Moves.{Moved}
use Rattle.ingest_steps.proofs.Sealed.{slot_in}
use Rattle.refusals.specs.declared.refusal.Refusal.TheVariants.{DiskRead, Damaged}
use Rattle.store_model.specs.Together.{Placed, StandsSome, with_all}
use Rattle.store_model.specs.Steps.{CanSeal}
use Rattle.ingest_steps.specs.Offering.{AreCompared, HasSlots, WereCompared, in_free}
use Rattle.ingest_steps.specs.Sealing.{ChangesAlone, HasSealed, sealing_compared}
use Rattle.ingest_steps.specs.SealingAll.{HasPlacesOfAll, MayAllSeal, HaveSealed, KeepsAllHeld, SameButSlotsOf, SealsPlaced, places_with_all, sealing_all, slots_of}
use Rattle.ingest_steps.proofs.PlacedFree.{first_in, in_free_one, slot_below, one_slot}

-- ---- its slot

pub one_list : (filled : List Contents) (x : Contents) → length filled ≡ 1 → slice_get filled 0 ≡ Some x → filled ≡ x ∷ []
one_list [] x one here = absurd (omega (arith, one))
one_list (y ∷ []) x one here = ap (λ (z : Contents). z ∷ []) (same y x here)
  where
    same : (a b : Contents) → Some a ≡ Some b → a ≡ b
    same a b e = cc
one_list (y ∷ z ∷ zs) x one here = absurd (omega (arith, one))

pub one_slot_list : (slots : List ℕ) → length slots ≡ 1 → slots ≡ get_or slots 0 0 ∷ []
one_slot_list [] one = absurd (omega (arith, one))
one_slot_list (s ∷ []) one = refl
one_slot_list (s ∷ r ∷ rs) one = absurd (omega (arith, one))

pub slot_one : (t : Tables) (offered : ℕ) (slots : List ℕ) (size : ℕ) → Runs size None t → HasSlots t offered slots → length slots ≡ 1 → HasSlot t (get_or slots 0 0)
slot_one t offered slots size runs has one = record {
  slot_is = λ n known. record {
    store_has = λ store is valid free.
        let at = (has n known).store_has store is valid free in
        record {
          spare = omega (arith, at.many, at.some);
          first = one_slot slots store at.first (get_or slots 0 0) here free;
          within = omega (arith, slot_below slots store at.first 0 (get_or slots 0 0) here, valid.many);
        };
  };
  below =
      let mine = (has size None).store_has runs.store runs.represents runs.valid runs.has_free in
      omega (arith, mine.many, mine.some);
}
  where
    here : slice_get slots 0 ≡ Some (get_or slots 0 0)
    here = slice_get-get_or slots 0 0 (omega (arith, one))

module _ (id : ℕ) (c : Contents) where
  one_of : (store : Store) → 1 ≤ free_slots store.held → in_free id (c ∷ []) store ≡ first_in id c store ∷ []
  one_of store some = in_free_one id c store some

  -- ---- the disk

  alone_in : (slots slot : ℕ) (d e : List ℕ) → SameButSlotOf slots slot d e → SameButSlotsOf slots (slot ∷ []) d e
  alone_in slots slot d e same = record {
    size = same.size;
    same = λ at count outside. elim (outside.0 0 slot refl) [
      | inl below ↦ same.before at count below
      | inr above ↦ same.after at count (omega (arith, above)) outside.1
    ];
  }

  changes_in : (slots slot : ℕ) (old new : DiskView) → ChangesAlone (SameButSlotOf slots slot) slots old new → ChangesAlone (SameButSlotsOf slots (slot ∷ [])) slots old new
  changes_in slots slot old new frame = record {
    leaves = λ given known. leaves_weaker (SteppedFrom (SameButSlotOf slots slot) old) (SteppedFrom (SameButSlotsOf slots (slot ∷ [])) old) old new (λ x from. elim from [
      | inl image ↦ inl image
      | inr step ↦ inr (step.0, step.1, alone_in slots slot step.0 x step.2)
    ]) (frame.leaves given known);
    settled = λ settled given known.
        let was = frame.settled settled given known in (
          (was.0.0, was.0.1, alone_in slots slot given was.0.0 was.0.2),
          leaves_weaker (SameButSlotOf slots slot given) (SameButSlotsOf slots (slot ∷ []) given) old new (λ x same. alone_in slots slot given x same) was.1,
        );
  }

  module _ (S : List ℕ → Type 0) (store : Store) (files : Files) where
    abbrev p : List Placed
    p = first_in id c store ∷ []

    some_one : (x : List ℕ) → (sealing_compared S id c store files).between x → StandsSome S p store files x
    some_one x (inl stands) = ([], stands)
    some_one x (inr stands) = (true ∷ [], stands.1)

    arrives_one : (e : Ending) (old new : DiskView) → Arrives (sealing_compared S id c store files) e old new → Arrives (sealing_all S p store files) e old new
    arrives_one Done old new arrives = record { known = arrives.known; each = λ x image. (arrives.each x image).1 }
    arrives_one Refused old new arrives = arrives
    arrives_one Unread old new arrives = arrives
    arrives_one Broken old new arrives = record { known = arrives.known; each = λ x image. some_one x (arrives.each x image) }

  holds_one : (map : PlaceMap) (e : Ending) (store : Store) (given held : List ℕ) → KeepsHeld map e id c store given held
      → KeepsAllHeld (HasKey map) e (first_in id c store ∷ []) store given held
  holds_one map Done store given held keep = (keep.0, (keep.1, tt))
  holds_one map Refused store given held keep = keep
  holds_one map Unread store given held keep = keep
  holds_one map Broken store given held keep = keep

  module _ (size : ℕ) (one : Option PlaceMap) (t : Tables) (slot : ℕ) (runs : Runs size one t) (has : HasSlot t slot) (known : Option PlaceMap) (e : Ending) (old new : DiskView)
      (seals : SealsCompared t known id c e old new) where
    some_at : (among : ByteSet) (store : Store) (files : Files) (given : List ℕ) → Represents store known t → Stands (IsIn among) store files given → 1 ≤ free_slots store.held
    some_at among store files given is stands = let at = slot_in size one t slot runs has among store known files given is stands in omega (arith, at.spare)

    pub one_placed : SealsPlaced t known (in_free id (c ∷ [])) e old new
    one_placed = record {
      frame = record {
        store_has = λ store is valid free.
            subst (λ (ps : List Placed). ChangesAlone (SameButSlotsOf t.slots (slots_of ps)) t.slots old new) (sym (one_of store free))
            (changes_in t.slots (first_free store.held) old new (seals.frame.store_has store is valid free));
      };
      moves = λ among store files map known_is is indexed distinct may stands.
          let given = stands.known.0 in
          let same = one_of store (some_at among store files given is (stands.each given (old.as_read given stands.known.1))) in
          let may_one = subst (MayAllSeal (IsIn among)) same may in
          let moved = seals.moves among store files map known_is is indexed distinct may_one.0 stands in
          subst (λ (ps : List Placed). Moved (sealing_all (IsIn among) ps store files) e old new) (sym same) (record {
            leaves = leaves_weaker (sealing_compared (IsIn among) id c store files).between (StandsSome (IsIn among) (first_in id c store ∷ []) store files) old new
                (some_one (IsIn among) store files) moved.leaves;
            arrives = arrives_one (IsIn among) store files e old new moved.arrives;
          });
      holds = λ among store files map given held known_is is content now stands distinct may.
          let same = one_of store (some_at among store files given is stands) in
          let may_one = subst (MayAllSeal (IsIn among)) same may in
          subst (λ (ps : List Placed). KeepsAllHeld (HasKey map) e ps store given held) (sym same)
          (holds_one map e store given held (seals.holds among store files map given held known_is is content now stands distinct may_one.0));
    }

-- ---- the tables

module _ (t new : Tables) (size : ℕ) (known : Option PlaceMap) (slot : ℕ) (c : Contents) (has : HasSlot t slot) (id : ℕ) (sealed : HasSealed t size known slot c new id) where
  next : ℕ
  next = t.held.last_id + 1

  pub one_have : HaveSealed t size known (c ∷ []) new
  one_have = record {
    last_is = sealed.last_is ∙ sealed.number ∙ omega arith;
    others_stay = sealed.others_stay;
    can = record {
      store_has = λ store is valid free. (subst (λ (n : ℕ). CanSeal n c.kind c.segments store) sealed.number (sealed.can.store_has store is valid free), tt);
    };
    represents = record {
      store_has = λ store is valid free.
          let at = (has.slot_is size known).store_has store is valid free in
          subst (λ (ps : List Placed). Represents (with_all ps store) (places_with_all ps known) new) (sym (one_of (t.held.last_id + 1) c store free))
          (subst (λ (k : ℕ). Represents (with_sealed (t.held.last_id + 1) c.kind c.segments store) (places_with c k known) new) at.first
          (subst (λ (n : ℕ). Represents (with_sealed n c.kind c.segments store) (places_with c slot known) new) sealed.number (sealed.represents.store_has store is valid free)));
    };
    alone = record {
      store_has = λ store is valid free. (
        (subst (λ (n : ℕ). CanSeal n c.kind c.segments store) sealed.number (sealed.alone.store_has store is valid free).0, tt),
        subst (λ (ps : List Placed). Represents (with_all ps store) None new) (sym (one_of (t.held.last_id + 1) c store free))
            (subst (λ (n : ℕ). Represents (with_sealed n c.kind c.segments store) None new) sealed.number (sealed.alone.store_has store is valid free).1),
      );
    };
    runs = λ map runs.
        let at = (has.slot_is size map).store_has runs.store runs.represents runs.valid runs.has_free in
        subst (λ (ps : List Placed). Runs size (places_with_all ps map) new) (sym (one_of (t.held.last_id + 1) c runs.store runs.has_free))
        (subst (λ (k : ℕ). Runs size (places_with c k map) new) at.first (sealed.runs map (omega arith) runs));
  }

-- ---- what was compared

pub one_refused : (size : ℕ) (known : Option PlaceMap) (shown : (List ℕ → Type 0) → Type 0) (c : Contents) (refusal : Refusal)
    → IsSealRefusal known (IsCompared size known shown c) refusal → IsSealRefusal known (AreCompared size known shown (c ∷ [])) refusal
one_refused size known shown c Memory has = tt
one_refused size known shown c DiskRead has = tt
one_refused size known shown c (Damaged at why) has = has
one_refused size known shown c DiskWrite has = (has, tt)
one_refused size known shown c refusal has = record { number = 0; contents = c; contents_are = refl; before = tt; unlike = has }

pub one_places : (c : Contents) (slot id : ℕ) (before after : Option (List ℕ) → Option PlaceMap) (old new : Option (List ℕ)) → HasPlacesOf c slot before after old new
    → HasPlacesOfAll (placed (slot ∷ []) id (c ∷ [])) before after old new
one_places c slot id before after old new has = record { told = has.told; untold = has.untold }

pub one_sealed : (result : Result ℕ Refusal) (t new : Tables) (size : ℕ) (known : Option PlaceMap) (shown : (List ℕ → Type 0)
    → Type 0) (slot : ℕ) (c : Contents) (filled : List Contents)
    → filled ≡ c ∷ [] → HasSlot t slot → IfOk result (λ id. HasSealed t size known slot c new id × WasCompared size known shown c)
    → IfOk result (λ id. (id ≡ t.held.last_id + length filled) × HaveSealed t size known filled new × WereCompared size known shown filled)
one_sealed (Ok id) t new size known shown slot c filled is has sealed =
    subst (λ (cs : List Contents). (id ≡ t.held.last_id + length cs) × HaveSealed t size known cs new × WereCompared size known shown cs) (sym is)
    (omega (arith, sealed.0.number), one_have t new size known slot c has id sealed.0, (sealed.1, tt))
one_sealed (Err e) t new size known shown slot c filled is has sealed = tt
