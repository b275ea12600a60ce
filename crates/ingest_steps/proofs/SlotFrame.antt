-- What a seal leaves as it was on a disk: all but its slot and what lies after the slots.
use Rattle.ingest_steps.proofs.Prelude.{inl, inr, ℕ, ◌<◌, List, Option, sym, ◌∙◌, subst, arith, Known, slot_at, DiskView, IsLater, OnlyReads, CrashLeaves, SteppedFrom, Ending, Done, later_on, leaves_on, leaves_weaker, reads_leave, PlaceMap, SameBefore, Changes, Store, IsValidFor, HasFree, first_free, Tables, Represents, IsSlotOf, HasSlotBeside, SameButSlotOf, ChangesSlotAlone}
use Rattle.store_model.proofs.Free.{some_free}
use Rattle.ingest_steps.specs.Sealing.{ChangesAlone, ChangesFirstFree}
use Rattle.ingest_steps.specs.SealingAll.{SameButSlotsOf}

-- images in which all is the same but something of the slots, and what comes after these
module _ (slots : ℕ) (Same : List ℕ → List ℕ → Type 0) (same_settled : (given c : List ℕ) → SameBefore (slot_at slots) given c → Same given c)
    (same_after : (given d c : List ℕ) → SameBefore (slot_at slots) given d → Same d c → Same given c) where
  -- what is so of the images is so of what reads give
  pub frame_of : (old new : DiskView) → IsLater old new → Known old.content (λ given. CrashLeaves (SteppedFrom Same old) old new) → ChangesAlone Same slots old new
  frame_of old new later leaves = record {
    leaves = leaves;
    settled = λ settled given known.
        let left = leaves_weaker (SteppedFrom Same old) (Same given) old new (λ c from. elim from [
          | inl image ↦ same_settled given c (settled given known c image)
          | inr step ↦ same_after given step.0 c (settled given known step.0 step.1) step.2
        ]) (leaves given known) in
        let now = later.tells given known in
        ((now.0, now.1, left.now now.0 (new.as_read now.0 now.1)), left);
  }

  pub frame_reads : (old new : DiskView) → OnlyReads old new → ChangesAlone Same slots old new
  frame_reads old new reads = frame_of old new reads.later (λ given known. reads_leave (SteppedFrom Same old) old new (λ c image. inl image) reads)

  -- after a change of the index
  pub frame_changed : (e : Ending) (old new : DiskView) → Changes (slot_at slots) e old new → ChangesAlone Same slots old new
  frame_changed e old new changes = frame_of old new changes.later (λ given known.
      leaves_weaker (SteppedFrom (SameBefore (slot_at slots)) old) (SteppedFrom Same old) old new (λ c from. elim from [
        | inl image ↦ inl image
        | inr step ↦ inr (step.0, step.1, same_settled step.0 c step.2)
      ]) changes.leaves)

  module _ (old mid new : DiskView) (later : IsLater mid new) (frame : ChangesAlone Same slots mid new) where
    pub frame_on : Changes (slot_at slots) Done old mid → ChangesAlone Same slots old new
    frame_on changes = frame_of old new (later_on old mid new changes.later later) (λ given known.
        let then = changes.later.tells given known in
        leaves_on (SteppedFrom (SameBefore (slot_at slots)) old) (SteppedFrom Same mid) (SteppedFrom Same old) old mid new
        changes.later.clock_is changes.leaves (frame.leaves then.0 then.1) first (λ c from. elim from [
          | inl image ↦ first c (changes.leaves.now c image)
          | inr step ↦ second step.0 c (changes.leaves.now step.0 step.1) step.2
        ]))
      where
        first : (c : List ℕ) → SteppedFrom (SameBefore (slot_at slots)) old c → SteppedFrom Same old c
        first c (inl image) = inl image
        first c (inr step) = inr (step.0, step.1, same_settled step.0 c step.2)

        second : (d c : List ℕ) → SteppedFrom (SameBefore (slot_at slots)) old d → Same d c → SteppedFrom Same old c
        second d c (inl image) same = inr (d, image, same)
        second d c (inr step) same = inr (step.0, step.1, same_after step.0 d c step.2 same)

    pub frame_after : OnlyReads old mid → ChangesAlone Same slots old new
    frame_after reads = frame_of old new (later_on old mid new reads.later later) (λ given known.
        let then = reads.later.tells given known in
        leaves_on (SteppedFrom Same old) (SteppedFrom Same mid) (SteppedFrom Same old) old mid new
        reads.later.clock_is (reads_leave (SteppedFrom Same old) old mid (λ c image. inl image) reads) (frame.leaves then.0 then.1) (λ c from. from)
        (λ c from. elim from [
          | inl image ↦ inl (reads.images_are c image)
          | inr step ↦ inr (step.0, reads.images_are step.0 step.1, step.2)
        ]))

-- but one slot
module _ (slots slot : ℕ) (within : slot < slots) where
  pub slot_settled : (given c : List ℕ) → SameBefore (slot_at slots) given c → SameButSlotOf slots slot given c
  slot_settled given c same = record {
    size = same.size;
    before = λ p n below. same.before p n (omega (arith, below, within));
    after = λ p n above below. same.before p n below;
  }

  pub slot_after : (given d c : List ℕ) → SameBefore (slot_at slots) given d → SameButSlotOf slots slot d c → SameButSlotOf slots slot given c
  slot_after given d c first same = record {
    size = same.size ∙ first.size;
    before = λ p n below. same.before p n below ∙ first.before p n (omega (arith, below, within));
    after = λ p n above below. same.after p n above below ∙ first.before p n below;
  }

-- but several
module _ (slots : ℕ) (taken : List ℕ) where
  pub slots_settled : (given c : List ℕ) → SameBefore (slot_at slots) given c → SameButSlotsOf slots taken given c
  slots_settled given c same = record { size = same.size; same = λ at count outside. same.before at count outside.1 }

  pub slots_after : (given d c : List ℕ) → SameBefore (slot_at slots) given d → SameButSlotsOf slots taken d c → SameButSlotsOf slots taken given c
  slots_after given d c first same = record {
    size = same.size ∙ first.size;
    same = λ at count outside. same.same at count outside ∙ first.before at count outside.1;
  }

-- the first free slot of a store
module _ (t : Tables) (store : Store) (known : Option PlaceMap) (size : ℕ) where
  pub first_within : Represents store known t → IsValidFor size store → HasFree store.held → first_free store.held < t.slots
  first_within is valid free = omega (arith, some_free store.held free, valid.many, is.slots_are)

pub first_reads : (known : Option PlaceMap) (t : Tables) (old new : DiskView) → OnlyReads old new → ChangesFirstFree known t old new
first_reads known t old new reads = record {
  store_has = λ store is valid free. let within = first_within t store known old.size is valid free in
      frame_reads t.slots (SameButSlotOf t.slots (first_free store.held)) (slot_settled t.slots (first_free store.held) within) (slot_after t.slots (first_free store.held) within)
      old new reads;
}

pub first_changed : (known : Option PlaceMap) (t : Tables) (e : Ending) (old new : DiskView) → Changes (slot_at t.slots) e old new → ChangesFirstFree known t old new
first_changed known t e old new changes = record {
  store_has = λ store is valid free. let within = first_within t store known old.size is valid free in
      frame_changed t.slots (SameButSlotOf t.slots (first_free store.held)) (slot_settled t.slots (first_free store.held) within) (slot_after t.slots
      (first_free store.held) within)
      e old new changes;
}

pub first_on : {spares : ℕ} (known : Option PlaceMap) (t : Tables) (slot : ℕ) → HasSlotBeside spares t slot → (old mid new : DiskView) → Changes (slot_at t.slots) Done old mid
    → IsLater mid new → ChangesSlotAlone t.slots slot mid new
    → ChangesFirstFree known t old new
first_on {spares = spares} known t slot has old mid new changes later frame = record {
  store_has = λ store is valid free.
      let at : IsSlotOf spares slot store = (has.slot_is old.size known).store_has store is valid free in
      let within : slot < t.slots = omega (arith, at.within, is.slots_are) in
      subst (λ (i : ℕ). ChangesSlotAlone t.slots i old new) at.first
      (frame_on t.slots (SameButSlotOf t.slots slot) (slot_settled t.slots slot within) (slot_after t.slots slot within) old mid new later frame changes);
}

pub first_after : (known : Option PlaceMap) (t : Tables) (old mid new : DiskView) → OnlyReads old mid → IsLater mid new → ChangesFirstFree known t mid new
    → ChangesFirstFree known t old new
first_after known t old mid new reads later frame = record {
  store_has = λ store is valid free.
      let within = first_within t store known old.size is valid free in
      frame_after t.slots (SameButSlotOf t.slots (first_free store.held)) (slot_settled t.slots (first_free store.held) within) (slot_after t.slots (first_free store.held) within)
      old mid new later
      (frame.store_has store is (subst (λ (size : ℕ). IsValidFor size store) (sym reads.later.size_is) valid) free) reads;
}
