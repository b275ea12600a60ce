-- What a step of a collection leaves of the bytes: all before the end of the slots, but for the slot that it writes copies to, or the gates of the
-- containers that it gives back.
use Rattle.core_machine.proofs.Prelude.{◌==◌, ◌≡◌, inl, inr, ◌+◌, ◌<◌, ◌≤◌, ℕ, suc, List, [], ◌∷◌, Some, None, refl, ◌∙◌, ap, subst, arith, AllByRecursion, KnownWith, segment_key, Broken, Ending, ending_of, OnlyReads, slot_at, RESERVE, Mark, Filter, Select, IsSafe, IsStepRefusal, Touches, phase_at, HoldsAt, held_at, at_stage, Next, Flush, Release, End, HoldsSweep, SourcesStand, IsSweeping, sources_before, Refusal, SameBefore, ByteSet, IsIn, Encodes, SameButGates, Store, free_slots, with_sealed, HasNewest, blames, IsSettled, Represents, at_moment, IsAt, IsSafeIn, CoreState, IsUnderWayIn, FileMachine, Makes, Stopped, AllHeld, OnlyGates, SameButSlot, SameStore, stored_in, changes_of, stores_of}
use Rattle.std.specs.Prelude.{count_by}
use Rattle.container_meta.specs.Segments.{Contents}
use Rattle.dd_disk.specs.Ending.{Done}
use Rattle.gc_steps.specs.declared.collection.Collection.{Collection}
use Rattle.gc_steps.specs.declared.collection.Stage.{Stage}
use Rattle.gc_steps.specs.declared.collection.Stage.TheVariants.{Sweep}
use Rattle.gc_steps.proofs.Sparing.{held_within}
use Rattle.gc_sweep.specs.declared.sweep.Next.TheVariants.{Copy}
use Rattle.gc_sweep.specs.UnderWay.{free_in, taken_from}
use Rattle.gc_sweep.proofs.Holds.{AreInTurn, in_turn}
use Rattle.gc_sweep.proofs.HoldsRoom.{are_newest, may_flush}
use Rattle.gc_sweep.proofs.InSlots.{IsSourceIn}
use Rattle.ingest_steps.specs.Sealing.{FitBeside}
use Rattle.store_model.specs.Collisions.{Stands}
use Rattle.store_model.specs.Steps.{MaySeal}
use Rattle.store_model.proofs.Free.{zeros_free}
use Rattle.store_core.proofs.AtStore.{shows_here}
use Rattle.core_machine.specs.Bytes.{BreaksOff, Sweeps}
use Rattle.core_machine.proofs.Bytes.{before_same, but_gates, but_gates_none, known_weaker}
use Rattle.core_machine.proofs.BytesAt.{IsRest, all_held, counts_told, rest_told, right_here, same_store, slot_told, stands_here}

-- A core is at the store of a machine, whose collection goes on.
module _ (among : ByteSet) (m : FileMachine) (old new : CoreState) (at : IsAt (IsIn among) m.store (stored_in m.now) old) (calm : IsSettled old.tables.slots old.disk)
    (c : Collection) (runs : old.collection ≡ Some c) where
  abbrev S : List ℕ → Type 0
  S = IsIn among

  abbrev image : List ℕ
  image = at.stands.known.0

  abbrev here : old.disk.content ≡ Some image
  here = at.stands.known.1

  abbrev Told : (List ℕ → Type 0) → Type 0
  Told P = KnownWith new.disk.content P

  abbrev Counts : Type 0
  Counts = Told (SameBefore (slot_at m.store.slots) image)

  right : Encodes image m.store
  right = right_here S m.store (stored_in m.now) old new at

  read_counts : OnlyReads old.disk new.disk → Counts
  read_counts reads = (image, reads.content_is ∙ here, before_same (slot_at m.store.slots) image)

  -- it neither writes copies nor gives containers back
  abbrev GivesNothing : Stage → Next → Type 0
  GivesNothing Sweep (Flush source entry) = ⊥
  GivesNothing Sweep (Release source entry) = ⊥
  GivesNothing stage next = Unit {0}

  nothing : (stage : Stage) (next : Next) (e : Ending) → GivesNothing stage next → Touches stage next c.sweep old.tables e old.disk new.disk → Counts
  nothing Sweep (Copy source entry) e none touches = counts_told S m.store (stored_in m.now) old new at (touches m.store.slots at.valid.size_is).content_is
  nothing Sweep (Flush source entry) e none touches = absurd none
  nothing Sweep (Release source entry) e none touches = absurd none
  nothing Sweep End e none touches = read_counts touches.only
  nothing other next e none touches = read_counts touches.only

  safe : IsSafe at.index m.store old.parts image c
  safe = subst (IsSafeIn at.index m.store old.parts image) runs (at.safe image here)

  -- ---- a sweep

  module _ (source entry : ℕ) (stage_is : c.stage ≡ Sweep) where
    was_held : HoldsSweep at.index m.store.held image c.live c.snapshot c.sweep
    was_held =
        let both : SourcesStand m.store.held c.snapshot c.sweep × HoldsSweep at.index m.store.held image c.live c.snapshot c.sweep =
        subst (λ (stage : Stage). HoldsAt stage at.index m.store.held image c) stage_is (held_at at.index m.store old.parts image c safe) in both.1

    sweeping : IsSweeping old.tables.held c.snapshot c.sweep
    sweeping = at_stage old.tables.held c Sweep (subst (IsUnderWayIn old.tables.held) runs at.under_way) stage_is

    represents : Represents m.store (Some at.index) old.tables
    represents = shows_here S m.store (stored_in m.now) old at

    -- ---- copies that are written

    abbrev filled : Contents
    filled = c.sweep.buffer

    abbrev Flushing : Ending → Type 0
    Flushing e = Touches Sweep (Flush source entry) c.sweep old.tables e old.disk new.disk

    flushed_slot : (e : Ending) → Flushing e → Told (SameButSlot image)
    flushed_slot e touches = slot_told S m.store (stored_in m.now) old new at calm (touches.1.frame old.known)

    room : c.sweep.next ≡ Flush source entry → 1 < free_slots m.store.held
    room next_is =
        let two : RESERVE ≤ free_in old.tables.held + 0 = subst (λ (n : Next). RESERVE ≤ free_in old.tables.held + taken_from n) next_is sweeping.room in
        let free_is : free_in old.tables.held ≡ free_slots m.store.held =
        ap (λ (ids : List ℕ). count_by (λ id. id == 0) ids) at.represents.slots_hold.ids_are ∙ zeros_free m.store.held at.valid.headers in
        omega (arith, two, free_is)

    newest : AllByRecursion (λ x. HasNewest m.store.held (segment_key filled.kind x) x.level x.bytes image) filled.segments
    newest = are_newest at.index m.store.held image c.live c.snapshot c.sweep was_held

    stands : Stands S m.store m.now.names image
    stands = stands_here S m.store (stored_in m.now) old new at

    may : AllByRecursion (MaySeal S filled.kind) filled.segments
    may = may_flush at.index m.store.held image c.live c.snapshot c.sweep was_held S stands.holds.nodes stands.among

    fit : FitBeside S at.index filled.kind filled.segments m.store image
    fit = inr (inr newest)

    were_held : AllHeld image filled
    were_held = all_held S m.store m.now.names image stands filled newest

    abbrev written : Store
    written = with_sealed (old.tables.held.last_id + 1) filled.kind filled.segments m.store

    are_held : Flushing Done → (now : List ℕ) → new.disk.content ≡ Some now → AllHeld now filled
    are_held touches now told =
        let moved = touches.1.moves among m.store (Some at.index) at.index m.now.names image represents here may (at.invariant image here).files_are_indexed fit at.stands in
        let holds = touches.1.holds among m.store (Some at.index) at.index m.now.names image now represents here told stands may fit in
        all_held S written m.now.names now (moved.arrives.each now (new.disk.as_read now told)) filled holds.1

    -- ---- containers that are given back

    abbrev Freeing : Ending → Type 0
    Freeing e = Touches Sweep (Release source entry) c.sweep old.tables e old.disk new.disk

    abbrev gone : List ℕ
    gone = c.sweep.ready.items

    module _ (next_is : c.sweep.next ≡ Release source entry) where
      turn : AreInTurn at.index m.store.held c.snapshot c.sweep
      turn = in_turn old.tables.held at.index m.store.held image c.live c.snapshot source entry c.sweep represents.slots_hold sweeping next_is was_held

      within : AllByRecursion (λ slot. slot < m.store.slots) gone
      within = each gone turn.stand
        where
          each : (slots : List ℕ) → AllByRecursion (IsSourceIn m.store.held c.snapshot c.sweep.sources.items (sources_before c.sweep c.sweep.next)) slots
              → AllByRecursion (λ slot. slot < m.store.slots) slots
          each [] stand = tt
          each (slot ∷ slots) stand = (omega (arith, held_within m.store.held slot stand.0.header stand.0.there, at.valid.many), each slots stand.1)

      freed_gates : Freeing Done → Told (OnlyGates gone m.store.slots image)
      freed_gates touches =
          known_weaker new.disk.content (SameButGates gone image) (OnlyGates gone m.store.slots image)
          (λ now gates. but_gates m.store.slots gone within image image now (before_same (slot_at m.store.slots) image) gates)
          (touches.2.content refl image here)

      before_by : (d : List ℕ) → old.disk.images d → SameBefore (slot_at m.store.slots) image d
      before_by d left = subst (λ (n : ℕ). SameBefore (slot_at n) image d) at.represents.slots_are (calm image here d left)

      broken_gates : Freeing Broken → Told (OnlyGates gone m.store.slots image)
      broken_gates touches =
          let (now, told, so) = touches.0.later.tells image here in (
            now,
            told,
            elim ((touches.2.leaves image here).now now (new.disk.as_read now told)) [
              | inl was ↦ but_gates_none m.store.slots image now (before_by now was) gone within
              | inr step ↦ but_gates m.store.slots gone within image step.0 now (before_by step.0 step.1) step.2
            ],
          )

  -- ---- how it ended

  module _ (n : FileMachine) where
    swept_none : n.store ≡ m.store → Counts → Told (Sweeps m n image)
    swept_none same counts =
        known_weaker new.disk.content (SameBefore (slot_at m.store.slots) image) (Sweeps m n image)
        (λ now before. inl (same, same_store S m.store (stored_in m.now) old new at now before)) counts

    pub swept : (stage : Stage) (next : Next) (last : ℕ) → c.stage ≡ stage → c.sweep.next ≡ next → Touches stage next c.sweep old.tables Done old.disk new.disk
        → Makes (changes_of (phase_at stage next) last c.sweep) m.store n.store → Told (Sweeps m n image)
    swept (Mark level slot) next last is next_is touches same = swept_none same (nothing (Mark level slot) next Done tt touches)
    swept (Filter slot) next last is next_is touches same = swept_none same (nothing (Filter slot) next Done tt touches)
    swept Select next last is next_is touches same = swept_none same (nothing Select next Done tt touches)
    swept Sweep (Copy source entry) last is next_is touches same = swept_none same (nothing Sweep (Copy source entry) Done tt touches)
    swept Sweep (Flush source entry) last is next_is touches (can, same) =
        let (now, told, but) = flushed_slot source entry is Done touches in
        (now, told, inr (inl (suc last, (c.sweep.buffer, (same, but, were_held source entry is, are_held source entry is touches now told)))))
    swept Sweep (Release source entry) last is next_is touches makes =
        let gone : List ℕ = c.sweep.ready.items in
        known_weaker new.disk.content (OnlyGates gone m.store.slots image) (Sweeps m n image)
        (λ now gates. inr (inr (gone, (makes, (m.store, (right, gates)))))) (freed_gates source entry is next_is touches)
    swept Sweep End last is next_is touches same = swept_none same (nothing Sweep End Done tt touches)

    broke_none : n.state ≡ Stopped None [] → Counts → Told (BreaksOff m n image)
    broke_none same counts =
        known_weaker new.disk.content (SameBefore (slot_at m.store.slots) image) (BreaksOff m n image)
        (λ now before. inl (same, same_store S m.store (stored_in m.now) old new at now before)) counts

    pub broke : (stage : Stage) (next : Next) (last : ℕ) → c.stage ≡ stage → c.sweep.next ≡ next → Touches stage next c.sweep old.tables Broken old.disk new.disk
        → n.state ≡ Stopped None (stores_of (phase_at stage next) last c.sweep m.store) → Told (BreaksOff m n image)
    broke (Mark level slot) next last is next_is touches same = broke_none same (nothing (Mark level slot) next Broken tt touches)
    broke (Filter slot) next last is next_is touches same = broke_none same (nothing (Filter slot) next Broken tt touches)
    broke Select next last is next_is touches same = broke_none same (nothing Select next Broken tt touches)
    broke Sweep (Copy source entry) last is next_is touches same = broke_none same (nothing Sweep (Copy source entry) Broken tt touches)
    broke Sweep (Flush source entry) last is next_is touches same =
        known_weaker new.disk.content (SameButSlot image) (BreaksOff m n image)
        (λ now but. inr (inl (suc last, (c.sweep.buffer, (same, room source entry is next_is, but))))) (flushed_slot source entry is Broken touches)
    broke Sweep (Release source entry) last is next_is touches same =
        known_weaker new.disk.content (OnlyGates c.sweep.ready.items m.store.slots image) (BreaksOff m n image)
        (λ now gates. inr (inr (c.sweep.ready.items, (same, (m.store, (right, gates)))))) (broken_gates source entry is next_is touches)
    broke Sweep End last is next_is touches same = broke_none same (nothing Sweep End Broken tt touches)

  -- a refusal that is no write that failed
  refused_counts : (stage : Stage) (next : Next) (refusal : Refusal) → IsRest (ending_of (blames refusal)) → IsStepRefusal stage next (at_moment old c) new.disk refusal
      → Touches stage next c.sweep old.tables (ending_of (blames refusal)) old.disk new.disk → Counts
  refused_counts (Mark level slot) next refusal rests cause touches = nothing (Mark level slot) next (ending_of (blames refusal)) tt touches
  refused_counts (Filter slot) next refusal rests cause touches = nothing (Filter slot) next (ending_of (blames refusal)) tt touches
  refused_counts Select next refusal rests cause touches = nothing Select next (ending_of (blames refusal)) tt touches
  refused_counts Sweep (Copy source entry) refusal rests cause touches = nothing Sweep (Copy source entry) (ending_of (blames refusal)) tt touches
  refused_counts Sweep (Flush source entry) refusal rests cause touches =
      rest_told S m.store (stored_in m.now) old new at (ending_of (blames refusal)) rests touches.0.left
  refused_counts Sweep (Release source entry) refusal rests cause touches = absurd (subst (λ (r : Refusal). IsRest (ending_of (blames r))) cause rests)
  refused_counts Sweep End refusal rests cause touches = nothing Sweep End (ending_of (blames refusal)) tt touches

  pub refused : (stage : Stage) (next : Next) (refusal : Refusal) → IsRest (ending_of (blames refusal)) → IsStepRefusal stage next (at_moment old c) new.disk refusal
      → Touches stage next c.sweep old.tables (ending_of (blames refusal)) old.disk new.disk → Told (SameStore image)
  refused stage next refusal rests cause touches =
      known_weaker new.disk.content (SameBefore (slot_at m.store.slots) image) (SameStore image) (same_store S m.store (stored_in m.now) old new at)
      (refused_counts stage next refusal rests cause touches)
