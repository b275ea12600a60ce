-- Two slots stay closed over steps that are none of a collection.
use Rattle.store_core.proofs.Prelude.{◌≡◌, inl, inr, ℕ, zero, suc, ◌+◌, ◌<◌, ◌≤◌, List, [], ◌∷◌, length, Option, Some, None, Result, Ok, refl, sym, ◌∙◌, ap, subst, arith, range, KnownWith, HeaderValue, OnlyReads, SteppedFrom, Change, Delete, Put, half_cells, size_of, slot_at, RESERVE, SLOT_BYTES, Answer, StepValue, JournalValue, Refusal, Store, Encodes, with_freed, HoldsSlot, free_slots, without_slot, StoreChange, SealContainer, ChangeName, FlushContainer, FreeContainer, with_change, with_sealed, free_sealed, IsSettled, ChangesBytes, record_alone, Stop, CoreStep, Effect, NamesOne, Row, SealsSome, Steps, StepsOr, StopsAfter, IsOn, KeepsBytes, AreNoGcSteps, ChangesTo, CoreRun, IsNoGcStep, changes_by, CoreState, Event}
use Rattle.std.proofs.lemmas.List.{length-take}
use Rattle.std.specs.Prelude.{◌-◌, slice_get, take}
use Rattle.actor_parts.specs.Offers.{sealed_of}
use Rattle.container_meta.specs.Segments.{Contents}
use Rattle.store_model.specs.Together.{Placed, with_all}
use Rattle.store_state.specs.Tables.{closed_from}
use Rattle.ingest_steps.specs.Offering.{offer_in}
use Rattle.ingest_steps.specs.SealingAll.{ChangesSlotsAlone, slots_of}
use Rattle.store_core.specs.Core.{next_id, seals_from}
use Rattle.base_model.specs.Bytes.{byte_at}
use Rattle.base_model.proofs.Ranges.{byte-range}
use Rattle.actor_parts.specs.declared.step.Answer.TheVariants as answers
use Rattle.actor_parts.specs.StepValue as asked
use Rattle.store_model.proofs.Freed.{slot_held}
use Rattle.store_model.proofs.Once.{slot_once}
use Rattle.store_core.specs.Frame.{HasReserveIn, ReserveStays}
use Rattle.store_core.proofs.CoreRuns.{running_step, stopped_reads, was_running}
use Rattle.store_core.proofs.FilledSlots.{IsOutOf, closed_with_all, many_with_all, room_with_all, some_not_none}
use Rattle.store_core.proofs.Frames.{Leads, begins, keeps_counted, keeps_here, keeps_record, keeps_sealed, step_leads}
use Rattle.store_core.proofs.ManySealed.{few_placed}

-- ---- slots of lists

within : (held : List (Option HeaderValue)) (slot : ℕ) (c : Option HeaderValue) → slice_get held slot ≡ Some c → slot < length held
within [] slot c is = absurd cc
within (d ∷ cs) zero c is = omega arith
within (d ∷ cs) (suc slot) c is = omega (arith, within cs slot c is)

there : (held : List (Option HeaderValue)) (slot : ℕ) → slot < length held → (c : Option HeaderValue) × (slice_get held slot ≡ Some c)
there [] slot below = absurd (omega (arith, below))
there (c ∷ cs) zero below = (c, refl)
there (c ∷ cs) (suc slot) below = there cs slot (omega (arith, below))

-- where all closed slots of the one are closed in the other, of as many
as_free : (held others : List (Option HeaderValue)) → length others ≡ length held → ((slot : ℕ) → slice_get held slot ≡ Some None → slice_get others slot ≡ Some None)
    → free_slots held ≤ free_slots others
as_free [] others many each = omega arith
as_free (c ∷ cs) [] many each = absurd (omega (arith, many))
as_free (None ∷ cs) (None ∷ os) many each = omega (arith, as_free cs os (omega (arith, many)) (λ slot is. each (suc slot) is))
as_free (None ∷ cs) (Some h ∷ os) many each = absurd (some_not_none h (each 0 refl))
as_free (Some g ∷ cs) (None ∷ os) many each = omega (arith, as_free cs os (omega (arith, many)) (λ slot is. each (suc slot) is))
as_free (Some g ∷ cs) (Some h ∷ os) many each = as_free cs os (omega (arith, many)) (λ slot is. each (suc slot) is)

-- ---- closed slots of an image

-- the slots that the store has closed are closed in the image
abbrev Closed : (ℕ → Type 0) → Store → List ℕ → Type 0
Closed But t image = (slot : ℕ) → slice_get t.held slot ≡ Some None → ¬ (But slot) → HoldsSlot image slot None

first_is : (at count : ℕ) (old new : List ℕ) → 1 ≤ count → range at count new ≡ range at count old → byte_at at new ≡ byte_at at old
first_is at count old new some same =
    let place : at + 0 ≡ at = omega arith in
    ap (λ (k : ℕ). byte_at k new) (sym place) ∙ sym (byte-range 0 at count new (omega (arith, some))) ∙ ap (byte_at 0) same
    ∙ byte-range 0 at count old (omega (arith, some)) ∙ ap (λ (k : ℕ). byte_at k old) place

still_closed : (slot : ℕ) (old new : List ℕ) → range (slot_at slot) SLOT_BYTES new ≡ range (slot_at slot) SLOT_BYTES old → HoldsSlot old slot None → HoldsSlot new slot None
still_closed slot old new same closed open_gate = closed (sym (first_is (slot_at slot) SLOT_BYTES old new (omega arith) same) ∙ open_gate)

module _ (u : Store) (image : List ℕ) (right : Encodes image u) where
  closed_in : (slot : ℕ) → slot < length u.held → HoldsSlot image slot None → slice_get u.held slot ≡ Some None
  closed_in slot below closed =
      let c = there u.held slot below in
      c.1 ∙ ap (λ (x : Option HeaderValue). Some x) (slot_once slot c.0 None image (slot_held slot u.held c.0 image right.slots_are c.1) closed)

-- as many slots
one_size : (a b : ℕ) → size_of a ≡ size_of b → a ≡ b
one_size a b same = omega (arith, same)

-- what is so of a store that a core is on, and of its content
record IsRoomy (t : Store) (given : List ℕ) (c : CoreState) : Type 0 where
  pub on : IsOn t c
  pub told : c.disk.content ≡ Some given
  pub size : length given ≡ size_of t.slots
  pub closed : Closed (λ slot. ⊥) t given
  pub enough : RESERVE ≤ free_slots t.held

many_of : (t : Store) (given : List ℕ) (c : CoreState) → IsRoomy t given c → (image : List ℕ) → length image ≡ length given → (u : Store) → Encodes image u
    → length u.held ≡ length t.held
many_of t given c roomy image size u right =
    right.many ∙ one_size u.slots t.slots (sym right.size ∙ size ∙ roomy.size) ∙ sym roomy.on.valid.many

-- all of them are
has_all : (t : Store) (given : List ℕ) (c : CoreState) → IsRoomy t given c → (image : List ℕ) → length image ≡ length given → Closed (λ slot. ⊥) t image → HasReserveIn image
has_all t given c roomy image size closed u right =
    let many = many_of t given c roomy image size u right in
    omega (
      arith,
      roomy.enough,
      as_free t.held u.held many
          (λ slot is. closed_in u image right slot (omega (arith, within t.held slot None is, many)) (closed slot is (λ none. none))),
    )

-- all but these are, which leave the slots of the reserve
has_others : (ps : List Placed) (t : Store) (given : List ℕ) (c : CoreState) → IsRoomy t given c → RESERVE + length ps ≤ free_slots t.held → (image : List ℕ)
    → length image ≡ length given
    → ((slot : ℕ) → slice_get t.held slot ≡ Some None → IsOutOf (slots_of ps) slot → HoldsSlot image slot None) → HasReserveIn image
has_others ps t given c roomy room image size closed u right =
    let many = many_of t given c roomy image size u right in
    let all = many_with_all ps t in
    omega (
      arith,
      room_with_all ps t room,
      as_free (with_all ps t).held u.held (many ∙ sym all)
          (λ slot is.
          let out = closed_with_all ps t slot is in
          closed_in u image right slot (omega (arith, within (with_all ps t).held slot None is, many, all)) (closed slot out.1 out.0)),
    )

-- ---- a step

-- no slot fewer is free once one of them is closed
free_more : (slot : ℕ) (held : List (Option HeaderValue)) → free_slots held ≤ free_slots (without_slot slot held)
free_more slot [] = omega arith
free_more zero (None ∷ cs) = omega arith
free_more zero (Some h ∷ cs) = omega arith
free_more (suc slot) (None ∷ cs) = omega (arith, free_more slot cs)
free_more (suc slot) (Some h ∷ cs) = free_more slot cs

-- no container of copies is written
abbrev pub NoneFlushed : List StoreChange → Type 0
NoneFlushed [] = Unit {0}
NoneFlushed (FlushContainer id kind segments ∷ rest) = ⊥
NoneFlushed (change ∷ rest) = NoneFlushed rest

seals_flush_none : (id : ℕ) (cs : List Contents) → NoneFlushed (seals_from id cs)
seals_flush_none id [] = tt
seals_flush_none id (c ∷ cs) = seals_flush_none (suc id) cs

none_flushed : (step : StepValue) (answer : Result Answer Refusal) → NoneFlushed (changes_by step answer)
none_flushed (asked.Seal offered) (Ok (answers.Sealed id count)) = seals_flush_none (id + 1 - count) (take count offered)
none_flushed (asked.Commit name root) (Ok answer) = tt
none_flushed (asked.Delete name) (Ok answer) = tt
none_flushed step answer = tt

-- other changes leave as many slots as the reserve has
pub enough_after : (changes : List StoreChange) (s t : Store) → NoneFlushed changes → ChangesTo changes s t → RESERVE ≤ free_slots s.held → RESERVE ≤ free_slots t.held
enough_after [] s t none chain enough = subst (λ (x : Store). RESERVE ≤ free_slots x.held) (sym chain) enough
enough_after (SealContainer id kind segments ∷ rest) s t none chain enough =
    enough_after rest (with_sealed id kind segments s) t none chain.1 (omega (arith, chain.0.slot, free_sealed id kind segments s chain.0))
enough_after (ChangeName name change ∷ rest) s t none chain enough = enough_after rest (with_change name change s) t none chain.1 enough
enough_after (FlushContainer id kind segments ∷ rest) s t none chain enough = absurd none
enough_after (FreeContainer slot ∷ rest) s t none chain enough = enough_after rest (with_freed slot s) t none chain.1 (omega (arith, enough, free_more slot s.held))

module _ (t : Store) (given : List ℕ) (old new : CoreState) (roomy : IsRoomy t given old) where
  abbrev on : IsOn t old
  on = roomy.on

  slots_are : old.tables.slots ≡ t.slots
  slots_are = on.represents.slots_are

  settled : IsSettled t.slots old.disk
  settled = subst (λ (n : ℕ). IsSettled n old.disk) slots_are on.settled

  -- a content of which these slots are as they were
  closed_by : (But : ℕ → Type 0) (image : List ℕ) → KeepsBytes t half_cells ⊥ (λ slot. (slice_get t.held slot ≡ Some None) × ¬ (But slot)) given image → Closed But t image
  closed_by But image keeps slot is differ =
      still_closed slot given image (keeps.slots slot (subst (λ (n : ℕ). slot < n) on.valid.many (within t.held slot None is)) (is, differ)) (roomy.closed slot is (λ none. none))

  by_reads : OnlyReads old.disk new.disk → KnownWith new.disk.content HasReserveIn
  by_reads reads = (given, reads.content_is ∙ roomy.told, has_all t given old roomy given refl roomy.closed)

  -- it goes on
  roomy_on : (e : Event) → IsNoGcStep e.step → new.stop ≡ None → Steps e old new → (u : Store) × ((bytes : List ℕ) × IsRoomy u bytes new)
  roomy_on e other stays steps =
      let next = step_leads t given t old new (begins t given old on roomy.told) stays e other steps in
      let bytes = next.framed.content.0 in
      let adds = next.framed.content.2 in
      let many : length next.after.held ≡ length t.held = next.framed.on.valid.many ∙ next.framed.slots_are ∙ sym on.valid.many in (
        next.after,
        (
          bytes,
          record {
            on = next.framed.on;
            told = next.framed.content.1;
            size = adds.size_is ∙ roomy.size ∙ ap size_of (sym next.framed.slots_are);
            closed = λ slot is none.
                let below : slot < length t.held = omega (arith, within next.after.held slot None is, many) in
                let was = was_closed next slot is (there t.held slot below) in
                still_closed slot given bytes (adds.slots slot (subst (λ (n : ℕ). slot < n) on.valid.many below) (is ∙ sym was)) (roomy.closed slot was (λ no. no));
            enough = enough_after (changes_by e.step e.answer) t next.after (none_flushed e.step e.answer) next.chain roomy.enough;
          },
        ),
      )
    where
      was_by : (after : Store) (slot : ℕ) (c : Option HeaderValue) → ((h : HeaderValue) → slice_get t.held slot ≡ Some (Some h) → slice_get after.held slot ≡ Some (Some h))
          → slice_get after.held slot ≡ Some None
          → slice_get t.held slot ≡ Some c → slice_get t.held slot ≡ Some None
      was_by after slot None held is here = here
      was_by after slot (Some h) held is here = absurd (some_not_none h (sym (held h here) ∙ is))

      was_closed : (next : Leads t given (changes_by e.step e.answer) t new) (slot : ℕ) → slice_get next.after.held slot ≡ Some None → (c : Option HeaderValue)
          × (slice_get t.held slot ≡ Some c) → slice_get t.held slot ≡ Some None
      was_closed next slot is here = was_by next.after slot here.0 (next.framed.held slot) is here.1

  -- containers that were to be stored may stand in closed slots, where there is room for them beside the reserve
  sealed_room : (offered : List Contents) (answer : Result Answer Refusal) → SealsSome offered answer old new → KnownWith new.disk.content HasReserveIn
  sealed_room offered answer effect =
      let n : ℕ = sealed_of (length offered) (free_slots t.held) old.tables.held.last_id in
      let ps : List Placed = offer_in old.tables offered t in
      let taken : List ℕ = slots_of ps in
      let frame = subst (λ (k : ℕ). ChangesSlotsAlone k taken old.disk new.disk) slots_are (effect.moves.frame.store_has t on.represents on.valid on.has_free) in
      let left = (frame.settled settled given roomy.told).0 in
      let Stays : ℕ → Type 0 = λ slot. (slice_get t.held slot ≡ Some None) × IsOutOf taken slot in
      let keeps = keeps_sealed t given half_cells ⊥ Stays given (keeps_here t given half_cells ⊥ Stays) taken left.0 (λ slot stays. stays.1) left.2 in (
        left.0,
        left.1,
        has_others ps t given old roomy
            (omega (arith, roomy.enough, few_placed (closed_from 0 t.held) (next_id old) (take n offered), length-take n offered)) left.0 left.2.size
            (λ slot is out. still_closed slot given left.0
            (keeps.slots slot (subst (λ (k : ℕ). slot < k) on.valid.many (within t.held slot None is)) (is, out)) (roomy.closed slot is (λ none. none))),
      )

  abbrev journal : JournalValue
  journal = old.tables.journal

  low : journal.half ≤ 1
  low = subst (λ (n : ℕ). n ≤ 1) (sym on.represents.names_are.half) on.valid.selector_right.half

  abbrev AllStay : ℕ → Type 0
  AllStay slot = (slice_get t.held slot ≡ Some None) × ¬ ⊥

  -- a name changes the journal alone
  named_room : (name : List ℕ) (change : Change) (answer : Result Answer Refusal) → NamesOne name change answer old new → KnownWith new.disk.content HasReserveIn
  named_room name change answer effect =
      let now = effect.disk.later.tells given roomy.told in
      let counted : (c : List ℕ) → old.disk.images c
      → KeepsBytes t half_cells ⊥ AllStay given c = λ c image. keeps_counted t given half_cells ⊥ AllStay given (keeps_here t given half_cells ⊥ AllStay) c
      (settled given roomy.told c image) in
      let keeps = λ (c : List ℕ) (from : SteppedFrom (ChangesBytes old.tables name change given) old.disk c). elim from as (λ _. KeepsBytes t half_cells ⊥ AllStay given c) [
        | inl image ↦ counted c image
        | inr step ↦ keeps_record t given half_cells ⊥ AllStay step.0 (counted step.0 step.1) half_cells ⊥ c (record_alone journal step.0 c low step.2.same) (λ none. absurd none)
      ] in
      let last = keeps now.0 ((effect.frame.leaves given roomy.told).now now.0 (new.disk.as_read now.0 now.1)) in
      (now.0, now.1, has_all t given old roomy now.0 last.size_is (closed_by (λ slot. ⊥) now.0 last))

  -- a step that stops the core
  module _ (stop : Stop) (stopped : new.stop ≡ Some stop) where
    by_effect : (actor : ℕ) (buf : List ℕ) (step : StepValue) (answer : Result Answer Refusal) → IsNoGcStep step → Row step actor answer buf old new → Effect step answer old new
        → StopsAfter step answer old.acknowledged new.stop
        → KnownWith new.disk.content HasReserveIn
    by_effect actor buf (asked.Seal offered) answer other row effect stops = sealed_room offered answer effect
    by_effect actor buf (asked.Commit name root) answer other row effect stops = named_room name (Put root) answer effect
    by_effect actor buf (asked.Delete name) answer other row effect stops = named_room name Delete answer effect
    by_effect actor buf asked.GcStep answer other row effect stops = absurd other
    by_effect actor buf it answer other row effect stops = by_reads effect.disk.only

    by_stop : (e : Event) (was : Option Stop) → IsNoGcStep e.step → StepsOr was e old new → KnownWith new.disk.content HasReserveIn
    by_stop e None other steps = by_effect e.actor e.buf e.step e.answer other steps.made.row steps.made.effect steps.stops
    by_stop e (Some before) other steps = by_reads steps.same.disk.only

-- ---- a run

module _ (C : Type 0) (state : C → CoreState) where
  abbrev HasAtEnd : C → Type 0
  HasAtEnd new = KnownWith (state new).disk.content HasReserveIn

  -- a step, and what follows where it didn't stop the core
  after_step : (e : Event) (es : List Event) (t : Store) (given : List ℕ) (old mid new : C) → IsNoGcStep e.step → IsRoomy t given (state old) → CoreStep (state old) e (state mid)
      → CoreRun C state es mid new
      → ((u : Store) (bytes : List ℕ) → IsRoomy u bytes (state mid) → HasAtEnd new) → (stop : Option Stop) → (state mid).stop ≡ stop → HasAtEnd new
  after_step e es t given old mid new other roomy step run others None is =
      let was = was_running (state old).stop e (state old) (state mid) refl step is in
      let next = roomy_on t given (state old) (state mid) roomy e other is (running_step (state old) (state mid) e was step) in
      others next.0 next.1.0 next.1.1
  after_step e es t given old mid new other roomy step run others (Some stop) is =
      let here = by_stop t given (state old) (state mid) roomy stop is e (state old).stop other step in
      (here.0, (stopped_reads C state stop es mid new is run).content_is ∙ here.1, here.2)

  run_roomy : (events : List Event) (t : Store) (given : List ℕ) (old new : C) → AreNoGcSteps events → IsRoomy t given (state old) → CoreRun C state events old new → HasAtEnd new
  run_roomy [] t given old new others roomy run =
      subst (λ (c : C). HasAtEnd c) (sym run) (given, roomy.told, has_all t given (state old) roomy given refl roomy.closed)
  run_roomy (e ∷ es) t given old new others roomy run =
      after_step e es t given old run.0 new others.0 roomy run.1.0 run.1.1 (λ u bytes there. run_roomy es u bytes run.0 new others.1 there run.1.1) (state run.0).stop refl

  pub reserve_stays : ReserveStays C state
  reserve_stays events s base old new on told right enough run others =
      run_roomy events s base old new others (record {
        on = on;
        told = told;
        size = right.size;
        closed = λ slot is none. slot_held slot s.held None base right.slots_are is;
        enough = enough;
      }) run
