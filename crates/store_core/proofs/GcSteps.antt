-- Where a step of a collection leads.
use Rattle.store_core.proofs.Prelude.{some_same, blames, ACTORS, Answer, ChangesTo, FileEvent, IsAt, IsSafeIn, ByteSet, IsIn, Stands, Collection, HasKey, CoreInvariant, CoreState, IsUnderWayIn, Did, Done, Ending, Reads, ending_of, Filter, Mark, Select, SweepStage, Flush, Release, End, [], Err, List, None, Ok, Option, Result, Some, ap, arith, length, refl, subst, sym, ℕ, ◌∙◌, ◌∷◌, ◌≡◌, ◌≤◌, FlushContainer, FreeContainer, StoreChange, GcEffect, GcRow, IsNotMade, TouchesBy, GoesOn, HasEnded, at_moment, HasNewest, DiskView, IsLater, OnlyReads, IsNeeded, IsSafe, IsStoreAfter, step_safe, IsStoreOf, IsUnderWay, IsValidFor, Store, JournalValue, Part, Phase, PlaceMap, Refusal, Represents, Stage, StandsFor, IsStepRefusal, Keeps, Moment, StepsTo, TablesAfter, Touches, answer_at, moment, phase_at, StopsAfter, Stored, Tables, stands_reads, AllByRecursion, eqb-false, map, false, other_there, with_freed}
use Rattle.refusals.specs.declared.refusal.Refusal.TheVariants as refusals
use Rattle.actor_parts.specs.declared.step.Answer.TheVariants as answers
use Rattle.actor_parts.specs.StepValue as asked
use Rattle.gc_sweep.specs.declared.sweep.Next.{Next}
use Rattle.gc_sweep.specs.declared.sweep.Next.TheVariants.{Copy}
use Rattle.gc_sweep.specs.declared.sweep.Sweep.{Sweep}
use Rattle.store_core.specs.Collecting.{NoneRuns}
use Rattle.store_core.proofs.Leading.{AreChangesBy, Leads}
use Rattle.std.specs.List.{IsDistinct}
use Rattle.std.specs.Prelude.{nat_eq}
use Rattle.store_model.specs.Freeing.{with_all_freed}
use Rattle.store_model.specs.Steps.{CanFree}
use Rattle.gc_sweep.proofs.KeyLists.{each_so}
use Rattle.gc_steps.specs.Stepping.{answer_of}
use Rattle.gc_steps.proofs.RefusedSafe.{refused_safe}
use Rattle.gc_steps.proofs.StepSafe.{IsSourceAt}

-- ---- the store

-- what a step is called
pub phase_is : (stage : Stage) (next : Next) (freed copied : ℕ) (phase : Phase) → answer_at stage next freed copied ≡ Did phase → phase_at stage next ≡ phase
phase_is SweepStage (Copy source entry) freed copied phase is = cc
phase_is SweepStage (Flush source entry) freed copied phase is = cc
phase_is SweepStage (Release source entry) freed copied phase is = cc
phase_is SweepStage End freed copied phase is = absurd (let wrong = is in cc)
phase_is other next freed copied phase is = cc

pub phase_of : (c : Collection) (phase : Phase) → answer_of c ≡ Did phase → phase_at c.stage c.sweep.next ≡ phase
phase_of c phase is = phase_is c.stage c.sweep.next c.sweep.freed c.sweep.copied phase is

-- once a slot is closed the containers of others can be given back still
free_still : (slot : ℕ) (others : List ℕ) (s : Store) → AllByRecursion (λ other. nat_eq slot other ≡ false) others → AllByRecursion (λ other. CanFree other s) others
    → AllByRecursion (λ other. CanFree other (with_freed slot s)) others
free_still slot [] s apart can = tt
free_still slot (other ∷ others) s apart can =
    ((can.0.0, other_there slot other s.held (eqb-false slot other apart.0) ∙ can.0.1), free_still slot others s apart.1 can.1)

-- so those of slots that differ are given back, one after the other
pub frees_each : (slots : List ℕ) (s t : Store) → AllByRecursion (λ slot. CanFree slot s) slots → IsDistinct nat_eq slots → t ≡ with_all_freed slots s
    → ChangesTo (map FreeContainer slots) s t
unfolding IsDistinct
frees_each [] s t can apart is = is
frees_each (slot ∷ slots) s t can apart is = (can.0, frees_each slots (with_freed slot s) t (free_still slot slots s apart.0 can.1) apart.1 is)

-- the changes of a step: a container is written, or those of slots are given back, just where the sweep comes to that
stage_changes : (stage : Stage) (next : Next) (snapshot : ℕ) (sweep : Sweep) (index : PlaceMap) (s t : Store) (image : List ℕ)
    → IsStoreAfter stage next snapshot sweep index s t image
    → (changes : List StoreChange) × (AreChangesBy asked.GcStep (Ok (answers.Did (phase_at stage next))) changes × ChangesTo changes s t)
stage_changes (Mark level slot) next snapshot sweep index s t image same = ([], (refl, same))
stage_changes (Filter slot) next snapshot sweep index s t image same = ([], (refl, same))
stage_changes Select next snapshot sweep index s t image same = ([], (refl, same))
stage_changes SweepStage (Copy source entry) snapshot sweep index s t image same = ([], (refl, same))
stage_changes SweepStage (Flush source entry) snapshot sweep index s t image flushes = (
  FlushContainer flushes.id sweep.buffer.kind sweep.buffer.segments ∷ [],
  ((flushes.id, sweep.buffer.kind, sweep.buffer.segments, refl), (flushes.can, flushes.now_is)),
)
stage_changes SweepStage (Release source entry) snapshot sweep index s t image frees =
    let slots : List ℕ = sweep.ready.items in
    let can = each_so (IsSourceAt s.held sweep.sources.items) (λ slot. CanFree slot s) slots (λ slot is. (is.header, is.there)) frees.stand in
    (map FreeContainer slots, ((slots, refl), frees_each slots s t can frees.apart frees.now_is))
stage_changes SweepStage End snapshot sweep index s t image same = ([], (refl, same))

did_changes : (c : Collection) (phase : Phase) (index : PlaceMap) (s t : Store) (image : List ℕ) → answer_of c ≡ Did phase
    → IsStoreAfter c.stage c.sweep.next c.snapshot c.sweep index s t image
    → (changes : List StoreChange) × (AreChangesBy asked.GcStep (Ok (answers.Did phase)) changes × ChangesTo changes s t)
did_changes c phase index s t image is after =
    subst (λ (p : Phase). (changes : List StoreChange) × (AreChangesBy asked.GcStep (Ok (answers.Did p)) changes × ChangesTo changes s t)) (phase_of c phase is)
    (stage_changes c.stage c.sweep.next c.snapshot c.sweep index s t image after)

-- the journal is what it was
journal_same : (stage : Stage) (next : Next) (old new : Moment) → TablesAfter stage next old new → new.tables.journal ≡ old.tables.journal
journal_same SweepStage (Copy source entry) old new after = ap (λ (x : Tables). x.journal) after
journal_same SweepStage (Flush source entry) old new after = ap (λ (x : Tables). x.journal) after.1.written.others_stay
journal_same SweepStage (Release source entry) old new after = ap (λ (x : Tables). x.journal) after.others_stay
journal_same SweepStage End old new after = ap (λ (x : Tables). x.journal) after
journal_same other next old new after = ap (λ (x : Tables). x.journal) after

-- at its end it only reads
pub end_reads : (c : Collection) (t : Tables) (e : Ending) (old new : DiskView) → c.stage ≡ SweepStage → c.sweep.next ≡ End → Touches c.stage c.sweep.next c.sweep t e old new
    → Reads e old new
end_reads c t e old new stage next touches =
    subst (λ (n : Next). Touches SweepStage n c.sweep t e old new) next (subst (λ (s : Stage). Touches s c.sweep.next c.sweep t e old new) stage touches)

-- ---- a step

-- the step of an actor
abbrev gc_event : ℕ → Result Answer Refusal → List ℕ → List ℕ → FileEvent
gc_event actor answer buf bytes = record { event = record { actor = actor; step = asked.GcStep; answer = answer; buf = buf }; bytes = bytes }

module _ (among : ByteSet) (s : Store) (stored : Stored) (old new : CoreState) (actor : ℕ) (buf bytes : List ℕ) (at : IsAt (IsIn among) s stored old)
    (stays : new.stop ≡ None) where
  abbrev image : List ℕ
  image = at.stands.known.0

  abbrev here : old.disk.content ≡ Some image
  here = at.stands.known.1

  abbrev represents : Represents s (Some at.index) old.tables
  represents = subst (λ (known : Option PlaceMap). Represents s known old.tables) at.index_known at.represents

  abbrev holds : IsStoreOf s stored.files image
  holds = (at.stands.each image (old.disk.as_read image here)).holds

  abbrev Led : Result Answer Refusal → Type 0
  Led answer = Leads (IsIn among) s (gc_event actor answer buf bytes) stored old new

  abbrev few : length old.parts ≤ ACTORS
  few = omega (arith, at.many)

  -- what holds afterwards, by the store, the map of the index and the content that there are then
  module _ (now : List ℕ) (told : new.disk.content ≡ Some now) (goes : IsLater old.disk new.disk) (parts : new.parts ≡ old.parts)
      (under_way : IsUnderWayIn new.tables.held new.collection) where
    at_now : (t : Store) (later : PlaceMap) → new.known ≡ Some later → Represents t (Some later) new.tables → IsValidFor new.disk.size t
        → StandsFor (Stands (IsIn among) t stored.files) new.disk
        → new.tables.journal ≡ old.tables.journal → CoreInvariant later t stored.files old.parts now → IsSafeIn later t old.parts now new.collection
        → IsAt (IsIn among) t stored new
    at_now t later known is valid stands journal core safe = record {
      represents = subst (λ (k : Option PlaceMap). Represents t k new.tables) (sym known) is;
      index = later;
      index_known = known;
      valid = valid;
      stands = stands;
      last_is = ap (λ (j : JournalValue). j.last) journal ∙ at.last_is;
      invariant = λ c is. subst (CoreInvariant later t stored.files new.parts) (some_same now c (sym told ∙ is))
          (subst (λ (p : List Part). CoreInvariant later t stored.files p now) (sym parts) core);
      many = ap length parts ∙ at.many;
      under_way = under_way;
      safe = λ c is. subst (λ (bytes : List ℕ). IsSafeIn later t new.parts bytes new.collection) (some_same now c (sym told ∙ is))
          (subst (λ (p : List Part). IsSafeIn later t p now new.collection) (sym parts) safe);
    }

    -- where the store and the index stay
    same_led : (answer : Result Answer Refusal) → AreChangesBy asked.GcStep answer [] → new.known ≡ Some at.index → new.tables ≡ old.tables
        → StandsFor (Stands (IsIn among) s stored.files) new.disk
        → CoreInvariant at.index s stored.files old.parts now → IsSafeIn at.index s old.parts now new.collection
        → ((key : List ℕ) (level : ℕ) (text : List ℕ) → HasNewest s.held key level text image → HasNewest s.held key level text now) → Led answer
    same_led answer none known tables stands core safe keeps = record {
      changes = [];
      changes_are = none;
      next = record {
        store = s;
        chain = refl;
        is_at = at_now s at.index known (subst (Represents s (Some at.index)) (sym tables) represents) (subst (λ (size : ℕ). IsValidFor size s) (sym goes.size_is) at.valid) stands
            (ap (λ (t : Tables). t.journal) tables) core safe;
      };
      keys = λ key before is spared first then first_is then_is has. subst (λ (m : PlaceMap). HasKey m key)
          (some_same first then (sym first_is ∙ at.index_known ∙ sym known ∙ then_is)) has;
      copies = λ key before after is after_is spared first first_is has level text newest.
          subst (HasNewest s.held key level text) (some_same now after (sym told ∙ after_is))
          (keeps key level text (subst (HasNewest s.held key level text) (some_same before image (sym is ∙ here)) newest));
      whole = λ other. absurd other;
    }

    -- where one was made, and the collection goes on
    did_led : (phase : Phase) → GoesOn phase old new → TouchesBy old.collection (Ok (answers.Did phase)) old new.disk → Led (Ok (answers.Did phase))
    did_led phase row touches =
        let c = row.before in
        let safe : IsSafe at.index s old.parts image c = subst (IsSafeIn at.index s old.parts image) row.ran (at.safe image here) in
        let under : IsUnderWay old.tables.held c = subst (IsUnderWayIn old.tables.held) row.ran at.under_way in
        let steps : StepsTo c.stage c.sweep.next (moment old.tables (Some at.index) old.disk c) (at_moment new row.after) =
        subst (λ (k : Option PlaceMap). StepsTo c.stage c.sweep.next (moment old.tables k old.disk c) (at_moment new row.after)) at.index_known row.steps in
        let tables : TablesAfter c.stage c.sweep.next (moment old.tables (Some at.index) old.disk c) (at_moment new row.after) =
        subst (λ (k : Option PlaceMap). TablesAfter c.stage c.sweep.next (moment old.tables k old.disk c) (at_moment new row.after)) at.index_known row.tables in
        let touched : Touches c.stage c.sweep.next c.sweep old.tables Done old.disk new.disk = subst
        (λ (o : Option Collection). TouchesBy o (Ok (answers.Did phase)) old new.disk) row.ran touches in
        let leaves = step_safe at.index s stored.files old.parts image now among old.tables new.tables new.known old.disk new.disk c row.after
        (at.invariant image here) few represents at.valid here told at.stands under (subst (IsUnderWayIn new.tables.held) row.runs under_way) safe steps tables touched goes in
        let changes = did_changes c phase at.index s leaves.store_now image row.phase_is leaves.store_is in
        record {
          changes = changes.0;
          changes_are = changes.1.0;
          next = record {
            store = leaves.store_now;
            chain = changes.1.1;
            is_at = at_now leaves.store_now leaves.later leaves.known_is leaves.represents leaves.valid leaves.stands
                (journal_same c.stage c.sweep.next (at_moment old c) (at_moment new row.after) row.tables)
                leaves.core
                (subst (IsSafeIn leaves.later leaves.store_now old.parts now) (sym row.runs) leaves.safe);
          };
          keys = λ key before is spared first then first_is then_is has.
              subst (λ (m : PlaceMap). HasKey m key) (some_same leaves.later then (sym leaves.known_is ∙ then_is))
              (leaves.spares key (subst (λ (b : List ℕ). IsNeeded s old.parts b key) (some_same before image (sym is ∙ here)) spared)).0;
          copies = λ key before after is after_is spared first first_is has level text newest.
              let same : before ≡ image = some_same before image (sym is ∙ here) in
              subst (HasNewest leaves.store_now.held key level text) (some_same now after (sym told ∙ after_is))
              ((leaves.spares key (subst (λ (b : List ℕ). IsNeeded s old.parts b key) same spared)).1 level text (subst (HasNewest s.held key level text) same newest));
          whole = λ other. absurd other;
        }

    -- where nothing but time changes
    read_led : (answer : Result Answer Refusal) → AreChangesBy asked.GcStep answer [] → new.known ≡ old.known → new.tables ≡ old.tables → OnlyReads old.disk new.disk
        → (IsSafeIn at.index s old.parts image old.collection → IsSafeIn at.index s old.parts image new.collection) → Led answer
    read_led answer none known tables reads safe =
        let same : image ≡ now = some_same image now (sym here ∙ sym reads.content_is ∙ told) in
        same_led answer none (known ∙ at.index_known) tables (stands_reads (Stands (IsIn among) s stored.files) old.disk new.disk at.stands reads)
        (subst (CoreInvariant at.index s stored.files old.parts) same (at.invariant image here))
        (subst (λ (bytes : List ℕ). IsSafeIn at.index s old.parts bytes new.collection) same (safe (at.safe image here)))
        (λ key level text newest. subst (HasNewest s.held key level text) same newest)

    ended_led : (freed copied : ℕ) → HasEnded freed copied old new → TouchesBy old.collection (Ok (answers.Done freed copied)) old new.disk → Led (Ok (answers.Done freed copied))
    ended_led freed copied row touches =
        let touched = subst (λ (o : Option Collection). TouchesBy o (Ok (answers.Done freed copied)) old new.disk) row.ran touches in
        let reads : Reads Done old.disk new.disk = end_reads row.before old.tables Done old.disk new.disk row.at_end.0 row.at_end.1 touched in
        read_led (Ok (answers.Done freed copied)) refl row.index_is row.tables_are reads.only (λ safe. subst (IsSafeIn at.index s old.parts image) (sym row.ended) tt)

    none_led : NoneRuns old new → TouchesBy old.collection (Err refusals.NotCollecting) old new.disk → Led (Err refusals.NotCollecting)
    none_led row touches =
        let reads = subst (λ (o : Option Collection). TouchesBy o (Err refusals.NotCollecting) old new.disk) row.none_ran touches in
        read_led (Err refusals.NotCollecting) refl row.index_is row.tables_are reads.only (λ safe. subst (IsSafeIn at.index s old.parts image) (sym row.none_runs) tt)

    -- where one was refused
    refused_led : (refusal : Refusal) → AreChangesBy asked.GcStep (Err refusal) [] → (refusal ≡ refusals.DiskWrite → ⊥) → IsNotMade refusal old new
        → TouchesBy old.collection (Err refusal) old new.disk → Led (Err refusal)
    refused_led refusal none other row touches =
        let c = row.before in
        let safe : IsSafe at.index s old.parts image c = subst (IsSafeIn at.index s old.parts image) row.ran (at.safe image here) in
        let cause = subst (λ (k : Option PlaceMap). IsStepRefusal c.stage c.sweep.next (moment old.tables k old.disk c) new.disk refusal) at.index_known row.cause in
        let keeps = subst (λ (k : Option PlaceMap). Keeps c.stage c.sweep.next (moment old.tables k old.disk c) (at_moment new row.after) refusal) at.index_known row.kept in
        let kept = subst
        (λ (t : Tables). Keeps c.stage c.sweep.next (moment old.tables (Some at.index) old.disk c) (moment t new.known new.disk row.after) refusal) row.tables_are keeps in
        let touched : Touches c.stage c.sweep.next c.sweep old.tables (ending_of (blames refusal)) old.disk new.disk = subst
        (λ (o : Option Collection). TouchesBy o (Err refusal) old new.disk) row.ran touches in
        let still = refused_safe at.index s stored.files old.parts image now among old.tables new.known old.disk new.disk c row.after
        (at.invariant image here) represents at.valid here told at.stands
        refusal other safe cause kept touched in
        same_led (Err refusal) none still.known_is row.tables_are still.stands still.core (subst (IsSafeIn at.index s old.parts now) (sym row.runs) still.safe) still.keeps

  not_broken : (refusal : Refusal) → StopsAfter asked.GcStep (Err refusal) old.acknowledged new.stop → refusal ≡ refusals.DiskWrite → ⊥
  not_broken refusal stops is = wrong (subst (λ (r : Refusal). StopsAfter asked.GcStep (Err r) old.acknowledged new.stop) is stops)
    where
      wrong : StopsAfter asked.GcStep (Err refusals.DiskWrite) old.acknowledged new.stop → ⊥
      wrong stops = let both = sym stays ∙ stops in cc

  pub gc_led : (answer : Result Answer Refusal) → GcRow answer old new → GcEffect answer old new → StopsAfter asked.GcStep answer old.acknowledged new.stop → Led answer
  gc_led (Ok (answers.Did phase)) row effect stops =
      let now = effect.later.tells image here in
      did_led now.0 now.1 effect.later row.1 (effect.under_way at.under_way) phase row.0 effect.touches
  gc_led (Ok (answers.Done freed copied)) row effect stops =
      let now = effect.later.tells image here in
      ended_led now.0 now.1 effect.later row.1 (effect.under_way at.under_way) freed copied row.0 effect.touches
  gc_led (Err refusals.NotCollecting) row effect stops =
      let now = effect.later.tells image here in
      none_led now.0 now.1 effect.later row.1 (effect.under_way at.under_way) row.0 effect.touches
  gc_led (Err refusal) row effect stops =
      let now = effect.later.tells image here in
      refused_led now.0 now.1 effect.later row.1 (effect.under_way at.under_way) refusal refl (not_broken refusal stops) row.0 effect.touches
  gc_led answer row effect stops = absurd row
