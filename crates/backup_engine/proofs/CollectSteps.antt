-- The steps of a collection, one after the other, whatever the disk holds: what they changed of the store so far.
use Rattle.backup_engine.proofs.Prelude.{both_so, ◌≡◌, inl, inr, ◌+◌, ◌<◌, ◌≤◌, ℕ, List, [], ◌∷◌, ◌++◌, length, get_or, Option, Some, None, Result, Ok, refl, sym, ◌∙◌, ap, subst, arith, AllByRecursion, Contains-append_right, Contains-get_or, Answer, PlaceMap, Segment, HeaderValue, header_of, DiskView, IsDurable, IsLater, OnlyReads, Both, later_here, later_on, size_of, slot_at, filter_at, Moment, StepsTo, Touches, phase_at, IsUnderWay, Collection, Stage, Mark, Filter, Select, SweepStage, Flush, Release, End, HasNext, Phase, Refusal, CollectionRun, Collects, IsValidFor, Store, HasFree, first_free, last_id, FlushContainer, FreeContainer, StoreChange, with_sealed, some_same, first_closed, some_free, Changes, SameBefore, Represents, Runs, Tables, GoesOn, TouchesBy, at_moment, Steps, HadContainer, copied_in, freed_in, ChangesTo, CoreState, Event, IsRunning, step_runs, at_stage, FreesUpTo, written_in, MayFill, SameButSlotsOf, map, with_all_freed}
use Rattle.actor_parts.specs.declared.step.Answer.TheVariants as answers
use Rattle.actor_parts.specs.StepValue as asked
use Rattle.dd_disk.specs.Ending.{Ending}
use Rattle.dd_disk.specs.Ending.{Done as Finished}
use Rattle.gc_steps.specs.Stepping.{TablesAfter, answer_at}
use Rattle.gc_steps.specs.declared.phase.StepDone.TheVariants.{Did}
use Rattle.gc_sweep.specs.declared.sweep.Next.{Next}
use Rattle.gc_sweep.specs.declared.sweep.Next.TheVariants.{Copy}
use Rattle.gc_sweep.specs.declared.sweep.Sweep.{Sweep}
use Rattle.gc_sweep.specs.Beginning.{Begins}
use Rattle.gc_sweep.specs.UnderWay.{IsSweeping, sources_before}
use Rattle.gc_sweep.proofs.Freed.{second_apart}
use Rattle.gc_sweep.proofs.InSlots.{IsSourceIn, stands_in}
use Rattle.backup_engine.proofs.CollectCounts.{HasCounted, copies_by, counted_on, freed_by, snapshot_on}
use Rattle.std.specs.List.{IsDistinct}
use Rattle.std.specs.Prelude.{nat_eq}
use Rattle.std.proofs.lemmas.List.Elements.{recursion_from_All}
use Rattle.store_model.specs.Steps.{CanFree}
use Rattle.store_model.proofs.Free.{same_free}
use Rattle.store_model.proofs.FreedAll.{valid_all}
use Rattle.store_model.proofs.FreedFiles.{same_but_held}
use Rattle.store_model.proofs.Valid.{valid_sealed}
use Rattle.store_state.specs.Settled.{IsSettled}
use Rattle.store_core.specs.Collecting.{HasEnded}
use Rattle.store_core.specs.State.{IsUnderWayIn}
use Rattle.store_core.proofs.CoreRuns.{running_step}
use Rattle.store_core.proofs.GcSteps.{frees_each}
use Rattle.store_core.proofs.KeepingFiles.{chain_on}
use Rattle.store_core.proofs.Opened.{durable_settled}
use Rattle.backup_engine.specs.Collected.{IsOfCollection}
use Rattle.backup_engine.proofs.EarlierFrees.{IsEarlier, frees_earlier, frees_on, new_earlier}
use Rattle.backup_engine.proofs.FirstActor.{up_of}
use Rattle.backup_engine.proofs.NewContainers.{new_few, new_in, new_with}
use Rattle.backup_engine.proofs.Returned.{one_later}
use Rattle.backup_engine.proofs.SweptBytes.{IsFramed, filled_with, freed_with, stage_so}
use Rattle.backup_engine.proofs.SweptSlots.{GivesThese, SweptSlots, copied-append, freed-append, gives_these, slots_filled, slots_freed, written-append}

-- a step that did something was not at the end
no_end : (stage : Stage) (next : Next) (freed copied : ℕ) (phase : Phase) → answer_at stage next freed copied ≡ Did phase → phase_at stage next ≡ phase_at SweepStage End → ⊥
no_end (Mark level slot) next freed copied phase is ends = cc
no_end (Filter slot) next freed copied phase is ends = cc
no_end Select next freed copied phase is ends = cc
no_end SweepStage (Copy source entry) freed copied phase is ends = cc
no_end SweepStage (Flush source entry) freed copied phase is ends = cc
no_end SweepStage (Release source entry) freed copied phase is ends = cc
no_end SweepStage End freed copied phase is ends = let wrong = is in cc

-- ---- counts

-- so many containers were given back, and so many segments written
abbrev pub CountsSo : Collection → List StoreChange → Type 0
CountsSo c changes = HasCounted c.stage c.sweep (freed_in changes) (copied_in changes)

-- as it begins there is nothing to be counted
pub none_counted : (stage : Stage) (t : _) (s : Sweep) → Begins t [] s → HasCounted stage s 0 0
none_counted (Mark level slot) t s begins = (refl, refl)
none_counted (Filter slot) t s begins = (refl, refl)
none_counted Select t s begins = (refl, refl)
none_counted SweepStage t s begins = (begins.none_freed, omega (arith, begins.none_copied, ap (λ (l : List Segment). length l) begins.empty))

-- ---- what a step changes

module _ (s after : Store) (freed filled : List ℕ) (slots : SweptSlots s after freed filled) (old new : Moment) (represents : Represents after None old.tables)
    (valid : IsValidFor old.disk.size after)
    (runs : Runs old.disk.size None old.tables) (under : IsUnderWay old.tables.held old.collection) (began : old.collection.snapshot ≤ last_id s.held + 1)
    (above : last_id s.held ≤ old.tables.held.last_id) where
  abbrev c : Collection
  c = old.collection

  pub has_free : HasFree after.held
  has_free = omega (
    arith,
    runs.has_free,
    same_free after.held runs.store.held valid.headers runs.valid.headers
        (sym represents.slots_hold.ids_are ∙ runs.represents.slots_hold.ids_are),
  )

  -- Each source that is ready had its container at first.
  module _ (stage_is : c.stage ≡ SweepStage) where
    abbrev ready : List ℕ
    ready = c.sweep.ready.items

    sweeping : IsSweeping old.tables.held c.snapshot c.sweep
    sweeping = at_stage old.tables.held c SweepStage under stage_is

    abbrev Stands : ℕ → Type 0
    Stands slot = IsSourceIn after.held c.snapshot c.sweep.sources.items (sources_before c.sweep c.sweep.next) slot

    of_ready : (P : ℕ → Type 0) → ((slot : ℕ) → Stands slot → P slot) → AllByRecursion P ready
    of_ready P each = recursion_from_All P ready (λ number other within.
        let slot : ℕ = get_or ready number other in
        each slot (stands_in after.held old.tables.held c.snapshot c.sweep sweeping represents.slots_hold slot
        (Contains-append_right c.sweep.waiting.items ready slot (Contains-get_or ready number other within))))

    pub had_in_turn : AllByRecursion (HadContainer s) ready
    had_in_turn = of_ready (HadContainer s) (λ slot stands. elim (slots.there slot stands.header stands.there) [
      | inl had ↦ (stands.header, had)
      | inr later ↦ absurd (omega (arith, later, stands.old, began))
    ])

    -- under an id of before
    old_in_turn : AllByRecursion (IsEarlier (last_id s.held) after) ready
    old_in_turn = of_ready (IsEarlier (last_id s.held) after) (λ slot stands h there.
        let same : h ≡ stands.header = some_same h stands.header (some_same (Some h) (Some stands.header) (sym there ∙ stands.there)) in
        omega (arith, stands.old, began, ap (λ (x : HeaderValue). x.id) same))

    free_in_turn : AllByRecursion (λ slot. CanFree slot after) ready
    free_in_turn = of_ready (λ slot. CanFree slot after) (λ slot stands. (stands.header, stands.there))

    apart_in_turn : IsDistinct nat_eq ready
    apart_in_turn = second_apart c.sweep.waiting.items ready sweeping.apart

  -- what a step of a stage changes
  pub record Changed (stage : Stage) (next : Next) : Type 0 where
    pub changes : List StoreChange
    pub each : AllByRecursion IsOfCollection changes
    pub freed_many : freed_in changes ≡ freed_by stage next c.sweep
    pub copied_many : copied_in changes ≡ copies_by stage next c.sweep
    pub store_now : Store
    pub chain : ChangesTo changes after store_now
    pub represents_now : Represents store_now None new.tables
    pub valid_now : IsValidFor old.disk.size store_now
    pub slots_are : store_now.slots ≡ after.slots
    pub freed_now : List ℕ
    pub filled_now : List ℕ
    pub freed_is : freed_with stage next c.sweep freed ≡ freed_now
    pub filled_is : filled_with stage next after filled ≡ filled_now
    pub swept : SweptSlots s store_now freed_now filled_now
    pub ids_now : new.tables.held.last_id ≡ old.tables.held.last_id + written_in changes
    pub new_now : new_in (last_id s.held) store_now.held ≡ new_in (last_id s.held) after.held + written_in changes
    pub frees_now : FreesUpTo (last_id s.held) changes after

  changed_none : (stage : Stage) (next : Next) → freed_by stage next c.sweep ≡ 0 → copies_by stage next c.sweep ≡ 0 → freed_with stage next c.sweep freed ≡ freed →
      filled_with stage next after filled ≡ filled
      → new.tables ≡ old.tables → Changed stage next
  changed_none stage next none_freed none_copied freed_same filled_same same = record {
    changes = [];
    each = tt;
    freed_many = sym none_freed;
    copied_many = sym none_copied;
    store_now = after;
    chain = refl;
    represents_now = subst (λ (t : Tables). Represents after None t) (sym same) represents;
    valid_now = valid;
    slots_are = refl;
    freed_now = freed;
    filled_now = filled;
    freed_is = freed_same;
    filled_is = filled_same;
    swept = slots;
    ids_now = omega (arith, ap (λ (t : Tables). t.held.last_id) same);
    new_now = omega arith;
    frees_now = tt;
  }

  pub changed_by : (stage : Stage) (next : Next) → c.stage ≡ stage → c.sweep.next ≡ next → TablesAfter stage next old new → Changed stage next
  changed_by (Mark level slot) next is next_is same = changed_none (Mark level slot) next refl refl refl refl same
  changed_by (Filter slot) next is next_is same = changed_none (Filter slot) next refl refl refl refl same
  changed_by Select next is next_is same = changed_none Select next refl refl refl refl same
  changed_by SweepStage (Copy source entry) is next_is same = changed_none SweepStage (Copy source entry) refl refl refl refl same
  changed_by SweepStage (Flush source entry) is next_is (slot, writes) =
      let id : ℕ = old.tables.held.last_id + 1 in
      let h : HeaderValue = header_of id c.sweep.buffer.kind c.sweep.buffer.segments in
      let wrote = writes.written.alone.store_has after represents valid has_free in
      record {
        changes = FlushContainer id c.sweep.buffer.kind c.sweep.buffer.segments ∷ [];
        each = (tt, tt);
        freed_many = refl;
        copied_many = omega arith;
        store_now = with_sealed id c.sweep.buffer.kind c.sweep.buffer.segments after;
        chain = (wrote.0, refl);
        represents_now = wrote.1;
        valid_now = valid_sealed id c.sweep.buffer.kind c.sweep.buffer.segments after wrote.0 old.disk.size valid;
        slots_are = refl;
        freed_now = freed;
        filled_now = first_free after.held ∷ filled;
        freed_is = refl;
        filled_is = refl;
        swept = slots_filled s after freed filled slots h has_free (omega (arith, above));
        ids_now = omega (arith, writes.written.last_is);
        new_now = omega (arith, new_with (last_id s.held) h after.held has_free (omega (arith, above)));
        frees_now = tt;
      }
  changed_by SweepStage (Release source entry) is next_is gives =
      let gone : List ℕ = c.sweep.ready.items in
      let these : GivesThese gone = gives_these gone in
      record {
        changes = map FreeContainer gone;
        each = these.each;
        freed_many = these.freed;
        copied_many = these.copied;
        store_now = with_all_freed gone after;
        chain = frees_each gone after (with_all_freed gone after) (free_in_turn is) (apart_in_turn is) refl;
        represents_now = gives.represents after None (λ places known. absurd (let wrong = known in cc)) represents;
        valid_now = valid_all old.disk.size gone after valid;
        slots_are = ap (λ (t : Store). t.slots) (same_but_held gone after);
        freed_now = gone ++ freed;
        filled_now = filled;
        freed_is = refl;
        filled_is = refl;
        swept = slots_freed s after freed filled slots gone (had_in_turn is);
        ids_now = omega (arith, gives.last_stays, these.written);
        new_now = omega (arith, new_earlier (last_id s.held) gone after (old_in_turn is), these.written);
        frees_now = frees_earlier (last_id s.held) gone after (old_in_turn is);
      }
  changed_by SweepStage End is next_is same = changed_none SweepStage End refl refl refl refl same

-- ---- marking comes first

abbrev pub IsMarking : Stage → Type 0
IsMarking (Mark level slot) = Unit {0}
IsMarking stage = ⊥

no_filter : (found : Option ℕ) → IsMarking (filter_at found) → ⊥
no_filter None marks = marks
no_filter (Some slot) marks = marks

stage_same : (a b : Collection) → a ≡ b → IsMarking a.stage → IsMarking b.stage
stage_same a b same marks = subst (λ (c : Collection). IsMarking c.stage) same marks

module _ (old new : CoreState) (before after : Collection) where
  -- a sweep goes on
  on_sweep : before.stage ≡ SweepStage → after ≡ record before { sweep = after.sweep } → IsMarking after.stage → ⊥
  on_sweep is same marks = subst IsMarking (ap (λ (c : Collection). c.stage) same ∙ is) marks

  -- once it is over it does not come again, and until then the map of the index stays
  still_marks : (stage : Stage) (next : Next) → before.stage ≡ stage → StepsTo stage next (at_moment old before) (at_moment new after) → (index : PlaceMap)
      → (IsMarking stage → old.known ≡ Some index) → IsMarking after.stage → new.known ≡ Some index
  still_marks (Mark level slot) next is steps index marks now = steps.1 ∙ marks tt
  still_marks (Filter slot) next is steps index marks now = absurd (no_filter _ (stage_same after _ steps.0.collection_is now))
  still_marks Select next is steps index marks now = absurd (stage_same after _ steps.0.collection_is now)
  still_marks SweepStage (Copy source entry) is steps index marks now = absurd (on_sweep is steps.1 now)
  still_marks SweepStage (Flush source entry) is steps index marks now = absurd (on_sweep is steps.sweeps now)
  still_marks SweepStage (Release source entry) is steps index marks now = absurd (on_sweep is steps.1 now)
  still_marks SweepStage End is steps index marks now = absurd (subst IsMarking (ap (λ (c : Collection). c.stage) steps.0 ∙ is) now)

  -- a release ends durable
  release_durable : (stage : Stage) (next : Next) → StepsTo stage next (at_moment old before) (at_moment new after) → (source entry : ℕ) → stage ≡ SweepStage →
      next ≡ Release source entry → IsDurable new.disk
  release_durable stage next steps source entry is next_is =
      let so : StepsTo SweepStage (Release source entry) (at_moment old before) (at_moment new after) =
      subst (λ (n : Next). StepsTo SweepStage n (at_moment old before) (at_moment new after)) next_is
      (subst (λ (x : Stage). StepsTo x next (at_moment old before) (at_moment new after)) is steps) in
      so.2

-- ---- what the disk keeps

before_back : (place : ℕ) (a b : List ℕ) → SameBefore place a b → SameBefore place b a
before_back place a b same = record { size = sym same.size; before = λ p n within. sym (same.before p n within) }

before_on : (place : ℕ) (a b c : List ℕ) → SameBefore place a b → SameBefore place b c → SameBefore place a c
before_on place a b c first second = record { size = second.size ∙ first.size; before = λ p n within. second.before p n within ∙ first.before p n within }

-- what was told before
pub both_from : (R : List ℕ → List ℕ → Type 0) (was now : Option (List ℕ)) (y : List ℕ) → now ≡ Some y → Both R was now → (x : List ℕ) × ((was ≡ Some x) × R x y)
both_from R None now y told both_are = absurd (subst (λ (o : Option (List ℕ)). Both R None o) told both_are)
both_from R (Some x) now y told both_are = (x, (refl, subst (λ (o : Option (List ℕ)). Both R (Some x) o) told both_are))

module _ (slots : ℕ) (old new : DiskView) (settled : IsSettled slots old) where
  pub reads_settled : OnlyReads old new → IsSettled slots new
  reads_settled reads bytes told c image = settled bytes (sym reads.content_is ∙ told) c (reads.images_are c image)

  changes_settled : (e : Ending) → Changes (slot_at slots) e old new → IsSettled slots new
  changes_settled e changes bytes told c image =
      let place = slot_at slots in
      let first = both_from (SameBefore place) old.content new.content bytes told changes.content_is in
      let back = before_back place first.0 bytes first.1.1 in
      elim (changes.leaves.now c image) [
        | inl was ↦ before_on place bytes first.0 c back (settled first.0 first.1.0 c was)
        | inr stepped ↦
            before_on place bytes first.0 c back (before_on place first.0 stepped.0 c (settled first.0 first.1.0 stepped.0 stepped.1) stepped.2)
      ]

  -- where a step was made
  stage_settled : (stage : Stage) (next : Next) (s : Sweep) (t : Tables) → old.size ≡ size_of slots → t.slots ≡ slots →
      ((source entry : ℕ) → stage ≡ SweepStage → next ≡ Release source entry → IsDurable new)
      → Touches stage next s t Finished old new → IsSettled slots new
  stage_settled (Mark level slot) next s t sized many durable touches = reads_settled touches.only
  stage_settled (Filter slot) next s t sized many durable touches = reads_settled touches.only
  stage_settled Select next s t sized many durable touches = reads_settled touches.only
  stage_settled SweepStage (Copy source entry) s t sized many durable touches = changes_settled Finished (touches slots sized)
  stage_settled SweepStage (Flush source entry) s t sized many durable touches =
      subst (λ (n : ℕ). IsSettled n old → IsSettled n new) many touches.0.left settled
  stage_settled SweepStage (Release source entry) s t sized many durable touches = durable_settled slots new (durable source entry refl refl)
  stage_settled SweepStage End s t sized many durable touches = reads_settled touches.only

-- ---- so far

-- A collection runs, of a store of this index, and made these changes.
pub record CollectedSoFar (s : Store) (index : PlaceMap) (v : DiskView) (c : CoreState) : Type 0 where
  pub stop_is : c.stop ≡ None
  pub running : IsRunning c
  pub changes : List StoreChange
  pub each : AllByRecursion IsOfCollection changes
  pub after : Store
  pub chain : ChangesTo changes s after
  pub represents : Represents after None c.tables
  pub valid : IsValidFor v.size after
  pub slots_are : after.slots ≡ s.slots
  pub freed : List ℕ
  pub filled : List ℕ
  pub slots : SweptSlots s after freed filled
  pub framed : (base : List ℕ) → v.content ≡ Some base → IsFramed s freed filled base c.disk
  pub ids : c.tables.held.last_id ≡ last_id s.held + written_in changes
  pub written_new : new_in (last_id s.held) after.held ≡ written_in changes
  pub frees_old : FreesUpTo (last_id s.held) changes s
  pub collection : Collection
  pub runs : c.collection ≡ Some collection
  pub began : collection.snapshot ≤ last_id s.held + 1
  pub counted : CountsSo collection changes
  pub marks : IsMarking collection.stage → c.known ≡ Some index
  pub tells : (places : PlaceMap) × (c.known ≡ Some places)
  pub faults_are : c.disk.faults ≡ v.faults
  pub later : IsLater v c.disk
  pub settled : IsSettled s.slots c.disk

abbrev pub gc_event : Result Answer Refusal → List ℕ → Event
gc_event answer buf = record { actor = 0; step = asked.GcStep; answer = answer; buf = buf }

pub same_collection : (a b : Collection) (o : Option Collection) → o ≡ Some a → o ≡ Some b → a ≡ b
same_collection a b o one two = let both_are : Some a ≡ Some b = sym one ∙ two in cc

-- the disk, later
pub collection_later : (C : Type 0) (state : C → CoreState) (phases : List Phase) (old new : C) → CollectionRun C state phases old new → IsLater (state old).disk (state new).disk
collection_later C state [] old new run = subst (λ (c : C). IsLater (state old).disk (state c).disk) (sym run) (later_here (state old).disk)
collection_later C state (phase ∷ phases) old new run =
    later_on (state old).disk (state run.0).disk (state new).disk (one_later C state _ old run.0 run.1.0.1) (collection_later C state phases run.0 new run.1.1)

-- counts of other changes
counts_as : (c : Collection) (f n g m : ℕ) → f ≡ n → g ≡ m → HasCounted c.stage c.sweep f g → HasCounted c.stage c.sweep n m
counts_as c f n g m freed copied counted =
    subst (λ (x : ℕ). HasCounted c.stage c.sweep x m) freed (subst (λ (y : ℕ). HasCounted c.stage c.sweep f y) copied counted)

module _ (s : Store) (index : PlaceMap) (v : DiskView) (sized : v.size ≡ size_of s.slots) (C : Type 0) (state : C → CoreState) where
  abbrev SoFar : C → Type 0
  SoFar c = CollectedSoFar s index v (state c)

  pub under_way : (c : C) (so : SoFar c) → IsUnderWay (state c).tables.held so.collection
  under_way c so = subst (IsUnderWayIn (state c).tables.held) so.runs (up_of (state c) so.stop_is so.running).under_way

  module _ (c : C) (so : SoFar c) where
    pub valid_so : IsValidFor (state c).disk.size so.after
    valid_so = subst (λ (n : ℕ). IsValidFor n so.after) (sym so.later.size_is) so.valid

    abbrev pub runs_so : Runs (state c).disk.size None (state c).tables
    runs_so = (up_of (state c) so.stop_is so.running).runs

    pub above_so : last_id s.held ≤ (state c).tables.held.last_id
    above_so = omega (arith, so.ids)

    pub free_so : HasFree so.after.held
    free_so =
        has_free s so.after so.freed so.filled so.slots (at_moment (state c) so.collection) (at_moment (state c) so.collection) so.represents valid_so runs_so (under_way c so)
        so.began above_so

    -- it wrote fewer containers than there are slots
    pub few_so : length s.held ≡ s.slots → written_in so.changes < length s.held
    few_so many = omega (arith, many, so.valid.many, so.slots_are, so.written_new, new_few (last_id s.held) so.after.held, free_so)

    pub had_so : so.collection.stage ≡ SweepStage → AllByRecursion (HadContainer s) so.collection.sweep.ready.items
    had_so =
        had_in_turn s so.after so.freed so.filled so.slots (at_moment (state c) so.collection) (at_moment (state c) so.collection) so.represents valid_so runs_so (under_way c so)
        so.began above_so

    pub may_fill_so : MayFill s so.freed (first_free so.after.held)
    may_fill_so = so.slots.closed (first_free so.after.held) (first_closed so.after.held (some_free so.after.held free_so))

  module _ (phase : Phase) (old new : C) (so : SoFar old) (collects : Collects C state (Ok (answers.Did phase)) old new) where
    abbrev e : Event
    e = gc_event (Ok (answers.Did phase)) collects.0

    pub one_step : Steps e (state old) (state new)
    one_step = running_step (state old) (state new) e so.stop_is collects.1

    pub goes : GoesOn phase (state old) (state new)
    goes = one_step.made.row.0

    abbrev pub before : Collection
    before = goes.before

    pub same : so.collection ≡ before
    same = same_collection so.collection before (state old).collection so.runs goes.ran

    pub under_before : IsUnderWay (state old).tables.held before
    under_before = subst (λ (c : Collection). IsUnderWay (state old).tables.held c) same (under_way old so)

    pub began_before : before.snapshot ≤ last_id s.held + 1
    began_before = subst (λ (c : Collection). c.snapshot ≤ last_id s.held + 1) same so.began

    abbrev pub was : Moment
    was = at_moment (state old) before

    abbrev pub now : Moment
    now = at_moment (state new) goes.after

    -- what it changed
    abbrev pub ChangedSo : Type 0
    ChangedSo = Changed s so.after so.freed so.filled so.slots was now so.represents (valid_so old so) (runs_so old so) under_before began_before (above_so old so) before.stage
        before.sweep.next

    pub changed : ChangedSo
    changed =
        changed_by s so.after so.freed so.filled so.slots was now so.represents (valid_so old so) (runs_so old so) under_before
        began_before (above_so old so) before.stage before.sweep.next refl refl goes.tables

    pub touched : Touches before.stage before.sweep.next before.sweep (state old).tables Finished (state old).disk (state new).disk
    touched = subst (λ (o : Option Collection). TouchesBy o (Ok (answers.Did phase)) (state old) (state new).disk) goes.ran one_step.made.effect.touches

    framed_now : (base : List ℕ) → v.content ≡ Some base → IsFramed s changed.freed_now changed.filled_now base (state new).disk
    framed_now base told =
        let leaves = stage_so s so.after so.freed so.filled base (state old).disk (state new).disk (so.framed base told) (state old).tables (so.later.size_is ∙ sized)
        so.represents (valid_so old so) (free_so old so)
        (so.represents.slots_are ∙ so.slots_are) before.stage before.sweep.next before.sweep Finished touched in
        let content = one_step.made.effect.later.tells (so.framed base told).told.0 (so.framed base told).told.1 in
        record {
          told = (content.0, content.1);
          each = λ c image.
              subst (λ (l : List ℕ). SameButSlotsOf s changed.freed_now l base c) changed.filled_is
              (subst (λ (l : List ℕ). SameButSlotsOf s l (filled_with before.stage before.sweep.next so.after so.filled) base c) changed.freed_is (leaves.now c image));
        }

    counted_now : CountsSo goes.after (so.changes ++ changed.changes)
    counted_now =
        counts_as goes.after _ (freed_in (so.changes ++ changed.changes)) _ (copied_in (so.changes ++ changed.changes))
        (omega (arith, freed-append so.changes changed.changes, changed.freed_many)) (omega (arith, copied-append so.changes changed.changes, changed.copied_many))
        (counted_on was now (freed_in so.changes) (copied_in so.changes) before.stage before.sweep.next refl refl
        (subst (λ (c : Collection). CountsSo c so.changes) same so.counted) goes.steps
        (no_end before.stage before.sweep.next before.sweep.freed before.sweep.copied phase goes.phase_is))

    pub one_more : SoFar new
    one_more =
        let effect = one_step.made.effect in
        let here = so.tells in
        record {
          stop_is = one_step.stops;
          running = step_runs (state old) (state new) e collects.1 so.running;
          changes = so.changes ++ changed.changes;
          each = both_so IsOfCollection so.changes changed.changes so.each changed.each;
          after = changed.store_now;
          chain = chain_on so.changes changed.changes s so.after changed.store_now so.chain changed.chain;
          represents = changed.represents_now;
          valid = subst (λ (n : ℕ). IsValidFor n changed.store_now) so.later.size_is changed.valid_now;
          slots_are = changed.slots_are ∙ so.slots_are;
          freed = changed.freed_now;
          filled = changed.filled_now;
          slots = changed.swept;
          framed = framed_now;
          ids = omega (arith, changed.ids_now, so.ids, written-append so.changes changed.changes);
          written_new = omega (arith, changed.new_now, so.written_new, written-append so.changes changed.changes);
          frees_old = frees_on (last_id s.held) so.changes changed.changes s so.after so.chain so.frees_old changed.frees_now;
          collection = goes.after;
          runs = goes.runs;
          began = omega (
            arith,
            so.began,
            ap (λ (c : Collection). c.snapshot) same,
            snapshot_on was now (freed_in so.changes) (copied_in so.changes) before.stage before.sweep.next
                goes.steps,
          );
          counted = counted_now;
          marks = still_marks (state old) (state new) before goes.after before.stage before.sweep.next refl goes.steps index
              (λ marks. so.marks (stage_same before so.collection (sym same) marks));
          tells = effect.tells here.0 here.1;
          faults_are = effect.faults_are ∙ so.faults_are;
          later = later_on v (state old).disk (state new).disk so.later effect.later;
          settled = stage_settled s.slots (state old).disk (state new).disk so.settled before.stage before.sweep.next before.sweep (state old).tables (so.later.size_is ∙ sized)
              (so.represents.slots_are ∙ so.slots_are)
              (release_durable (state old) (state new) before goes.after before.stage before.sweep.next goes.steps) touched;
        }

  pub all_steps : (phases : List Phase) (old new : C) → SoFar old → CollectionRun C state phases old new → SoFar new
  all_steps [] old new so run = subst SoFar (sym run) so
  all_steps (phase ∷ phases) old new so run = all_steps phases run.0 new (one_more phase old run.0 so run.1.0) run.1.1

  -- ---- it ended

  -- so many were given back, and so many copied
  pub ended : (freed copied : ℕ) (old new : C) (so : SoFar old) → Collects C state (Ok (answers.Done freed copied)) old new
      → HasEnded freed copied (state old) (state new) × (freed ≡ freed_in so.changes) × (copied ≡ copied_in so.changes)
  ended freed copied old new so collects =
      let e = gc_event (Ok (answers.Done freed copied)) collects.0 in
      let steps : Steps e (state old) (state new) = running_step (state old) (state new) e so.stop_is collects.1 in
      let row : HasEnded freed copied (state old) (state new) = steps.made.row.0 in
      let c : Collection = row.before in
      let same = same_collection so.collection c (state old).collection so.runs row.ran in
      let under : IsUnderWay (state old).tables.held c = subst (λ (x : Collection). IsUnderWay (state old).tables.held x) same (under_way old so) in
      let sweeping : IsSweeping (state old).tables.held c.snapshot c.sweep = at_stage (state old).tables.held c SweepStage under row.at_end.0 in
      let at_end : HasNext (state old).tables.held c.sweep End = subst (HasNext (state old).tables.held c.sweep) row.at_end.1 sweeping.next_is in
      let counted : HasCounted SweepStage c.sweep (freed_in so.changes) (copied_in so.changes) =
      subst (λ (stage : Stage). HasCounted stage c.sweep (freed_in so.changes) (copied_in so.changes)) row.at_end.0
      (subst (λ (x : Collection). CountsSo x so.changes) same so.counted) in (
        row,
        row.freed_is ∙ counted.0,
        omega (arith, row.copied_is, counted.1, ap (λ (l : List Segment). length l) at_end.1),
      )
