-- Just what the machine of files needed as its collection began, or since, is live in a core that is at its files, after each step.
use Rattle.core_machine.proofs.Prelude.{◌≡◌, ◌↔◌, ℕ, List, [], ◌∷◌, ◌++◌, Option, Some, None, Result, Ok, Err, refl, sym, ◌∙◌, ap, subst, PlaceMap, segment_key, Answer, StepValue, Phase, Refusal, Mark, IsSafe, CoreStepsTo, Touches, moment, IsStoreAfter, Next, IsLive, IsLater, ending_of, ByteSet, IsIn, Stored, Store, some_same, blames, GcEffect, GcRow, CoreGoesOn, IsKeptKey, IsNotMade, StartRow, TouchesBy, at_moment, Effect, Rests, Row, Steps, StopsAfter, FileEvent, IsAt, IsSafeIn, stored_by, CoreState, running_step, contains_one, led_to, same_some, Asked, FileMachine, marking, marks_of, Answers, MachineCollection, keeping, NeededSince, OneNeeds, keys_kept, values_read, RootMachine, of_files, stored_in, LivesJust, answered_by, asked_as}
use Rattle.std.proofs.Common.{Contains}
use Rattle.std.specs.FinMap as finite
use Rattle.actor_parts.specs.declared.step.Answer.TheVariants as answers
use Rattle.actor_parts.specs.StepValue as steps
use Rattle.refusals.specs.declared.refusal.Refusal.TheVariants as refusals
use Rattle.gc_steps.specs.declared.collection.Collection.{Collection}
use Rattle.gc_steps.specs.declared.collection.Stage.{Stage}
use Rattle.gc_steps.specs.Stepping.{Keeps}
use Rattle.dd_disk.specs.Ending.{Done as DoneEnding}
use Rattle.store_core.specs.Collecting.{Begins as CoreBegins}
use Rattle.store_core.proofs.AtStore.{leaves, refused_known}
use Rattle.store_core.proofs.Frames.{at_on, written_stays}
use Rattle.store_machine.specs.Collecting.{Begins, GoesOn}
use Rattle.std.specs.Prelude.{take}
use Rattle.store_core.specs.Collecting.{keys_in}
use Rattle.store_machine.proofs.Beside.{refused_keeps}
use Rattle.core_machine.proofs.AddedAll.{added_keys}
use Rattle.core_machine.specs.Files.{LivesByNeed}
use Rattle.core_machine.proofs.FileKept.{answers_by, comes, next}
use Rattle.core_machine.proofs.FileNeeds.{all_fit}
use Rattle.core_machine.proofs.FileRoots.{NeededNow, needed_below, needed_closed, roots_needed}
use Rattle.core_machine.proofs.FileSteps.{StepsAt, StepsTo}
use Rattle.core_machine.proofs.Lives.{IsSameIn, kept_marks, lives_kept, lives_made, lives_same}
use Rattle.core_machine.proofs.LivesBegun.{lives_begun, roots_live}
use Rattle.core_machine.proofs.LivesOn.{NeedsMore, lives_on, needs_more, needs_same}
use Rattle.core_machine.proofs.PlainSteps.{IsPlainStep, plain_no_gc}
use Rattle.core_machine.proofs.RefusedSteps.{IsLeft, left_same, refused_left}

abbrev ask : List ℕ → StepValue → Asked (List ℕ)
ask bytes step = asked_as (λ root. bytes) step

runs_as : {n k : FileMachine} → n ≡ k → n.collection ≡ k.collection
runs_as is = ap (λ (x : FileMachine). x.collection) is

-- ---- what a step that is none of a collection keeps

-- The collection that runs then ran before; and just the keys that the step kept came to what it needs.
record Went (step : StepValue) (answer : Result Answer Refusal) (m : FileMachine) (ran : MachineCollection (List ℕ)) : Type 0 where
  was : MachineCollection (List ℕ)
  ran_before : m.collection ≡ Some was
  more : NeedsMore (IsKeptKey step answer) (NeededSince of_files was) (NeededSince of_files ran)

-- a step that was refused keeps none
none_kept : (step : StepValue) (refusal : Refusal) (key : List ℕ) → IsKeptKey step (Err refusal) key → ⊥
none_kept (steps.Claim seg) refusal key is = is
none_kept (steps.Seal offered) refusal key is = is
none_kept step refusal key is = is

module _ (m n : FileMachine) (a : ℕ) (bytes buf : List ℕ) (ran : MachineCollection (List ℕ)) (runs : n.collection ≡ Some ran) where
  same_went : (step : StepValue) (answer : Result Answer Refusal) → ((key : List ℕ) → IsKeptKey step answer key → ⊥) → n.collection ≡ m.collection → Went step answer m ran
  same_went step answer none same = record { was = ran; ran_before = sym same ∙ runs; more = needs_same (IsKeptKey step answer) (NeededSince of_files ran) none }

  more_went : (step : StepValue) (answer : Result Answer Refusal) (keys : List (List ℕ)) → ((key : List ℕ) → Contains keys key ↔ IsKeptKey step answer key)
      → n.collection ≡ keeping keys m.collection
      → Went step answer m ran
  more_went step answer keys same others = by m.collection refl (sym others ∙ runs)
    where
      by : (o : Option (MachineCollection (List ℕ))) → m.collection ≡ o → keeping keys o ≡ Some ran → Went step answer m ran
      by None is now = absurd (let wrong : None ≡ Some ran = now in cc)
      by (Some c) is now = record {
        was = c;
        ran_before = is;
        more = subst (λ (d : MachineCollection (List ℕ)). NeedsMore (IsKeptKey step answer) (NeededSince of_files c) (NeededSince of_files d))
            (let same_one : record c { keys = c.keys ++ keys } ≡ ran = cc in same_one) (needs_more (IsKeptKey step answer) (OneNeeds of_files c.values) c.keys keys same);
      }

  went : (step : StepValue) (answer : Result Answer Refusal) → IsPlainStep step → Answers of_files a (ask bytes step) (answered_by answer buf) m n → Went step answer m ran
  went (steps.Claim seg) (Ok answers.Held) plain is =
      more_went (steps.Claim seg) (Ok answers.Held) (segment_key seg.kind seg.segment ∷ []) (contains_one (segment_key seg.kind seg.segment)) (runs_as is.others)
  went (steps.Seal offered) (Ok (answers.Sealed id count)) plain is =
      more_went (steps.Seal offered) (Ok (answers.Sealed id count)) (keys_in (take count offered)) (λ key. (λ there. there, λ there. there))
      (added_keys a (take count offered) m n is.adds)
  went steps.Begin (Ok answers.Begun) plain is = same_went steps.Begin (Ok answers.Begun) (λ key none. none) (runs_as is.1)
  went (steps.Claim seg) (Ok answers.Absent) plain is = same_went (steps.Claim seg) (Ok answers.Absent) (λ key none. none) (runs_as is.2)
  went (steps.Commit name root) (Ok (answers.Committed sequence)) plain is =
      same_went (steps.Commit name root) (Ok (answers.Committed sequence)) (λ key none. none) (runs_as is.others)
  went steps.Abort (Ok answers.Aborted) plain is = same_went steps.Abort (Ok answers.Aborted) (λ key none. none) (runs_as is.1)
  went (steps.OpenRead name) (Ok (answers.Opened count)) plain is = same_went (steps.OpenRead name) (Ok (answers.Opened count)) (λ key none. none) (runs_as is.2.5)
  went steps.ReadNext (Ok (answers.Bytes count)) plain is = same_went steps.ReadNext (Ok (answers.Bytes count)) (λ key none. none) (runs_as is.5)
  went steps.ReadNext (Ok answers.End) plain is = same_went steps.ReadNext (Ok answers.End) (λ key none. none) (runs_as is.4)
  went steps.EndRead (Ok answers.Dropped) plain is = same_went steps.EndRead (Ok answers.Dropped) (λ key none. none) (runs_as is.1)
  went (steps.Delete name) (Ok (answers.Deleted sequence)) plain is = same_went (steps.Delete name) (Ok (answers.Deleted sequence)) (λ key none. none) (runs_as is.others)
  went steps.ListNames (Ok (answers.Listed files)) plain is = same_went steps.ListNames (Ok (answers.Listed files)) (λ key none. none) (runs_as is.1)
  went steps.Stat (Ok (answers.Stat files segments count used free)) plain is =
      same_went steps.Stat (Ok (answers.Stat files segments count used free)) (λ key none. none) (runs_as is.1)
  went steps.Unique (Ok (answers.Unique segments count)) plain is = same_went steps.Unique (Ok (answers.Unique segments count)) (λ key none. none) (runs_as is.1)
  went (steps.GcStart percent) answer plain is = absurd plain
  went steps.GcStep answer plain is = absurd plain
  went step (Err refusal) plain is = same_went step (Err refusal) (none_kept step refusal) (refused_keeps of_files a (ask bytes step) refusal m n is).collection
  went step answer plain is = absurd is

-- ---- a collection that begins

abbrev begun_so : FileMachine → (percent snapshot : ℕ) → MachineCollection (List ℕ)
begun_so m percent snapshot = record {
  percent = percent;
  snapshot = snapshot;
  stage = marking (marks_of m.store.held);
  recorded = [];
  changes = [];
  values = finite.values m.now.names ++ values_read m.parts;
  keys = keys_kept m.parts;
}

-- ---- a step that went on

module _ {C : Type 0} {state : C → CoreState} {among : ByteSet} {f : FileEvent} {old new : C} {m n : FileMachine} {r t : RootMachine} (to : StepsTo C state among f old new m n r t)
    (is_at : IsAt (IsIn among) n.store (stored_in n.now) (state new)) (stays : (state new).stop ≡ None) where
  abbrev at : StepsAt C state among f old new m r t
  at = to.steps

  abbrev begins : IsAt (IsIn among) m.store (stored_in m.now) (state old)
  begins = at.at.is_at

  abbrev content : List ℕ
  content = begins.stands.known.0

  abbrev here : (state old).disk.content ≡ Some content
  here = begins.stands.known.1

  abbrev image : List ℕ
  image = is_at.stands.known.0

  abbrev told : (state new).disk.content ≡ Some image
  told = is_at.stands.known.1

  made : Steps f.event (state old) (state new)
  made = running_step (state old) (state new) f.event at.goes at.step.made

  answered : Answers of_files f.event.actor (ask f.bytes f.event.step) (answered_by f.event.answer f.event.buf) m n
  answered = answers_by m n f.event.actor f.bytes f.event.buf m.store at.runs f.event.step (answered_by f.event.answer f.event.buf) to.legal

  -- a step that was refused is no other machine, since the core goes on
  same_machine : IsLeft m n → n ≡ m
  same_machine left = left_same m n t (state new) left to.forgets at.then stays

  -- one that is none of a collection
  plain_lives : IsPlainStep f.event.step → LivesByNeed n (state new)
  plain_lives plain ran collection runs core_runs =
      let other = plain_no_gc f.event.step plain in
      let goes = next to other stays in
      let before = went m n f.event.actor f.bytes f.event.buf ran runs f.event.step f.event.answer plain answered in
      let calm = at_on (IsIn among) m.store (stored_in m.now) (state old) begins at.at.settled in
      let written = (written_stays C state (f.event ∷ []) m.store content old new calm here (new, (at.step.made, refl)) (other, tt)).0 in
      subst (λ (s : Store). LivesJust (NeededSince of_files ran) s (state new) collection) (comes to other stays).store
      (lives_on (IsIn among) m.store (stored_in m.now) (stored_by f (stored_in m.now)) (state old) (state new) f.event begins goes plain made content written.0 here written.1
      written.2.slots
      (NeededSince of_files before.was) (NeededSince of_files ran) before.more (λ c is. at.at.lives before.was c before.ran_before is) collection core_runs)

  -- ---- a collection that begins

  started_lives : (percent snapshot : ℕ) → Begins of_files percent snapshot m n → CoreBegins percent snapshot (state old) (state new) → (state new).known ≡ (state old).known
      → (state new).disk.content ≡ (state old).disk.content → LivesByNeed n (state new)
  started_lives percent snapshot begins_so begun index_is content_is ran collection runs core_runs =
      let fit = all_fit m.parts r.parts (state old).parts at.forgets.parts at.machine.parts in
      subst (λ (s : Store). LivesJust (NeededSince of_files ran) s (state new) collection) (sym (ap (λ (x : FileMachine). x.store) begins_so.2))
      (subst (λ (c : MachineCollection (List ℕ)). LivesJust (NeededSince of_files c) m.store (state new) collection)
      (some_same (begun_so m percent snapshot) ran (sym (runs_as begins_so.2) ∙ runs))
      (lives_begun (IsIn among) m.store (stored_in m.now) (state old) (state new) begins content here percent snapshot begun
      (NeededNow (IsIn among) m (state old) begins fit at.at.reads content here) index_is content_is
      (roots_needed (IsIn among) m (state old) begins fit at.at.reads content here) (needed_closed (IsIn among) m (state old) begins fit at.at.reads content here)
      (needed_below (IsIn among) m (state old) begins fit at.at.reads content here begun.collection.live
      (roots_live (IsIn among) m.store (stored_in m.now) (state old) (state new) begins content here percent snapshot begun))
      collection core_runs))

  -- neither the collection nor what its keys rest on changed
  unchanged_lives : n ≡ m → (state new).collection ≡ (state old).collection → (state new).known ≡ (state old).known
      → (state new).disk.content ≡ (state old).disk.content → LivesByNeed n (state new)
  unchanged_lives same core_same index_is content_is ran collection runs core_runs =
      subst (λ (s : Store). LivesJust (NeededSince of_files ran) s (state new) collection) (sym (ap (λ (x : FileMachine). x.store) same))
      (lives_same (NeededSince of_files ran) m.store (state old) (state new) collection index_is content_is
      (at.at.lives ran collection (sym (runs_as same) ∙ runs) (sym core_same ∙ core_runs)))

  -- ---- a step of the collection

  -- that was made
  did_lives : (phase : Phase) → GoesOn of_files phase m n → (goes : CoreGoesOn phase (state old) (state new))
      → (touches : TouchesBy (state old).collection (Ok (answers.Did phase)) (state old) (state new).disk)
      → (later : IsLater (state old).disk (state new).disk) → LivesByNeed n (state new)
  did_lives phase went_on goes touches later ran collection runs core_runs =
      subst (LivesJust (NeededSince of_files ran) n.store (state new)) (same_some goes.after collection (state new).collection goes.runs core_runs)
      (lives_made P among m.store n.store (stored_in m.now) (state old) (state new) begins content here is_at.index image is_at.index_known told goes.before goes.after
      lives_before still (state new).parts safe_then
      (same_at goes.before.stage goes.before.sweep.next touched (led_to among m.store (stored_in m.now) (state old) (state new) begins n.store same_files phase goes touches
      later) goes.steps)
      (subst (λ (k : Option PlaceMap). CoreStepsTo goes.before.stage goes.before.sweep.next (moment (state old).tables k (state old).disk goes.before)
      (at_moment (state new) goes.after)) begins.index_known goes.steps))
    where
      P : List ℕ → Type 0
      P = NeededSince of_files ran

      -- what it needed is what it needed before
      needs_same_then : record went_on.c { stage = went_on.went.stage; recorded = went_on.went.recorded; changes = went_on.c.changes ++ went_on.went.changes } ≡ ran
      needs_same_then = some_same _ ran (sym (runs_as went_on.others) ∙ runs)

      lives_before : LivesJust P m.store (state old) goes.before
      lives_before =
          subst (λ (c : MachineCollection (List ℕ)). LivesJust (NeededSince of_files c) m.store (state old) goes.before) needs_same_then
          (at.at.lives went_on.c goes.before went_on.ran goes.ran)

      same_files : IsAt (IsIn among) n.store (stored_in m.now) (state new)
      same_files = subst (λ (s : Stored). IsAt (IsIn among) n.store s (state new)) (ap (λ (x : FileMachine). stored_in x.now) went_on.others) is_at

      touched : Touches goes.before.stage goes.before.sweep.next goes.before.sweep (state old).tables DoneEnding (state old).disk (state new).disk
      touched = subst (λ (o : Option Collection). TouchesBy o (Ok (answers.Did phase)) (state old) (state new).disk) goes.ran touches

      safe_then : IsSafe is_at.index n.store (state new).parts image goes.after
      safe_then = subst (IsSafeIn is_at.index n.store (state new).parts image) goes.runs (is_at.safe image told)

      still : (key : List ℕ) → IsLive begins.index goes.before.live key → IsLive is_at.index goes.after.live key
      still key is =
          let left = leaves among m.store (stored_in m.now) (state old) (state new) begins n.store same_files phase goes touches later in
          let same : left.later ≡ is_at.index = let both : Some left.later ≡ Some is_at.index = sym left.known_is ∙ is_at.index_known in cc in
          subst (λ (i : PlaceMap). IsLive i goes.after.live key) same (left.lives key is)

      same_at : (stage : Stage) (then : Next) → Touches stage then goes.before.sweep (state old).tables DoneEnding (state old).disk (state new).disk
          → IsStoreAfter stage then goes.before.snapshot goes.before.sweep begins.index m.store n.store content
          → CoreStepsTo stage then (at_moment (state old) goes.before) (at_moment (state new) goes.after)
          → IsSameIn m.store n.store (state old) (state new) stage
      same_at (Mark level slot) then touch store_is made_so = (touch.only.content_is, store_is, made_so.1)
      same_at other then touch store_is made_so = tt

  -- that was refused
  refused_lives : (refusal : Refusal) → (refusal ≡ refusals.DiskWrite → ⊥) → n ≡ m → (row : IsNotMade refusal (state old) (state new))
      → TouchesBy (state old).collection (Err refusal) (state old) (state new).disk
      → LivesByNeed n (state new)
  refused_lives refusal whole same row touches ran collection runs core_runs =
      subst (λ (s : Store). LivesJust P s (state new) collection) (sym (ap (λ (x : FileMachine). x.store) same))
      (subst (LivesJust P m.store (state new)) (same_some row.after collection (state new).collection row.runs core_runs)
      (lives_kept P among m.store m.store (stored_in m.now) (state old) (state new) begins content here begins.index image known_then told row.before row.after lives_before
      still refusal
      (same_at row.before.stage row.before.sweep.next touched) keeps))
    where
      P : List ℕ → Type 0
      P = NeededSince of_files ran

      known_then : (state new).known ≡ Some begins.index
      known_then = refused_known among m.store (stored_in m.now) (state old) (state new) begins refusal row whole

      lives_before : LivesJust P m.store (state old) row.before
      lives_before = at.at.lives ran row.before (sym (runs_as same) ∙ runs) row.ran

      touched : Touches row.before.stage row.before.sweep.next row.before.sweep (state old).tables (ending_of (blames refusal)) (state old).disk (state new).disk
      touched = subst (λ (o : Option Collection). TouchesBy o (Err refusal) (state old) (state new).disk) row.ran touches

      keeps : Keeps row.before.stage row.before.sweep.next (moment (state old).tables (Some begins.index) (state old).disk row.before) (at_moment (state new) row.after) refusal
      keeps =
          subst (λ (k : Option PlaceMap). Keeps row.before.stage row.before.sweep.next (moment (state old).tables k (state old).disk row.before)
          (at_moment (state new) row.after) refusal) begins.index_known row.kept

      still : (key : List ℕ) → IsLive begins.index row.before.live key → IsLive begins.index row.after.live key
      still key is = (is.0, (is.1.0, kept_marks (state old) (state new) begins.index row.before row.after row.before.stage row.before.sweep.next refusal keeps key is.0 is.1.1))

      same_at : (stage : Stage) (then : Next) → Touches stage then row.before.sweep (state old).tables (ending_of (blames refusal)) (state old).disk (state new).disk
          → IsSameIn m.store m.store (state old) (state new) stage
      same_at (Mark level slot) then touch = (touch.only.content_is, refl, known_then ∙ sym begins.index_known)
      same_at other then touch = tt

  -- ---- whichever it is

  gc_lives : f.event.step ≡ steps.GcStep → (answer : Result Answer Refusal) → f.event.answer ≡ answer
      → Answers of_files f.event.actor (ask f.bytes steps.GcStep) (answered_by answer f.event.buf) m n
      → GcRow answer (state old) (state new) → GcEffect answer (state old) (state new) → StopsAfter steps.GcStep answer (state old).acknowledged (state new).stop
      → LivesByNeed n (state new)
  gc_lives step (Ok (answers.Did phase)) is legal row effect stops = did_lives phase legal row.0 effect.touches effect.later
  gc_lives step (Ok (answers.Done freed copied)) is legal row effect stops = λ ran collection runs core_runs.
      absurd (let wrong : None ≡ Some ran = sym (runs_as legal.others) ∙ runs in cc)
  gc_lives step (Ok answer) is legal row effect stops = absurd row
  gc_lives step (Err refusals.NotCollecting) is legal row effect stops = λ ran collection runs core_runs.
      absurd (let wrong : None ≡ Some collection = sym row.0.none_runs ∙ core_runs in cc)
  gc_lives step (Err refusals.DiskWrite) is legal row effect stops = absurd (let both = sym stays ∙ stops in cc)
  gc_lives step (Err refusal) is legal row effect stops =
      refused_lives refusal (λ same. absurd cc) (same_machine (refused_left of_files m n f.event.actor (ask f.bytes steps.GcStep) refusal tt legal)) row.0 effect.touches

  start_lives : (percent : ℕ) → f.event.step ≡ steps.GcStart percent → (answer : Result Answer Refusal) → f.event.answer ≡ answer
      → Answers of_files f.event.actor (ask f.bytes (steps.GcStart percent)) (answered_by answer f.event.buf) m n → StartRow percent answer (state old) (state new)
      → Rests answer (state old) (state new) → LivesByNeed n (state new)
  start_lives percent step (Ok (answers.Started snapshot)) is legal row effect = started_lives percent snapshot legal row.0 effect.tables.index_is effect.disk.only.content_is
  start_lives percent step (Ok answer) is legal row effect = absurd row
  start_lives percent step (Err refusal) is legal row effect =
      unchanged_lives (same_machine (refused_left of_files m n f.event.actor (ask f.bytes (steps.GcStart percent)) refusal tt legal)) (still refusal row) effect.tables.index_is
      effect.disk.only.content_is
    where
      still : (refusal : Refusal) → StartRow percent (Err refusal) (state old) (state new) → (state new).collection ≡ (state old).collection
      still (refusals.Collecting phase) row = row.1
      still refusal row = row.none_runs

  by_step : (step : StepValue) → f.event.step ≡ step → LivesByNeed n (state new)
  by_step (steps.GcStart percent) is =
      start_lives percent is f.event.answer refl (subst (λ (s : StepValue). Answers of_files f.event.actor (ask f.bytes s) (answered_by f.event.answer f.event.buf) m n) is
      answered)
      (subst (λ (s : StepValue). Row s f.event.actor f.event.answer f.event.buf (state old) (state new)) is made.made.row)
      (subst (λ (s : StepValue). Effect s f.event.answer (state old) (state new)) is made.made.effect)
  by_step steps.GcStep is =
      gc_lives is f.event.answer refl (subst (λ (s : StepValue). Answers of_files f.event.actor (ask f.bytes s) (answered_by f.event.answer f.event.buf) m n) is answered)
      (subst (λ (s : StepValue). Row s f.event.actor f.event.answer f.event.buf (state old) (state new)) is made.made.row)
      (subst (λ (s : StepValue). Effect s f.event.answer (state old) (state new)) is made.made.effect)
      (subst (λ (s : StepValue). StopsAfter s f.event.answer (state old).acknowledged (state new).stop) is made.stops)
  by_step step is = plain_lives (subst IsPlainStep (sym is) tt)

  -- Just what was needed as the collection that runs began, or since, is live.
  pub lives_then : LivesByNeed n (state new)
  lives_then = by_step f.event.step refl
