-- Each step of a whole load in a store without names is done or refused for its cause, and so is the whole.
use Rattle.std.proofs.Common.{◌≡◌, ◌⊎◌, inl, inr, ◌≤◌, ◌<◌, ◌^◌, ℕ, zero, suc, List, [], ◌∷◌, Result, Ok, Err, IfErr, refl, sym, ap, ◌∙◌, subst, arith, ne_eqb}
use Rattle.std.specs.List.{AllByRecursion}
use Rattle.dd_disk.specs.View.{DiskView}
use Rattle.disk_format.specs.declared.numbers.TheConstants.{MOST_FILE}
use Rattle.actor_parts.specs.declared.step.Answer.{Answer}
use Rattle.actor_parts.specs.Asking.{Ask}
use Rattle.actor_parts.specs.StepValue as asked
use Rattle.load_stream.specs.Load.{LoadState}
use Rattle.refusals.specs.declared.refusal.Refusal.{Refusal}
use Rattle.refusals.specs.declared.refusal.Refusal.TheVariants as refusals
use Rattle.store_model.specs.Collisions.{HasNoCollisions, IsIn}
use Rattle.store_core.specs.Runs.{RunsOn}
use Rattle.store_core.specs.State.{CoreState, Event}
use Rattle.store_core.proofs.CoreRuns.{run_later}
use Rattle.store_machine.specs.Machine.{RunState}
use Rattle.core_machine.specs.Files.{FilesRefine, FitsBy, IsAtFiles}
use Rattle.ingest_workers.specs.declared.job.Job.{Job}
use Rattle.ingest_workers.specs.Owing.{AreAllOwed, AreOwed, JobsAreOwed, OwedRunsAreRight}
use Rattle.shared_store.specs.Events.{event_of}
use Rattle.shared_work.specs.Clashing.{IsHeldBetween, IsHeldNode, IsNoClash, IsNodeOf, NoneClashes}
use Rattle.shared_work.specs.Complete.{MayRefuse, WhatWorkersAskIsDone}
use Rattle.shared_work.specs.Completing.{IsCause, IsWorkNode, ShownSince, WorksAreComplete}
use Rattle.shared_work.specs.Pinning.{IsPinned, NoneLacksPin}
use Rattle.shared_work.specs.Whole.{Outcome, Plan, WorkSteps, streams_of}
use Rattle.shared_work.proofs.Due.{all_owed, all_steps, asks_others}
use Rattle.shared_work.proofs.Ending.{each_may, none_named}
use Rattle.shared_work.proofs.Leaving.{beginning}
use Rattle.shared_work.proofs.RefusedJobs.{work_may}
use Rattle.shared_work.proofs.Shown.{IsShown, each_shown}

-- ---- what is due

-- names alone
only_owed : (plan : Plan) (answer : Result Answer Refusal) (buf : List ℕ)
    → AreAllOwed (streams_of plan) (event_of 0 (record { step = asked.ListNames; answer = answer; buf = buf }) ∷ [])
only_owed plan answer buf zero = (tt, tt)
only_owed plan answer buf (suc worker) =
    subst (AreOwed (streams_of plan (suc worker)) [])
    (sym (asks_others 0 (suc worker) (record { step = asked.ListNames; answer = answer; buf = buf } ∷ []) (ne_eqb 0 (suc worker) (λ same. absurd (omega (arith, same)))))) tt

-- all that a load asks for
steps_owed : JobsAreOwed → (plan : Plan) (came : Outcome) (steps : List Event) → WorkSteps plan came steps → AreAllOwed (streams_of plan) steps
steps_owed owed plan came steps w =
    let first : Ask = record { step = asked.ListNames; answer = w.first.answer; buf = w.first.buf } in
    let first_is : w.first ≡ event_of 0 first = λ i. record { actor = w.actor_is i; step = w.step_is i; answer = w.first.answer; buf = w.first.buf } in
    let steps_are : steps ≡ event_of 0 first ∷ w.rest = w.steps_are ∙ ap (λ (e : Event). e ∷ w.rest) first_is in
    subst (AreAllOwed (streams_of plan)) (sym steps_are)
    (elim (beginning plan w.first.answer came w.rest w.goes) [
      | inl ended ↦
          subst (λ (es : List Event). AreAllOwed (streams_of plan) (event_of 0 first ∷ es)) (sym ended.0) (only_owed plan w.first.answer w.first.buf)
      | inr empty ↦
          let on = empty.1 in
          let all_is : event_of 0 first ∷ w.rest ≡ all_steps first on.beside on.last = ap (λ (es : List Event). event_of 0 first ∷ es) on.steps_are in
          subst (AreAllOwed (streams_of plan)) (sym all_is) (all_owed owed plan came first w.rest refl on)
    ])

-- ---- each refusal

module _ (plan : Plan) (first last : DiskView) where
  -- it may be, an image shows what one may show, and no step clashes or lacks a pin where there are no two such nodes: so it has its cause
  has_cause : (refusal : Refusal) → MayRefuse refusal → (HasNoCollisions (IsWorkNode plan first last) → IsNoClash (Err refusal))
      → (HasNoCollisions (IsNodeOf (streams_of plan)) → IsPinned (Err refusal)) → IsShown first last refusal → IsCause plan first last refusal
  has_cause refusals.Memory may clear pinned shown = tt
  has_cause (refusals.Full free) may clear pinned shown = shown
  has_cause refusals.Numbers may clear pinned shown = shown
  has_cause refusals.DiskRead may clear pinned shown = tt
  has_cause refusals.DiskWrite may clear pinned shown = tt
  has_cause (refusals.Stopped at) may clear pinned shown = tt
  has_cause (refusals.Clash key at) may clear pinned shown = clear
  has_cause (refusals.Unpinned key) may clear pinned shown = pinned
  has_cause refusal may clear pinned shown = absurd may

  answer_cause : (answer : Result Answer Refusal) → IfErr answer MayRefuse → (HasNoCollisions (IsWorkNode plan first last) → IsNoClash answer)
      → (HasNoCollisions (IsNodeOf (streams_of plan)) → IsPinned answer) → IfErr answer (IsShown first last) → IfErr answer (IsCause plan first last)
  answer_cause (Ok answer) may clear pinned shown = tt
  answer_cause (Err refusal) may clear pinned shown = has_cause refusal may clear pinned shown

  each_cause : (es : List Event) → AllByRecursion (λ e. IfErr e.answer MayRefuse) es
      → (HasNoCollisions (IsWorkNode plan first last) → AllByRecursion (λ e. IsNoClash e.answer) es)
      → (HasNoCollisions (IsNodeOf (streams_of plan)) → AllByRecursion (λ e. IsPinned e.answer) es)
      → AllByRecursion (λ e. IfErr e.answer (IsShown first last)) es → AllByRecursion (λ e. IfErr e.answer (IsCause plan first last)) es
  each_cause [] may clear pinned shown = tt
  each_cause (e ∷ es) may clear pinned shown = (
    answer_cause e.answer may.0 (λ apart. (clear apart).0) (λ apart. (pinned apart).0) shown.0,
    each_cause es may.1 (λ apart. (clear apart).1) (λ apart. (pinned apart).1) shown.1,
  )

-- files are no longer than one may be
all_fit : (jobs : List Job) → AllByRecursion (λ j. (j.number < 2 ^ 64) × (j.length ≤ MOST_FILE)) jobs → AllByRecursion (λ j. j.length ≤ MOST_FILE) jobs
all_fit [] small = tt
all_fit (job ∷ jobs) small = (small.0.1, all_fit jobs small.1)

-- ---- the law

module _ {C : Type 0} (state : C → CoreState) where
  -- what the disk tells between some steps is what a crash might have left then
  held_since : (es : List Event) (old new : C) (bytes : List ℕ) → IsHeldBetween state es old new bytes
      → ShownSince (state old).disk (state new).disk (IsHeldNode bytes)
  held_since es old new bytes is =
      let mid = (state is.mid).disk in
      let start : ℕ = (state old).disk.clock in
      let earlier = (run_later C state is.before old is.mid is.first).clock_is in
      let later = run_later C state is.after is.mid new is.then_run in
      let content : List ℕ = is.held.0 in
      (content, (later.images_were start content earlier (mid.counts_now start content earlier (mid.as_read content is.held.1)), is.held.2))

  node_of : (es : List Event) (old new : C) (plan : Plan) (bytes : List ℕ) → IsNodeOf (streams_of plan) bytes ⊎ IsHeldBetween state es old new bytes
      → IsWorkNode plan (state old).disk (state new).disk bytes
  node_of es old new plan bytes (inl node) = inl node
  node_of es old new plan bytes (inr held) = inr (held_since es old new bytes held)

  pub works_are_complete : FilesRefine C state → RunsOn C state → OwedRunsAreRight C state → WhatWorkersAskIsDone C state → NoneClashes C state → NoneLacksPin C state → JobsAreOwed
      → WorksAreComplete C state
  works_are_complete refine runs_on rightly done none_clash none_lack owed among plan came m old new distinct segments small empty last works =
      (each, by came refl)
    where
      own : ℕ → List LoadState
      own = streams_of plan

      Cause : Refusal → Type 0
      Cause = IsCause plan (state old).disk (state new).disk

      at : IsAtFiles (IsIn among) m (state old)
      at = subst (λ (s : RunState (List ℕ)). FitsBy s (IsIn among) m (state old)) empty.runs empty.machine.fits

      due : AreAllOwed own works.steps
      due = steps_owed owed plan came works.steps works.steps_are

      clear : HasNoCollisions (IsWorkNode plan (state old).disk (state new).disk) → AllByRecursion (λ e. IsNoClash e.answer) works.steps
      clear apart = none_clash among own works.steps m at.is_at.stands.known.0 old new distinct segments empty.running empty.machine empty.runs works.each works.run due
          at.is_at.stands.known.1 (λ a b a_is b_is. apart a b (node_of works.steps old new plan a a_is) (node_of works.steps old new plan b b_is))

      pinned : HasNoCollisions (IsNodeOf own) → AllByRecursion (λ e. IsPinned e.answer) works.steps
      pinned apart = none_lack among own works.steps m old new distinct segments empty.running empty.machine empty.runs works.each works.run due apart

      each : AllByRecursion (λ e. IfErr e.answer Cause) works.steps
      each = each_cause plan (state old).disk (state new).disk works.steps (each_may state refine done among plan came m old new distinct segments small empty works) clear pinned
          (each_shown state refine runs_on rightly among own works.steps m old new distinct segments empty.running empty.machine empty.runs works.each works.run due last)

      by : (outcome : Outcome) → came ≡ outcome → IfErr outcome Cause
      by (Ok summary) is = tt
      by (Err refusal) is = work_may Cause tt (λ n. n ≤ MOST_FILE) (λ n fits long. absurd (omega (arith, fits, long))) plan came works.steps refusal small.some
          (all_fit plan.jobs small.small) works.steps_are
          (λ file more told. absurd (none_named state refine done among plan came m old new distinct segments small empty works file more told)) each is
