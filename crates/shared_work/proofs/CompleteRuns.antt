-- What workers ask for is done, and so are their jobs.
use Rattle.std.proofs.Common.{◌≡◌, inl, inr, ◌≤◌, ◌<◌, ◌^◌, ℕ, zero, suc, true, false, List, [], ◌∷◌, ◌++◌, is_some, slice_index_or, replicate, Some, None, Result, IfErr, refl, sym, ap, ◌∙◌, subst, arith}
use Rattle.std.proofs.lemmas.Bool.{cases_lt}
use Rattle.std.specs.List.{AllByRecursion}
use Rattle.disk_format.specs.declared.numbers.TheConstants.{MOST_FILE}
use Rattle.actor_parts.specs.declared.actor.TheConstants.{ACTORS}
use Rattle.actor_parts.specs.declared.step.Answer.{Answer}
use Rattle.actor_parts.specs.Asking.{Ask}
use Rattle.actor_parts.specs.StepValue as steps
use Rattle.actor_parts.specs.StepValue.{IsStep, StepValue}
use Rattle.refusals.specs.declared.refusal.PartKind.TheVariants as kinds
use Rattle.refusals.specs.declared.refusal.Refusal.{Refusal}
use Rattle.store_model.specs.Collisions.{IsIn as IsInSet}
use Rattle.store_core.specs.Runs.{FileEvent, RunsOn, events_of}
use Rattle.store_core.specs.State.{CoreState, Event}
use Rattle.session_turns.specs.Kinds.{KindsFollow, OthersStay}
use Rattle.store_machine.specs.ByMap.{FileMachine}
use Rattle.store_machine.specs.Machine.{Idle, Part, RunState, kind_of}
use Rattle.core_machine.specs.Files.{FilesRefine, FitsBy, IsAtFiles, stored_in}
use Rattle.ingest_workers.specs.declared.job.Job.{Job}
use Rattle.ingest_workers.specs.declared.job.JobEnd.{JobEnd}
use Rattle.ingest_workers.specs.Ingesting.{asks_of}
use Rattle.ingest_workers.specs.Named.{StreamsStay, own_by}
use Rattle.ingest_workers.specs.Owing.{AreAllOwed, AreOwed, IsOwed, JobsAreOwed, OwedRunsAreRight, own_files}
use Rattle.ingest_workers.proofs.Owed.{own_there}
use Rattle.shared_work.specs.Complete.{AreWorkersSteps, AskedBeside, IsEmptyAt, MayAsk, MayRefuse, WhatWorkersAskIsDone, runs_after}
use Rattle.shared_work.proofs.Complete.{Before, Holds, goes}
use Rattle.shared_work.proofs.RefusedJobs.{asks_may, jobs_may}
use Rattle.shared_work.proofs.CompleteSteps.{same_kind}
use Rattle.shared_work.proofs.EachStep.{each_step}
use Rattle.shared_work.proofs.CompleteWalks.{jobs_walk, seat}

-- ---- lists

each_left : {X : Type 0} (P Q : X → Type 0) (xs : List X) → AllByRecursion (λ x. P x × Q x) xs → AllByRecursion P xs
each_left P Q [] each = tt
each_left P Q (x ∷ xs) each = (each.0.0, each_left P Q xs each.1)

each_right : {X : Type 0} (P Q : X → Type 0) (xs : List X) → AllByRecursion (λ x. P x × Q x) xs → AllByRecursion Q xs
each_right P Q [] each = tt
each_right P Q (x ∷ xs) each = (each.0.1, each_right P Q xs each.1)

same_at : {T : Type 0} (many i : ℕ) (x : T) → slice_index_or (replicate many x) i x ≡ x
same_at zero i x = refl
same_at (suc many) zero x = refl
same_at (suc many) (suc i) x = same_at many i x

-- ---- what is asked for beside the workers is due

beside_owed : (runs : _) (before : List Ask) (step : StepValue) → MayAsk runs step → IsOwed [] before step
beside_owed runs before (steps.GcStart percent) may = tt
beside_owed runs before steps.GcStep may = tt
beside_owed runs before steps.Stat may = tt
beside_owed runs before steps.ListNames may = tt
beside_owed runs before steps.Unique may = tt
beside_owed runs before step may = absurd may

all_beside_owed : (runs : _) (before all : List Ask) → AskedBeside runs all → AreOwed [] before all
all_beside_owed runs before [] asked = tt
all_beside_owed runs before (a ∷ rest) asked =
    (beside_owed runs before a.step asked.0, all_beside_owed (runs_after a.step a.answer runs) (before ++ a ∷ []) rest asked.1)

-- ---- the law

module _ {C : Type 0} (state : C → CoreState) (refine : FilesRefine C state) (runs_on : RunsOn C state) (follow : KindsFollow C state) (others_stay : OthersStay C state)
    (stay : StreamsStay) (jobs_owed : JobsAreOwed) (rightly : OwedRunsAreRight C state) where
  module _ (count : ℕ) (jobs : List Job) (ended : List JobEnd) (es : List Event) (steps_are : AreWorkersSteps count jobs ended es) where
    owed : AreAllOwed (own_by count jobs) es
    owed zero = all_beside_owed false [] (asks_of 0 es) steps_are.collector
    owed (suc worker) = elim (cases_lt worker count) [
      | inl below ↦ jobs_owed count worker jobs ended [] (asks_of (suc worker) es) (steps_are.workers worker below)
      | inr past ↦ subst (AreOwed (own_files count worker jobs) []) (sym (steps_are.others (suc worker) (omega (arith, past)))) tt
    ]

    begins : (S : List ℕ → Type 0) (m : FileMachine) (old : C) → IsEmptyAt S m (state old) → Before state count jobs m old es
    begins S m old empty = record {
      workers = λ worker below. record {
        s = seat kinds.Idle (λ name. false);
        kind_is = sym (same_kind S m (state old) (suc worker) empty.machine
            ∙ ap (λ (ps : List (Part (List ℕ) (List (List ℕ)))). kind_of (slice_index_or ps (suc worker) Idle)) empty.idle ∙ ap kind_of (same_at ACTORS (suc worker) Idle));
        has = λ name there. absurd (let wrong : false ≡ true = there in cc);
        walk = jobs_walk (own_files count worker jobs) count worker jobs ended (asks_of (suc worker) es) (λ job there mine. own_there count worker jobs job there mine)
            (seat kinds.Idle (λ name. false)) refl (steps_are.workers worker below);
      };
      collector = subst (λ b. AskedBeside b (asks_of 0 es)) (sym (ap is_some empty.no_collection)) steps_are.collector;
      others = steps_are.others;
      streams = λ name bytes got. absurd (let wrong : None ≡ Some bytes = sym (empty.no_names name) ∙ got in cc);
    }

  abbrev MayBe : Result Answer Refusal → Type 0
  MayBe answer = IfErr answer MayRefuse

  pub what_workers_ask_is_done : WhatWorkersAskIsDone C state
  what_workers_ask_is_done among count jobs ended es m old new distinct segments empty run steps_are =
      let right = rightly among (own_by count jobs) es m.store (stored_in m.now) old new distinct segments at.is_at at.settled steps_are.each run
      (owed count jobs ended es steps_are) in
      let fs : List FileEvent = right.files in
      let small = each_left (λ j. j.number < 2 ^ 64) (λ j. j.length ≤ MOST_FILE) jobs steps_are.small in
      let within = each_right (λ e. IsStep e.step) (λ e. e.actor < ACTORS) es steps_are.each in
      let before : Before state count jobs m old (events_of fs) =
      subst (Before state count jobs m old) (sym right.events_are) (begins count jobs ended es steps_are (IsInSet among) m old empty) in
      let all : AllByRecursion (λ e. IfErr e.answer MayRefuse) es = subst (AllByRecursion (λ e. IfErr e.answer MayRefuse)) right.events_are
      (each_step state refine runs_on among distinct (own_by count jobs) es new (λ e. IfErr e.answer MayRefuse)
      (λ e. (λ answer told. subst MayBe (sym told) tt, λ stopped. subst MayBe (sym stopped.1) tt))
      (Holds state count jobs steps_are.few small follow others_stay stay (IsInSet among) es new within)
      (goes state count jobs steps_are.few small follow others_stay stay (IsInSet among) es new within) [] fs m old (sym right.events_are) empty.running empty.machine
      empty.runs right.of_streams right.run before) in (
        all,
        jobs_may MayRefuse tt (λ n. n ≤ MOST_FILE) (λ n fits long. absurd (omega (arith, fits, long))) count jobs ended steps_are.some
            (each_right (λ j. j.number < 2 ^ 64) (λ j. j.length ≤ MOST_FILE) jobs steps_are.small) (λ worker below. (
              asks_of (suc worker) es,
              (
                steps_are.workers worker below,
                asks_may MayRefuse tt (λ n. n ≤ MOST_FILE) (λ n fits long. absurd (omega (arith, fits, long))) (suc worker) es all,
              ),
            )),
      )
    where
      at : IsAtFiles (IsInSet among) m (state old)
      at = subst (λ (s : RunState (List ℕ)). FitsBy s (IsInSet among) m (state old)) empty.runs empty.machine.fits
