-- A whole load on any disk, as a run of the machine of roots.
use Rattle.std.proofs.Common.{◌≡◌, ◌<◌, ℕ, false, List, [], ◌∷◌, ◌++◌, map, Option, Some, None, Result, Ok, Err, IfErr, refl, ap, ◌∙◌, subst}
use Rattle.std.proofs.lemmas.List.{map-append}
use Rattle.std.specs.List.{AllByRecursion}
use Rattle.namespace.specs.Listing.{NamedRoot}
use Rattle.actor_parts.specs.declared.step.Answer.{Answer}
use Rattle.actor_parts.specs.declared.step.Answer.TheVariants as answers
use Rattle.actor_parts.specs.StepValue as steps
use Rattle.disk_format.specs.declared.numbers.TheConstants.{MOST_FILE}
use Rattle.refusals.specs.declared.refusal.Refusal.{Refusal}
use Rattle.refusals.specs.declared.refusal.Refusal.TheVariants as refusals
use Rattle.store_core.proofs.CoreRuns.{run_later}
use Rattle.store_core.specs.declared.stop.Stop.{Stop}
use Rattle.store_core.specs.Runs.{RunsOn}
use Rattle.store_core.specs.State.{CoreState, Event}
use Rattle.store_machine.specs.Asked as asked
use Rattle.store_machine.specs.Legal.{listing}
use Rattle.store_machine.specs.Machine.{Stepped, Stopped}
use Rattle.store_machine.specs.Remembering.{RootMachine}
use Rattle.store_machine.specs.Runs.{Run}
use Rattle.store_machine.specs.Values.{of_roots}
use Rattle.core_machine.specs.Refines.{CoreRefines}
use Rattle.core_machine.specs.Runs.{RunsRefine, stepped}
use Rattle.shared_store.specs.Events.{event_of}
use Rattle.ingest_workers.specs.declared.job.Job.{Job}
use Rattle.shared_work.specs.declared.whole.Summary.{Summary}
use Rattle.shared_work.specs.Left.{WorksAreRuns}
use Rattle.shared_work.specs.Whole.{BeginsBy, EndsBy, GoesBy, Outcome, Plan, WorkSteps, WorksOnEmpty, refused_in}
use Rattle.shared_work.proofs.Answering.{answers_as_it_runs}
use Rattle.shared_work.proofs.RefusedJobs.{work_may}
use Rattle.shared_work.proofs.Told.{StoppedBy, counts, stop_answered, was_stopped}
use Rattle.shared_work.proofs.Concluding.{EndsTold, ends_told, not_refused, told_behind, told_last}

-- the steps of a load that is summed up end so
sums_up : (plan : Plan) (came : Outcome) (summary : Summary) (all : List Event) → came ≡ Ok summary → WorkSteps plan came all → EndsTold summary all
sums_up plan came summary all is w = told_behind summary (w.first ∷ []) w.rest all w.steps_are (by w.first.answer w.goes)
  where
    ended : (first : Option Refusal) (o : WorksOnEmpty plan came w.rest) → EndsBy plan.percent first came o.last → EndsTold summary (map (event_of 0) o.last)
    ended (Some r) o ends = absurd (not_refused summary came is r ends.1)
    ended None o ends = ends_told summary came is plan.percent o.last ends

    by_names : (files : List NamedRoot) → GoesBy plan files came w.rest → EndsTold summary w.rest
    by_names [] o = told_behind summary o.beside (map (event_of 0) o.last) w.rest o.steps_are (ended (refused_in o.ended o.collected) o o.ends)
    by_names (file ∷ more) goes = absurd (not_refused summary came is _ goes.1)

    by : (answer : Result Answer Refusal) → BeginsBy plan answer came w.rest → EndsTold summary w.rest
    by (Ok (answers.Listed files)) goes = by_names files goes
    by (Err r) goes = absurd (not_refused summary came is r goes.1)
    by answer goes = absurd goes

-- ---- the law

module _ {C : Type 0} (state : C → CoreState) (runs_on : RunsOn C state) (refines : CoreRefines C state) (runs_refine : RunsRefine C state) where
  listed_last : (came : Outcome) (summary : Summary) (plan : Plan) (all : List Event) (m n : RootMachine) → came ≡ Ok summary → WorkSteps plan came all
      → Run of_roots (map stepped all) m n → summary.files ≡ listing of_roots n.now
  listed_last came summary plan all m n is w run =
      let s = sums_up plan came summary all is w in
      let list : Event = event_of 0 s.list in
      let count : Event = event_of 0 s.count in
      let here : Run of_roots (map stepped s.before ++ stepped list ∷ stepped count ∷ []) m n =
      subst (λ (l : List (Stepped _)). Run of_roots l m n) (ap (map stepped) s.all_is ∙ map-append stepped s.before (list ∷ count ∷ [])) run in
      (told_last of_roots summary (map stepped s.before) (stepped list) (stepped count) m n
      (ap (λ (x : _). (stepped (record { actor = 0; step = x; answer = s.list.answer; buf = s.list.buf })).asked) s.list_is)
      (ap (λ (x : _). (stepped (record { actor = 0; step = s.list.step; answer = x; buf = s.list.buf })).answer) s.listed)
      (ap (λ (x : _). (stepped (record { actor = 0; step = x; answer = s.count.answer; buf = s.count.buf })).asked) s.count_is)
      (ap (λ (x : _). (stepped (record { actor = 0; step = s.count.step; answer = x; buf = s.count.buf })).answer) s.counted) here).listed

  -- each step's answer tells no stopped store, or the core is stopped at the end
  abbrev MayStop : C → Refusal → Type 0
  MayStop new refusal = (at : ℕ) → refusal ≡ refusals.Stopped at → (s : Stop) × ((state new).stop ≡ Some s)

  none_long : (n : ℕ) → Unit {0} → MOST_FILE < n → (new : C) → MayStop new refusals.TooLong
  none_long n fits above new at told = absurd (cc)

  -- a step was answered, or refused so
  abbrev AnswersSo : C → Result Answer Refusal → Type 0
  AnswersSo new answer = IfErr answer (MayStop new)

  tells : (new : C) (answer : Result Answer Refusal) → StoppedBy state new answer → AnswersSo new answer
  tells new (Ok answer) told = tt
  tells new (Err refusal) told = λ at is. told at (ap Err is)

  each_tells : (new : C) (es : List Event) → AllByRecursion (λ e. StoppedBy state new e.answer) es → AllByRecursion (λ e. AnswersSo new e.answer) es
  each_tells new [] each = tt
  each_tells new (e ∷ es) each = (tells new e.answer each.0, each_tells new es each.1)

  all_fit : (jobs : List Job) → AllByRecursion (λ j. Unit {0}) jobs
  all_fit [] = tt
  all_fit (j ∷ jobs) = (tt, all_fit jobs)

  pub works_are_runs : WorksAreRuns state
  works_are_runs plan came m old new some running runs fits works =
      let went = runs_refine false works.steps old new m running fits (λ told. absurd (cc)) works.run in
      let answers = answers_as_it_runs state runs_on refines works.steps old new m running fits works.run in
      let told = each_tells new works.steps (was_stopped state works.steps old new works.run answers runs) in
      record {
        left = went.0;
        run = went.1.0;
        listed = λ summary is. listed_last came summary plan works.steps m went.0 is works.steps_are went.1.0;
        faults = counts state works.steps old new works.run;
        later = run_later C state works.steps old new works.run;
        stopped = λ at is.
            let none : MayStop new refusals.Memory = λ k same. absurd (cc) in
            let stop = work_may (MayStop new) none (λ n. Unit {0}) (λ n ok above. none_long n ok above new) plan came works.steps (refusals.Stopped at) some (all_fit plan.jobs)
            works.steps_are (λ file more listed k same. absurd (cc)) told is at refl in
            (stop.0, (stop.1, stop_answered state works.steps old new stop.0 works.run runs stop.1));
      }
