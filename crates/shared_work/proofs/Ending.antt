-- Each step of a whole load in a store without names is done, or refused by what may refuse it; and no names are listed first.
use Rattle.std.proofs.Common.{◌≡◌, ◌≢◌, ◌<◌, ◌%◌, ◌==◌, ℕ, suc, Bool, true, false, List, [], ◌∷◌, ◌++◌, map, length, Option, Some, None, Result, Ok, Err, IfErr, refl, sym, ap, ◌∙◌, subst, arith, append-nil, MatchBool}
use Rattle.std.specs.FinMap as finite
use Rattle.std.specs.List.{AllByRecursion}
use Rattle.namespace.specs.Listing.{NamedRoot}
use Rattle.actor_parts.specs.declared.actor.TheConstants.{ACTORS}
use Rattle.actor_parts.specs.declared.step.Answer.{Answer}
use Rattle.actor_parts.specs.declared.step.Answer.TheVariants as answers
use Rattle.actor_parts.specs.Asking.{Ask}
use Rattle.actor_parts.specs.StepValue as asked
use Rattle.actor_parts.specs.StepValue.{IsStep, StepValue}
use Rattle.refusals.specs.declared.refusal.Refusal.{Refusal}
use Rattle.refusals.specs.declared.refusal.Refusal.TheVariants.{Memory}
use Rattle.store_model.specs.Collisions.{ByteSet, HasNoCollisions, IsIn}
use Rattle.store_core.specs.Core.{CoreStep}
use Rattle.store_core.specs.Runs.{CoreRun, FileEvent, IsGivenRight}
use Rattle.store_core.specs.State.{CoreState, Event}
use Rattle.store_machine.specs.ByMap.{FileMachine}
use Rattle.store_machine.specs.Legal.{Answers}
use Rattle.store_machine.specs.Values.{of_files}
use Rattle.core_machine.specs.Files.{FilesRefine, IsOfFile}
use Rattle.core_machine.specs.Refines.{answered_by}
use Rattle.core_machine.proofs.FileKept.{answers_by}
use Rattle.ingest_workers.specs.declared.job.Job.{Job}
use Rattle.ingest_workers.specs.declared.job.JobEnd.{JobEnd}
use Rattle.ingest_workers.specs.declared.job.JobEnd.TheVariants as ends
use Rattle.ingest_workers.specs.Giving.{Untaken}
use Rattle.ingest_workers.specs.Ingesting.{ask_of, asks_of}
use Rattle.ingest_workers.specs.Jobs.{IsJob, NoTemp, OwnJobs}
use Rattle.ingest_workers.specs.Named.{own_by}
use Rattle.shared_store.specs.Events.{event_of}
use Rattle.shared_work.specs.Complete.{AreWorkersSteps, AskedBeside, IsEmptyAt, MayAsk, MayRefuse, WhatWorkersAskIsDone, runs_after}
use Rattle.shared_work.specs.declared.whole.Sum.{Sum}
use Rattle.shared_work.specs.Completing.{IsSmall}
use Rattle.shared_work.specs.Whole.{BeginsBy, Concluded, Concludes, CountsAll, EndsBy, IsOneAsk, Lists, Outcome, Plan, Uncollected, Uncounted, Unlisted, WorksOnEmpty, WorksThrough, first_refused, refused_in, refused_of, streams_of}
use Rattle.shared_work.specs.Working.{AskedByWorker, CollectsOnce}
use Rattle.shared_work.specs.Streams.{HasAllSegments}
use Rattle.shared_work.proofs.CompleteBeside.{collections_are_beside, next, once}
use Rattle.shared_work.proofs.CompleteLeaves.{ask}
use Rattle.shared_work.proofs.CompleteNames.{none_there}
use Rattle.shared_work.proofs.CompleteSteps.{first_asked, not_asked}
use Rattle.shared_work.proofs.ClashingRuns.{asks_append}
use Rattle.shared_work.proofs.Complete.{no_first}

-- ---- where nothing was asked for

abbrev none_of : List Job → List JobEnd
none_of [] = []
none_of (job ∷ jobs) = ends.Refused Memory ∷ none_of jobs

none_first : (mine : Bool) (count worker : ℕ) (job : Job) (jobs : List Job) → OwnJobs count worker jobs (none_of jobs) []
    → MatchBool mine ((own : List Ask) × (rest : List Ask) × ([] ≡ own ++ rest) × IsJob job (ends.Refused Memory) own × OwnJobs count worker jobs (none_of jobs) rest)
    (OwnJobs count worker jobs (none_of jobs) [])
none_first true count worker job jobs more = ([], [], refl, NoTemp [] (Untaken refl), more)
none_first false count worker job jobs more = more

nothing_did : (count worker : ℕ) (jobs : List Job) → OwnJobs count worker jobs (none_of jobs) []
nothing_did count worker [] = refl
nothing_did count worker (job ∷ jobs) = none_first (job.number % count == worker) count worker job jobs (nothing_did count worker jobs)

abbrev ended_of : List Job → Option (List JobEnd) → List JobEnd
ended_of jobs None = none_of jobs
ended_of jobs (Some ended) = ended

did_by : (count worker : ℕ) (jobs : List Job) (ended : Option (List JobEnd)) (all : List Ask) → AskedByWorker count worker jobs ended all
    → OwnJobs count worker jobs (ended_of jobs ended) all
did_by count worker jobs None all is = subst (OwnJobs count worker jobs (none_of jobs)) (sym is) (nothing_did count worker jobs)
did_by count worker jobs (Some ended) all is = is

-- ---- steps of the first actor

own_events : (last : List Ask) → asks_of 0 (map (event_of 0) last) ≡ last
own_events [] = refl
own_events (a ∷ last) = first_asked (event_of 0 a) (map (event_of 0) last) 0 refl ∙ ap (λ (l : List Ask). a ∷ l) (own_events last)

no_events : (actor : ℕ) → 0 ≢ actor → (last : List Ask) → asks_of actor (map (event_of 0) last) ≡ []
no_events actor other [] = refl
no_events actor other (a ∷ last) = not_asked (event_of 0 a) (map (event_of 0) last) actor other ∙ no_events actor other last

-- ---- what comes last

one_beside : (step : StepValue) (told : Result Answer Refusal) (list rest : List Ask) → IsOneAsk step told list → MayAsk false step → runs_after step told false ≡ false
    → AskedBeside false rest → AskedBeside false (list ++ rest)
one_beside step told list rest (a, (list_is, is, answer)) may runs more =
    subst (λ (l : List Ask). AskedBeside false (l ++ rest)) (sym list_is)
    (next false a rest step told is answer may (subst (λ (b : Bool). AskedBeside b rest) (sym runs) more))

lists_beside : (told : Result (List NamedRoot) Refusal) (list rest : List Ask) → Lists told list → AskedBeside false rest → AskedBeside false (list ++ rest)
lists_beside (Ok files) list rest is more = one_beside asked.ListNames (Ok (answers.Listed files)) list rest is tt refl more
lists_beside (Err refusal) list rest is more = one_beside asked.ListNames (Err refusal) list rest is tt refl more

counts_beside : (told : Result Sum Refusal) (count : List Ask) → CountsAll told count → AskedBeside false count
counts_beside (Ok sum) count is =
    subst (AskedBeside false) (append-nil count) (one_beside asked.Unique (Ok (answers.Unique sum.segments sum.bytes)) count [] is tt refl tt)
counts_beside (Err refusal) count is = subst (AskedBeside false) (append-nil count) (one_beside asked.Unique (Err refusal) count [] is tt refl tt)

ok_err : (refusal : Refusal) → ◌≡◌ {A = Result (Unit {0}) Refusal} (Ok tt) (Err refusal) → ⊥
ok_err refusal is = cc

after_once : (percent : ℕ) (all more : List Ask) → CollectsOnce percent (Ok tt) all → AskedBeside false more → AskedBeside false (all ++ more)
after_once percent all more collects beside = once more percent (Ok tt) all collects (λ ok. beside, λ refusal is. absurd (ok_err refusal is))

concludes_beside : (percent : ℕ) (came : Outcome) (last : List Ask) → Concludes percent came last → AskedBeside false last
concludes_beside percent came last (Uncollected refusal all is collects) =
    subst (AskedBeside false) (append-nil all) (once [] percent (Err refusal) all collects (λ ok. tt, λ r same. refl))
concludes_beside percent came last (Unlisted refusal all list is collects lists) =
    after_once percent all list collects (subst (AskedBeside false) (append-nil list) (lists_beside (Err refusal) list [] lists tt))
concludes_beside percent came last (Uncounted refusal all list count files is collects lists counts) =
    after_once percent all (list ++ count) collects (lists_beside (Ok files) list count lists (counts_beside (Err refusal) count counts))
concludes_beside percent came last (Concluded summary all list count is collects lists counts) =
    let sum : Sum = record { segments = summary.segments; bytes = summary.bytes } in
    after_once percent all (list ++ count) collects (lists_beside (Ok summary.files) list count lists (counts_beside (Ok sum) count counts))

last_beside : (percent : ℕ) (came : Outcome) (last : List Ask) (o : Option Refusal) → EndsBy percent o came last → AskedBeside false last
last_beside percent came last (Some refusal) (none, is) = subst (AskedBeside false) (sym none) tt
last_beside percent came last None concludes = concludes_beside percent came last concludes

-- where a collection was refused nothing comes after it
none_last : (percent : ℕ) (came : Outcome) (last : List Ask) (ended : Option (List JobEnd)) (refusal : Refusal)
    → EndsBy percent (refused_in ended (Err refusal)) came last → last ≡ []
none_last percent came last None refusal ends_it = ends_it.0
none_last percent came last (Some ended) refusal ends_it = by (first_refused ended) ends_it
  where
    by : (o : Option Refusal) → EndsBy percent (refused_of o (Err refusal)) came last → last ≡ []
    by None is = is.0
    by (Some r) is = is.0

-- ---- the law

no_entries : {X : Type 0} (xs : List X) → length xs ≡ 0 → xs ≡ []
no_entries [] is = refl
no_entries (x ∷ xs) is = absurd (omega (arith, is))

module _ {C : Type 0} (state : C → CoreState) (refine : FilesRefine C state) (done : WhatWorkersAskIsDone C state) where
  module _ (among : ByteSet) (distinct : HasNoCollisions (IsIn among)) (plan : Plan) (small : IsSmall plan) (m : FileMachine) (old new : C)
      (empty : IsEmptyAt (IsIn among) m (state old)) where
    -- the names that are listed first are none
    none_listed : (e : Event) (mid : C) (files : List NamedRoot) → CoreStep (state old) e (state mid) → e.step ≡ asked.ListNames → e.answer ≡ Ok (answers.Listed files) → files ≡ []
    none_listed e mid files made step answer =
        let f : FileEvent = record { event = e; bytes = [] } in
        let one = refine among f old mid m distinct empty.running empty.machine (subst (λ (s : StepValue). IsOfFile s []) (sym step) tt)
        (record {
          asked = subst IsStep (sym step) tt;
          given = subst (λ (s : StepValue). IsGivenRight (IsIn among) s e.answer [] (state old)) (sym step) tt;
          made = made;
        }) in
        let told = answers_by m one.0 e.actor [] e.buf m.store empty.runs e.step (answered_by e.answer e.buf) one.1.0 in
        let says : Says asked.ListNames (Ok (answers.Listed files)) one.0 = subst (λ (r : Result Answer Refusal). Says asked.ListNames r one.0) answer
        (subst (λ (s : StepValue). Says s e.answer one.0) step told) in
        says.0 ∙ ap (map (λ (x : List ℕ × List ℕ). let n : NamedRoot = record { name = x.0; root = of_files.root x.1 } in n))
        (no_entries (finite.entries m.now.names) (sym (finite.len-entries m.now.names) ∙ none_there m.now.names (λ name file got. absurd (no_name name file got))))
      where
        Says : StepValue → Result Answer Refusal → FileMachine → Type 0
        Says s r n = Answers of_files e.actor (ask [] s) (answered_by r e.buf) m n

        no_name : (name file : List ℕ) → finite.get m.now.names name ≡ Some file → ⊥
        no_name name file got = let wrong : ◌≡◌ {A = Option (List ℕ)} None (Some file) = sym (empty.no_names name) ∙ got in cc

    module _ (segments : HasAllSegments (own_by plan.workers plan.jobs) (IsIn among)) (came : Outcome) (steps : List Event) (run : CoreRun C state steps old new)
        (each : AllByRecursion (λ e. IsStep e.step × (e.actor < ACTORS)) steps) where
      abbrev AllMay : Type 0
      AllMay = AllByRecursion (λ e. IfErr e.answer MayRefuse) steps

      finish : (ended : List JobEnd) → AreWorkersSteps plan.workers plan.jobs ended steps → AllMay
      finish ended are = (done among plan.workers plan.jobs ended steps m old new distinct segments empty run are).0

      module _ (first : Event) (rest : List Event) (steps_is : steps ≡ first ∷ rest) (actor_is : first.actor ≡ 0) (step_is : first.step ≡ asked.ListNames) where
        own_asks : asks_of 0 steps ≡ ask_of first ∷ asks_of 0 rest
        own_asks = ap (asks_of 0) steps_is ∙ first_asked first rest 0 actor_is

        other_asks : (actor : ℕ) → 0 ≢ actor → asks_of actor steps ≡ asks_of actor rest
        other_asks actor other = ap (asks_of actor) steps_is ∙ not_asked first rest actor (λ same. other (sym actor_is ∙ same))

        are : (ended : List JobEnd) → ((worker : ℕ) → worker < plan.workers → OwnJobs plan.workers worker plan.jobs ended (asks_of (suc worker) rest))
            → AskedBeside false (asks_of 0 rest) → ((actor : ℕ) → plan.workers < actor → asks_of actor rest ≡ []) → AreWorkersSteps plan.workers plan.jobs ended steps
        are ended workers beside others = record {
          some = small.some;
          few = small.few;
          small = small.small;
          each = each;
          workers = λ worker below. subst (OwnJobs plan.workers worker plan.jobs ended) (sym (other_asks (suc worker) (λ is. omega (arith, is)))) (workers worker below);
          collector = subst (AskedBeside false) (sym own_asks) (next false (ask_of first) (asks_of 0 rest) asked.ListNames first.answer step_is refl tt beside);
          others = λ actor past. other_asks actor (λ is. omega (arith, is, past)) ∙ others actor past;
        }

        on_empty : WorksOnEmpty plan came rest → AllMay
        on_empty w =
            let before : List Ask = asks_of 0 w.beside in
            let own_rest : asks_of 0 rest ≡ before ++ w.last =
            ap (asks_of 0) w.steps_are ∙ asks_append 0 w.beside (map (event_of 0) w.last) ∙ ap (λ (l : List Ask). before ++ l) (own_events w.last) in
            let other_rest : (actor : ℕ) → 0 ≢ actor → asks_of actor rest ≡ asks_of actor w.beside =
            λ actor other. ap (asks_of actor) w.steps_are ∙ asks_append actor w.beside (map (event_of 0) w.last)
            ∙ ap (λ (l : List Ask). asks_of actor w.beside ++ l) (no_events actor other w.last) ∙ append-nil (asks_of actor w.beside) in
            let beside : AskedBeside false (before ++ w.last) = collections_are_beside plan.percent w.collected before w.last w.collector
            (λ ok. last_beside plan.percent came w.last (refused_in w.ended w.collected) w.ends)
            (λ refusal is. none_last plan.percent came w.last w.ended refusal
            (subst (λ (r : Result (Unit {0}) Refusal). EndsBy plan.percent (refused_in w.ended r) came w.last) is w.ends)) in
            finish (ended_of plan.jobs w.ended)
            (are (ended_of plan.jobs w.ended)
            (λ worker below. subst (OwnJobs plan.workers worker plan.jobs (ended_of plan.jobs w.ended)) (sym (other_rest (suc worker) (λ is. omega (arith, is))))
            (did_by plan.workers worker plan.jobs w.ended (asks_of (suc worker) w.beside) (w.workers worker below)))
            (subst (AskedBeside false) (sym own_rest) beside) (λ actor past. other_rest actor (λ is. omega (arith, is, past)) ∙ w.others actor past))

        no_names : (file : NamedRoot) (more : List NamedRoot) → first.answer ≡ Ok (answers.Listed (file ∷ more)) → ⊥
        no_names file more told =
            let ran : CoreRun C state (first ∷ rest) old new = subst (λ (l : List Event). CoreRun C state l old new) steps_is run in
            no_first file more (none_listed first ran.0 (file ∷ more) ran.1.0 step_is told)

        by_files : (files : List NamedRoot) → first.answer ≡ Ok (answers.Listed files) → BeginsBy plan (Ok (answers.Listed files)) came rest → AllMay
        by_files [] told goes = on_empty goes
        by_files (file ∷ more) told goes = absurd (no_names file more told)

        by_answer : (answer : Result Answer Refusal) → first.answer ≡ answer → BeginsBy plan answer came rest → AllMay
        by_answer (Err refusal) told (none, came_is) =
            finish (none_of plan.jobs)
            (are (none_of plan.jobs)
            (λ worker below. subst (OwnJobs plan.workers worker plan.jobs (none_of plan.jobs)) (sym (ap (asks_of (suc worker)) none)) (nothing_did plan.workers worker plan.jobs))
            (subst (AskedBeside false) (sym (ap (asks_of 0) none)) tt) (λ actor past. ap (asks_of actor) none))
        by_answer (Ok (answers.Listed files)) told goes = by_files files told goes
        by_answer (Ok answer) told goes = absurd goes

  module _ (among : ByteSet) (plan : Plan) (came : Outcome) (m : FileMachine) (old new : C) (distinct : HasNoCollisions (IsIn among))
      (segments : HasAllSegments (streams_of plan) (IsIn among)) (small : IsSmall plan) (empty : IsEmptyAt (IsIn among) m (state old))
      (works : WorksThrough state plan came old new) where
    pub each_may : AllByRecursion (λ e. IfErr e.answer MayRefuse) works.steps
    each_may =
        let s = works.steps_are in
        by_answer among distinct plan small m old new empty segments came works.steps works.run works.each s.first s.rest s.steps_are s.actor_is s.step_is
        s.first.answer refl s.goes

    pub none_named : (file : NamedRoot) (more : List NamedRoot) → works.steps_are.first.answer ≡ Ok (answers.Listed (file ∷ more)) → ⊥
    none_named =
        let s = works.steps_are in
        no_names among distinct plan small m old new empty segments came works.steps works.run works.each s.first s.rest s.steps_are s.actor_is s.step_is
