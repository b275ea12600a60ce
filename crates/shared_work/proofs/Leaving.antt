-- What a whole load leaves of files: none of its own, where the store had names or could not tell them; else those of its jobs.
use Rattle.std.proofs.Common.{◌≡◌, ◌⊎◌, inl, inr, ◌<◌, ◌≤◌, ◌%◌, ◌==◌, if◌then◌else◌, ℕ, zero, suc, Bool, true, false, List, [], ◌∷◌, length, map, Option, Some, None, Result, Ok, Err, refl, sym, ap, ◌∙◌, subst, arith}
use Rattle.std.specs.FinMap as finite
use Rattle.std.specs.List.{AllByRecursion, Contains}
use Rattle.std.specs.Ordering.{nat_cmp}
use Rattle.std.specs.Cmp.Lexicographic.{slice_cmp}
use Rattle.dd_disk.specs.View.{CrashLeaves}
use Rattle.dd_disk.proofs.Later.{leaves_weaker}
use Rattle.actor_parts.specs.declared.actor.TheConstants.{ACTORS}
use Rattle.actor_parts.specs.declared.step.Answer.{Answer}
use Rattle.actor_parts.specs.declared.step.Answer.TheVariants as answers
use Rattle.actor_parts.specs.Asking.{Ask}
use Rattle.actor_parts.specs.StepValue as steps
use Rattle.actor_parts.specs.StepValue.{IsStep}
use Rattle.load_stream.specs.Load.{LoadState}
use Rattle.refusals.specs.declared.refusal.Refusal.{Refusal}
use Rattle.refusals.specs.declared.refusal.Refusal.TheVariants as refusals
use Rattle.store_model.specs.Collisions.{ByteSet, HasNoCollisions, IsIn}
use Rattle.store_model.specs.Files.{Files}
use Rattle.store_core.specs.Runs.{CoreRun, FileEvent, events_of}
use Rattle.store_core.specs.State.{CoreState, Event, IsRunning}
use Rattle.store_machine.specs.Asked as asked
use Rattle.store_machine.specs.ByMap.{FileMachine}
use Rattle.store_machine.specs.Legal.{ByState, Refuses}
use Rattle.store_machine.specs.Machine.{Found, RunState, Running, Stopped}
use Rattle.store_machine.specs.Opening.{MayBeFound}
use Rattle.store_machine.specs.Runs.{IsPassedFrom, Run}
use Rattle.store_machine.specs.Values.{of_files}
use Rattle.core_machine.specs.Files.{FileRunsRefine, IsFileMachine, IsOfFound, IsOfPassed, file_step, stored_in}
use Rattle.core_machine.specs.Refines.{answered_by}
use Rattle.shared_store.specs.Events.{event_of}
use Rattle.ingest_workers.specs.declared.job.Job.{Job}
use Rattle.ingest_workers.specs.declared.job.JobEnd.{JobEnd}
use Rattle.ingest_workers.specs.Ingesting.{asks_of}
use Rattle.ingest_workers.specs.Jobs.{OwnJobs, file_of, temp_name, work_name}
use Rattle.ingest_workers.specs.Named.{AreDoneBy, HasName, HasStreams, HaveNumbers, JobsHaveNames, own_by}
use Rattle.ingest_workers.specs.Owing.{JobsAreOwed, own_files, stream_of}
use Rattle.shared_work.specs.declared.whole.Summary.{Summary}
use Rattle.shared_work.specs.Left.{IsFileWork, IsOfWork, WorksLeaveFiles}
use Rattle.shared_work.specs.Streams.{HasAllSegments, IsOfStreams, LeavesStreams, WorkLeavesStreams}
use Rattle.shared_work.specs.Whole.{BeginsBy, IsWorkDone, Outcome, Plan, WorksOnEmpty, streams_of}
use Rattle.shared_work.specs.Working.{AskedByWorker}
use Rattle.shared_work.proofs.Concluding.{finishes, is_told}
use Rattle.shared_work.proofs.Due.{all_owed, all_steps, by_worker}
use Rattle.shared_work.proofs.Streaming.{itself}

-- ---- names are listed

listed_stays : (refusal : Refusal) (a : ℕ) (m n : FileMachine) → Refuses of_files a asked.ListNames refusal m n → n ≡ m
listed_stays (refusals.WrongPart kind) a m n is = is.1
listed_stays refusals.Memory a m n is = is
listed_stays refusal a m n is = absurd is.1

-- it changes nothing, whatever was answered
names_stay : (state : RunState (List ℕ)) (answer : Result Answer Refusal) (buf : List ℕ) (a : ℕ) (m n : FileMachine)
    → ByState of_files state a asked.ListNames (answered_by answer buf) m n → n ≡ m
names_stay (Stopped other stores) answer buf a m n is = is.1
names_stay Running (Ok (answers.Listed files)) buf a m n is = is.1
names_stay Running (Ok answer) buf a m n is = absurd is
names_stay Running (Err refusal) buf a m n is = listed_stays refusal a m n is

nothing_of : {X Y : Type 0} (f : X → Y) (xs : List X) → [] ≡ map f xs → length xs ≡ 0
nothing_of f [] is = refl
nothing_of {Y = Y} f (x ∷ xs) is = absurd (let wrong : ◌≡◌ {A = List Y} [] (f x ∷ map f xs) = is in cc)

-- where none was listed there is none
none_listed : (m n : FileMachine) (buf : List ℕ) → m.state ≡ Running → ByState of_files m.state 0 asked.ListNames (answered_by (Ok (answers.Listed [])) buf) m n
    → m.now.names ≡ finite.empty
none_listed m n buf runs is =
    let lists = subst (λ (s : RunState (List ℕ)). ByState of_files s 0 asked.ListNames (answered_by (Ok (answers.Listed [])) buf) m n) runs is in
    finite.empty_of_len m.now.names (finite.len-entries m.now.names ∙ nothing_of _ (finite.entries m.now.names) lists.0)

no_streams : (own : ℕ → List LoadState) (names : Files) → names ≡ finite.empty → HasStreams own names
no_streams own names none name bytes there = absurd (
    let wrong : ◌≡◌ {A = Option (List ℕ)} None (Some bytes) =
    sym (finite.get-empty (slice_cmp nat_cmp) name) ∙ ap (λ (x : Files). finite.get x name) (sym none) ∙ there in cc
    )

-- ---- how it began

-- nothing more was done; or no names were listed, and then all of it
abbrev pub Beginning : Plan → Result Answer Refusal → Outcome → List Event → Type 0
Beginning plan answer came rest = ((rest ≡ []) × ((refusal : Refusal) × (came ≡ Err refusal)))
    ⊎ ((answer ≡ Ok (answers.Listed [])) × WorksOnEmpty plan came rest)

pub beginning : (plan : Plan) (answer : Result Answer Refusal) (came : Outcome) (rest : List Event) → BeginsBy plan answer came rest → Beginning plan answer came rest
beginning plan (Ok (answers.Listed [])) came rest is = inr (refl, is)
beginning plan (Ok (answers.Listed (file ∷ more))) came rest is = inl (is.0, (_, is.1))
beginning plan (Err refusal) came rest is = inl (is.0, (refusal, is.1))
beginning plan (Ok answer) came rest is = absurd is

-- ---- what was found to be done

own_of : (mine : Bool) (job : Job) (rest : List LoadState) (file : LoadState) → Contains (if mine then file_of job ∷ rest else rest) file
    → (file ≡ file_of job) ⊎ Contains rest file
own_of true job rest file (zero, within, is) = inl (sym is)
own_of true job rest file (suc i, within, is) = inr (i, omega (arith, within), is)
own_of false job rest file there = inr there

-- it is of one of these
abbrev IsFileOf : List Job → LoadState → Type 0
IsFileOf jobs file = (job : Job) × (Contains jobs job × (file ≡ file_of job))

later_job : (j : Job) (jobs : List Job) (file : LoadState) → IsFileOf jobs file → IsFileOf (j ∷ jobs) file
later_job j jobs file (job, ((i, within, is), same)) = (job, ((suc i, omega (arith, within), is), same))

job_of : (count worker : ℕ) (jobs : List Job) (file : LoadState) → Contains (own_files count worker jobs) file → IsFileOf jobs file
job_of count worker [] file (i, within, is) = absurd (omega (arith, within))
job_of count worker (j ∷ jobs) file there = elim (own_of (j.number % count == worker) j (own_files count worker jobs) file there) [
  | inl here ↦ (j, ((0, omega arith, refl), here))
  | inr later ↦ later_job j jobs file (job_of count worker jobs file later)
]

job_by : (count : ℕ) (jobs : List Job) (actor : ℕ) (file : LoadState) → Contains (own_by count jobs actor) file → IsFileOf jobs file
job_by count jobs zero file (i, within, is) = absurd (omega (arith, within))
job_by count jobs (suc worker) file there = job_of count worker jobs file there

-- a name that has a file is the second of a job, if none is the first of one
module _ (plan : Plan) (files : Files) (each : (job : Job) → Contains plan.jobs job → HasName files job) (has : HasStreams (streams_of plan) files) where
  only_these : (name bytes : List ℕ) → finite.get files name ≡ Some bytes
      → (job : Job) × (Contains plan.jobs job × (name ≡ work_name job.number) × (bytes ≡ stream_of (file_of job)))
  only_these name bytes there =
      let stream = has name bytes there in
      let by = job_by plan.workers plan.jobs stream.0 stream.1 stream.2 in
      let number : stream.1.file ≡ by.0.number = ap (λ (x : LoadState). x.file) by.1.1 in (
        by.0,
        (
          by.1.0,
          elim stream.4 [
            | inl first ↦
                let wrong : ◌≡◌ {A = Option (List ℕ)} (Some bytes) None =
                sym there ∙ ap (finite.get files) (first ∙ ap temp_name number) ∙ (each by.0 by.1.0).1 in absurd (cc)
            | inr second ↦ second ∙ ap work_name number
          ],
          stream.3 ∙ ap stream_of by.1.1,
        ),
      )

-- ---- by the laws

module _ {C : Type 0} (state : C → CoreState) (refine : FileRunsRefine C state) (leave : WorkLeavesStreams C state) (owed : JobsAreOwed) (named : JobsHaveNames)
    (among : ByteSet) (plan : Plan) (m : FileMachine) (old new : C) (apart : HasNoCollisions (IsIn among)) (up : IsRunning (state old))
    (is : IsFileMachine (IsIn among) m (state old)) (runs : m.state ≡ Running) where
  abbrev listing_by : Result Answer Refusal → List ℕ → Ask
  listing_by answer buf = record { step = steps.ListNames; answer = answer; buf = buf }

  -- ---- nothing but a listing

  module _ (answer : Result Answer Refusal) (buf : List ℕ) (made : C)
      (step : CoreRun C state (event_of 0 (listing_by answer buf) ∷ []) old made) where
    abbrev files : List FileEvent
    files = record { event = event_of 0 (listing_by answer buf); bytes = [] } ∷ []

    went : (n : FileMachine) × (run : Run of_files (map file_step files) m n) × IsFileMachine (IsIn among) n (state made)
        × CrashLeaves (IsOfPassed (IsIn among) (map file_step files) m n run) (state old).disk (state made).disk
    went = refine among files old made m apart up is (tt, tt) (step.0, (record { asked = tt; given = tt; made = step.1.0 }, step.1.1))

    stays : went.1.0 ≡ m
    stays = names_stay m.state answer buf 0 m went.1.0 went.1.1.0

    left_is : went.0 ≡ m
    left_is = went.1.1.1 ∙ stays

    may_still : (n : FileMachine) → n ≡ m → (found : Found (List ℕ)) → MayBeFound of_files n.state n.now found → MayBeFound of_files m.state m.now found
    may_still n same found may = subst (λ (x : FileMachine). MayBeFound of_files x.state x.now found) same may

    passed_still : (found : Found (List ℕ)) → IsPassedFrom of_files m.now.last (map file_step files) m went.0 went.1 found → MayBeFound of_files m.state m.now found
    passed_still found passed = elim passed [ inl here ↦ here.1 | inr later ↦ may_still went.1.0 stays found later.1 ]

    only_listed : (came : Outcome) (refusal : Refusal) → came ≡ Err refusal
        → IsFileWork state (IsIn among) plan m came (event_of 0 (listing_by answer buf) ∷ []) old made
    only_listed came refusal refused = record {
      events = files;
      events_are = refl;
      left = went.0;
      run = went.1;
      is_left = went.2;
      streams = λ none found may. no_streams (streams_of plan) found.names
          (ap (λ (x : Found (List ℕ)). x.names)
          (subst (λ (s : RunState (List ℕ)). MayBeFound of_files s m.now found) runs (may_still went.0 left_is found may)) ∙ none);
      crash =
          leaves_weaker (IsOfPassed (IsIn among) (map file_step files) m went.0 went.1)
          (λ image. IsOfFound (IsIn among) m image ⊎ IsOfWork state (IsIn among) plan m image) (state old).disk (state made).disk
          (λ image passed. inl (passed.0, passed_still passed.0 passed.1, passed.2)) went.3;
      done = λ summary told. absurd (let wrong : ◌≡◌ {A = Outcome} (Ok summary) (Err refusal) = sym told ∙ refused in cc);
    }

    pub none_there : answer ≡ Ok (answers.Listed []) → m.now.names ≡ finite.empty
    none_there none = none_listed m went.1.0 buf runs
        (subst (λ (r : Result Answer Refusal). ByState of_files m.state 0 asked.ListNames (answered_by r buf) m went.1.0) none went.1.1.0)

  -- ---- all of it

  module _ (segments : HasAllSegments (streams_of plan) (IsIn among)) (numbers : HaveNumbers plan.jobs) (some : 1 ≤ plan.workers) (came : Outcome) (first : Ask)
      (on_steps : List Event) (on : WorksOnEmpty plan came on_steps) where
    abbrev all : List Event
    all = all_steps first on.beside on.last

    own_jobs : (ended : List JobEnd) → on.ended ≡ Some ended → (es : List Event) → es ≡ all → AreDoneBy plan.workers plan.jobs ended es
    own_jobs ended ended_is es same worker below =
        subst (OwnJobs plan.workers worker plan.jobs ended) (sym (by_worker first on.beside on.last worker) ∙ ap (asks_of (suc worker)) (sym same))
        (subst (λ (x : Option (List JobEnd)). AskedByWorker plan.workers worker plan.jobs x (asks_of (suc worker) on.beside)) ended_is (on.workers worker below))

    module _ (none : m.now.names ≡ finite.empty) (left : LeavesStreams state (IsIn among) (streams_of plan) all m old new) where
      done_by : (summary : Summary) → came ≡ Ok summary → IsWorkDone plan summary left.left
      done_by summary told =
          let by = finishes summary came told plan.percent on.ended on.collected on.last on.ends in
          let end = is_told summary (event_of 0 first ∷ on.beside) (map (event_of 0) on.last) left.files m left.left by.told left.events_are left.run in
          let each : (job : Job) → Contains plan.jobs job → HasName left.left.now.names job = λ job there.
          subst (λ (x : Files). HasName x job) (sym left.names_are)
          (named plan.workers plan.jobs by.all.all left.files (stored_in m.now) some left.of_streams
          (own_jobs by.all.all by.all.ended_is (events_of left.files) left.events_are) numbers by.all.stored job there) in
          record {
            runs = end.runs;
            each = λ job there. (each job there).0;
            no_other = only_these plan left.left.now.names each (left.streams left.left.now (itself left.left.state left.left.now));
            listed = end.listed;
            counted = end.counted;
          }

      file_work : IsFileWork state (IsIn among) plan m came all old new
      file_work = record {
        events = left.files;
        events_are = left.events_are;
        left = left.left;
        run = left.run;
        is_left = left.is_left;
        streams = λ empty found may. left.streams found may;
        crash =
            leaves_weaker (IsOfStreams (IsIn among) (streams_of plan)) (λ image. IsOfFound (IsIn among) m image ⊎ IsOfWork state (IsIn among) plan m image)
            (state old).disk (state new).disk (λ image of. inr (none, of)) left.crash;
        done = done_by;
      }

    all_done : first.step ≡ steps.ListNames → m.now.names ≡ finite.empty → AllByRecursion (λ e. IsStep e.step × (e.actor < ACTORS)) all → CoreRun C state all old new
        → IsFileWork state (IsIn among) plan m came all old new
    all_done step_is none each ran =
        file_work none
        (leave among (streams_of plan) all m old new apart segments up is runs (no_streams (streams_of plan) m.now.names none) each ran
        (all_owed owed plan came first on_steps step_is on))

module _ {C : Type 0} (state : C → CoreState) (refine : FileRunsRefine C state) (leave : WorkLeavesStreams C state) (owed : JobsAreOwed) (named : JobsHaveNames) where
  pub works_leave_files : WorksLeaveFiles state
  works_leave_files among plan came m old new apart segments numbers some up is runs works =
      let w = works.steps_are in
      let ask : Ask = record { step = steps.ListNames; answer = w.first.answer; buf = w.first.buf } in
      let first_is : w.first ≡ event_of 0 ask = λ i. record { actor = w.actor_is i; step = w.step_is i; answer = w.first.answer; buf = w.first.buf } in
      let steps_are : works.steps ≡ event_of 0 ask ∷ w.rest = w.steps_are ∙ ap (λ (e : Event). e ∷ w.rest) first_is in
      let ran : CoreRun C state (event_of 0 ask ∷ w.rest) old new = subst (λ (es : List Event). CoreRun C state es old new) steps_are works.run in
      subst (λ (es : List Event). IsFileWork state (IsIn among) plan m came es old new) (sym steps_are)
      (elim (beginning plan w.first.answer came w.rest w.goes) [
        | inl ended ↦
            let rest_is : event_of 0 ask ∷ w.rest ≡ event_of 0 ask ∷ [] = ap (λ (es : List Event). event_of 0 ask ∷ es) ended.0 in
            subst (λ (es : List Event). IsFileWork state (IsIn among) plan m came es old new) (sym rest_is)
            (only_listed state refine leave owed named among plan m old new apart up is runs w.first.answer w.first.buf new
            (subst (λ (es : List Event). CoreRun C state es old new) rest_is ran) came ended.1.0 ended.1.1)
        | inr empty ↦
            let on = empty.1 in
            let all_is : event_of 0 ask ∷ w.rest ≡ all_steps ask on.beside on.last = ap (λ (es : List Event). event_of 0 ask ∷ es) on.steps_are in
            subst (λ (es : List Event). IsFileWork state (IsIn among) plan m came es old new) (sym all_is)
            (all_done state refine leave owed named among plan m old new apart up is runs segments numbers some came ask w.rest on refl
            (none_there state refine leave owed named among plan m old new apart up is runs w.first.answer w.first.buf ran.0 (ran.0, (ran.1.0, refl)) empty.0)
            (subst (λ (es : List Event). AllByRecursion (λ e. IsStep e.step × (e.actor < ACTORS)) es) (steps_are ∙ all_is) works.each)
            (subst (λ (es : List Event). CoreRun C state es old new) all_is ran))
      ])
