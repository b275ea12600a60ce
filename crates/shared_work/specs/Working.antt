-- Workers that do jobs by one store, as another collects what is needed no more (docs/MODEL.md, 'Workers').
use Rattle.std.specs.Prelude.{◌≡◌, ◌<◌, ◌≤◌, ℕ, zero, suc, List, [], ◌∷◌, ◌++◌, map, Option, Some, None, Result, Ok, Err}
use Rattle.std.specs.List.{AllByRecursion}
use Rattle.atomic_table.specs.Seated.{TableId}
use Rattle.actor_parts.specs.declared.actor.TheConstants.{ACTORS}
use Rattle.actor_parts.specs.declared.step.Answer.TheVariants as answers
use Rattle.actor_parts.specs.Asking.{Ask, Asks}
use Rattle.actor_parts.specs.StepValue as asked
use Rattle.actor_parts.specs.StepValue.{IsStep}
use Rattle.refusals.specs.declared.refusal.Phase.{Phase}
use Rattle.refusals.specs.declared.refusal.Refusal.{Refusal}
use Rattle.store_core.specs.Runs.{CoreRun}
use Rattle.store_core.specs.State.{CoreState, Event}
use Rattle.shared_store.specs.Calls.{JoinsPass}
use Rattle.shared_store.specs.Made.{MakesStep, actor_in}
use Rattle.shared_store.specs.Passes.{PassValue}
use Rattle.shared_store.specs.Events.{event_of}
use Rattle.shared_store.specs.Telling.{Tells}
use Rattle.ingest_workers.specs.declared.job.Job.{Job}
use Rattle.ingest_workers.specs.declared.job.JobEnd.{JobEnd}
use Rattle.ingest_workers.specs.Giving.{IsDone, IsRefused}
use Rattle.ingest_workers.specs.Ingesting.{asks_of}
use Rattle.ingest_workers.specs.Jobs.{AllEnded, OwnJobs}
use Rattle.shared_work.specs.Freed.{IsFresh}

-- ---- what a caller asks for to collect

-- the collection has ended, or this was refused
abbrev pub EndsCollection : Result (Unit {0}) Refusal → Ask → Type 0
EndsCollection (Ok u) a = (freed copied : ℕ) × (a.answer ≡ Ok (answers.Done freed copied))
EndsCollection (Err refusal) a = IsRefused refusal a

-- a step that did not end it
abbrev pub GoesOn : Ask → Type 0
GoesOn a = (a.step ≡ asked.GcStep) × ((phase : Phase) × (a.answer ≡ Ok (answers.Did phase)))

-- A collection that runs was made on, up to its end or a refusal.
pub record Sweeps (result : Result (Unit {0}) Refusal) (all : List Ask) : Type 0 where
  pub steps : List Ask
  pub last : Ask
  pub each : AllByRecursion GoesOn steps
  pub last_is : last.step ≡ asked.GcStep
  pub ends : EndsCollection result last
  pub all_is : all ≡ steps ++ last ∷ []

-- One began, and was made on; or it was refused to begin.
pub data CollectsOnce (percent : ℕ) (result : Result (Unit {0}) Refusal) : List Ask → Type 0 where
  Swept : (a : Ask) (steps : List Ask) → a.step ≡ asked.GcStart percent → IsDone a → Sweeps result steps
      → CollectsOnce percent result (a ∷ steps)
  Unbegun : (a : Ask) (refusal : Refusal) → result ≡ Err refusal → a.step ≡ asked.GcStart percent → IsRefused refusal a
      → CollectsOnce percent result (a ∷ [])

-- So it was at most so many times, one after the other, up to the first refusal.
pub data CollectsOften (percent : ℕ) (result : Result (Unit {0}) Refusal) : (most : ℕ) → List Ask → Type 0 where
  Ended : (most : ℕ) → result ≡ Ok tt → CollectsOften percent result most []
  Broke : (most : ℕ) (refusal : Refusal) (all : List Ask) → result ≡ Err refusal → CollectsOnce percent (Err refusal) all
      → CollectsOften percent result (suc most) all
  Again : (most : ℕ) (all more : List Ask) → CollectsOnce percent (Ok tt) all → CollectsOften percent result most more
      → CollectsOften percent result (suc most) (all ++ more)

-- beside workers
abbrev pub CollectsBeside : ℕ → Result (Unit {0}) Refusal → List Ask → Type 0
CollectsBeside percent result all = CollectsOften percent result 1024 all

-- ---- workers beside it

-- what the one of this number asked for, of so many: the steps of its own jobs; or nothing, where there was no memory to begin
abbrev pub AskedByWorker : (count worker : ℕ) → List Job → Option (List JobEnd) → List Ask → Type 0
AskedByWorker count worker jobs None all = all ≡ []
AskedByWorker count worker jobs (Some ended) all = OwnJobs count worker jobs ended all

-- Of so many workers the first made its steps as the actor 1, and so on, each those of its own jobs; as the actor 0 some collections were
-- made meanwhile; and nobody made any other step.
pub record WorksBeside {C : Type 0} (state : C → CoreState) (count percent : ℕ) (jobs : List Job) (ended : Option (List JobEnd))
    (collected : Result (Unit {0}) Refusal) (old new : C) : Type 0 where
  pub steps : List Event
  pub run : CoreRun C state steps old new
  pub each : AllByRecursion (λ e. IsStep e.step × (e.actor < ACTORS)) steps
  pub workers : (worker : ℕ) → worker < count → AskedByWorker count worker jobs ended (asks_of (suc worker) steps)
  pub collector : CollectsBeside percent collected (asks_of 0 steps)
  pub others : (actor : ℕ) → count < actor → asks_of actor steps ≡ []

-- ---- what callers leave behind, and their passes

-- The jobs were done, each by the caller that they were shared out to; or nobody did anything, as there was no memory to begin.
abbrev pub AreWorked : {S : Type 0} → Asks S → List Job → Option (List JobEnd) → List S → List S → Type 0
AreWorked asks jobs None old new = new ≡ old
AreWorked asks jobs (Some ended) old new = AllEnded asks jobs ended old new

-- these numbers: 0, and so on up to n
abbrev pub up_to : ℕ → List ℕ
up_to zero = 0 ∷ []
up_to (suc n) = up_to n ++ suc n ∷ []

-- what is asked for as each actor: the collections as the first, and the jobs as the others
abbrev pub AskedAs : (count percent : ℕ) → List Job → Option (List JobEnd) → Result (Unit {0}) Refusal → ℕ → List Ask → Type 0
AskedAs count percent jobs ended collected zero all = CollectsBeside percent collected all
AskedAs count percent jobs ended collected (suc worker) all = AskedByWorker count worker jobs ended all

module _ {C : Type 0} (state : C → CoreState) where
  -- The passes were taken in, the first of them first.
  abbrev pub JoinsAll : PassValue C → List (PassValue C) → PassValue C → Type 0
  JoinsAll old [] new = new ≡ old
  JoinsAll old (pass ∷ passes) new = (mid : PassValue C) × JoinsPass state old pass mid × JoinsAll mid passes new

  -- Of a store over the core o, which one it is, what a pass knows.
  module _ (o : C) where
    -- It has made no step, and has this number alone.
    pub record IsNew (store : TableId) (number : ℕ) (pass : PassValue C) : Type 0 where
      pub fresh : IsFresh state o pass
      pub numbers_are : pass.view.numbers ≡ number ∷ []
      pub store_is : pass.store ≡ store

    -- It has taken in those of so many workers, and of its own number and theirs it has seen just these steps.
    pub record HasTaken (asks : ℕ → List Ask) (n : ℕ) (pass : PassValue C) : Type 0 where
      pub opened : pass.view.opening ≡ Some o
      pub numbers_are : pass.view.numbers ≡ up_to n
      pub told : (x : ℕ) → x ≤ n → Tells actor_in (MakesStep state) x o pass.view.seen (map (event_of x) (asks x))

    -- The steps are collections, and workers' jobs.
    pub record HasWorked (count percent : ℕ) (jobs : List Job) (ended : Option (List JobEnd)) (collected : Result (Unit {0}) Refusal)
        (pass : PassValue C) : Type 0 where
      pub asks : ℕ → List Ask
      pub taken : HasTaken asks count pass
      pub each : (x : ℕ) → x ≤ count → AskedAs count percent jobs ended collected x (asks x)
