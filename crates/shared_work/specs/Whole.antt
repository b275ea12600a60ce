-- A whole generated load: workers in a store without names, and then what it has (docs/MODEL.md, 'Workers').
use Rattle.std.specs.Prelude.{◌≡◌, ◌<◌, ℕ, suc, Bool, true, false, List, [], ◌∷◌, ◌++◌, length, map, Option, Some, None, Result, Ok, Err}
use Rattle.std.specs.FinMap as finite
use Rattle.std.specs.List.{AllByRecursion, Contains}
use Rattle.actor_parts.specs.declared.actor.TheConstants.{ACTORS}
use Rattle.actor_parts.specs.declared.step.Answer.{Answer}
use Rattle.actor_parts.specs.declared.step.Answer.TheVariants as answers
use Rattle.actor_parts.specs.Asking.{Ask}
use Rattle.actor_parts.specs.Counts.{Counts}
use Rattle.actor_parts.specs.StepValue as asked
use Rattle.actor_parts.specs.StepValue.{IsStep, StepValue}
use Rattle.namespace.specs.Listing.{NamedRoot}
use Rattle.refusals.specs.declared.refusal.Refusal.{Refusal}
use Rattle.refusals.specs.declared.refusal.Refusal.TheVariants.{Memory, DiskRead, DiskWrite, Stopped, Damaged, NotEmpty}
use Rattle.load_stream.specs.Load.{LoadState}
use Rattle.store_model.specs.Unique.{AreUnique}
use Rattle.store_core.specs.Runs.{CoreRun}
use Rattle.store_core.specs.State.{CoreState, Event}
use Rattle.store_machine.specs.ByMap.{FileMachine}
use Rattle.store_machine.specs.Legal.{listing}
use Rattle.store_machine.specs.Machine.{Running}
use Rattle.store_machine.specs.Values.{of_files}
use Rattle.ingest_workers.specs.declared.job.Job.{Job}
use Rattle.ingest_workers.specs.declared.job.JobEnd.{JobEnd}
use Rattle.ingest_workers.specs.declared.job.JobEnd.TheVariants as ends
use Rattle.ingest_workers.specs.Ingesting.{asks_of}
use Rattle.ingest_workers.specs.Jobs.{file_of, work_name}
use Rattle.ingest_workers.specs.Named.{own_by}
use Rattle.ingest_workers.specs.Owing.{stream_of}
use Rattle.shared_store.specs.Events.{event_of}
use Rattle.shared_work.specs.declared.whole.Sum.{Sum}
use Rattle.shared_work.specs.declared.whole.Summary.{Summary}
use Rattle.shared_work.specs.Working.{AskedByWorker, CollectsBeside, CollectsOnce}

-- what is to be done: these jobs, by so many workers, and collections with this percentage
pub record Plan : Type 0 where
  pub workers : ℕ
  pub percent : ℕ
  pub jobs : List Job

-- the files of each actor: of the workers, by their jobs
abbrev pub streams_of : Plan → ℕ → List LoadState
streams_of plan = own_by plan.workers plan.jobs

-- ---- how it ends

-- the first job that was refused
abbrev pub first_refused : List JobEnd → Option Refusal
first_refused [] = None
first_refused (ends.Stored root ∷ ended) = first_refused ended
first_refused (ends.Refused refusal ∷ ended) = Some refusal

-- else the collections beside them; and where there was no memory to begin any job, that
abbrev pub refused_of : Option Refusal → Result (Unit {0}) Refusal → Option Refusal
refused_of (Some refusal) collected = Some refusal
refused_of None (Ok u) = None
refused_of None (Err refusal) = Some refusal

abbrev pub refused_in : Option (List JobEnd) → Result (Unit {0}) Refusal → Option Refusal
refused_in None collected = Some Memory
refused_in (Some ended) collected = refused_of (first_refused ended) collected

-- what stops a store: a write that failed, or damage that a seal met
abbrev pub IsStop : StepValue → Refusal → Type 0
IsStop step DiskWrite = Unit {0}
IsStop (asked.Seal offered) (Damaged at why) = Unit {0}
IsStop step refusal = ⊥

-- What is told of a refusal: it; but of one by a store that is stopped the refusal that stopped it, which a step was answered.
abbrev pub IsToldOf : List Event → Refusal → Refusal → Type 0
IsToldOf steps (Stopped at) told = (e : Event) × (Contains steps e × (e.answer ≡ Err told) × IsStop e.step told)
IsToldOf steps refusal told = told ≡ refusal

-- what came of it: a summary, or why there is none
abbrev pub Outcome : Type 0
Outcome = Result Summary Refusal

-- what is told of what came of it
abbrev pub ToldAs : List Event → Outcome → Outcome → Type 0
ToldAs steps (Ok summary) told = told ≡ Ok summary
ToldAs steps (Err refusal) told = (r : Refusal) × (IsToldOf steps refusal r × (told ≡ Err r))

-- ---- the steps

-- one step was asked for, and was answered so
abbrev pub IsOneAsk : StepValue → Result Answer Refusal → List Ask → Type 0
IsOneAsk step answer all = (a : Ask) × ((all ≡ a ∷ []) × (a.step ≡ step) × (a.answer ≡ answer))

-- which names there are
abbrev pub Lists : Result (List NamedRoot) Refusal → List Ask → Type 0
Lists (Ok files) all = IsOneAsk asked.ListNames (Ok (answers.Listed files)) all
Lists (Err refusal) all = IsOneAsk asked.ListNames (Err refusal) all

-- what their trees have
abbrev pub CountsAll : Result Sum Refusal → List Ask → Type 0
CountsAll (Ok sum) all = IsOneAsk asked.Unique (Ok (answers.Unique sum.segments sum.bytes)) all
CountsAll (Err refusal) all = IsOneAsk asked.Unique (Err refusal) all

-- The last steps of the first actor: one more collection, and then the summary.
pub data Concludes (percent : ℕ) (came : Outcome) : List Ask → Type 0 where
  Uncollected : (refusal : Refusal) (all : List Ask) → came ≡ Err refusal → CollectsOnce percent (Err refusal) all
      → Concludes percent came all
  Unlisted : (refusal : Refusal) (all list : List Ask) → came ≡ Err refusal → CollectsOnce percent (Ok tt) all → Lists (Err refusal) list
      → Concludes percent came (all ++ list)
  Uncounted : (refusal : Refusal) (all list count : List Ask) (files : List NamedRoot) → came ≡ Err refusal
      → CollectsOnce percent (Ok tt) all → Lists (Ok files) list → CountsAll (Err refusal) count
      → Concludes percent came (all ++ (list ++ count))
  Concluded : (summary : Summary) (all list count : List Ask) → came ≡ Ok summary → CollectsOnce percent (Ok tt) all
      → Lists (Ok summary.files) list → CountsAll (Ok (record { segments = summary.segments; bytes = summary.bytes })) count
      → Concludes percent came (all ++ (list ++ count))

-- Where something was refused nothing more is asked for.
abbrev pub EndsBy : ℕ → Option Refusal → Outcome → List Ask → Type 0
EndsBy percent (Some refusal) came last = (last ≡ []) × (came ≡ Err refusal)
EndsBy percent None came last = Concludes percent came last

-- All workers do their jobs, each those whose number leaves its own when divided by how many there are, as the actors from 1 on; the actor
-- 0 collects beside them, and, once all have ended, does the rest.
pub record WorksOnEmpty (plan : Plan) (came : Outcome) (steps : List Event) : Type 0 where
  pub ended : Option (List JobEnd)
  pub collected : Result (Unit {0}) Refusal
  pub beside : List Event
  pub last : List Ask
  pub steps_are : steps ≡ beside ++ map (event_of 0) last
  pub workers : (worker : ℕ) → worker < plan.workers → AskedByWorker plan.workers worker plan.jobs ended (asks_of (suc worker) beside)
  pub collector : CollectsBeside plan.percent collected (asks_of 0 beside)
  pub others : (actor : ℕ) → plan.workers < actor → asks_of actor beside ≡ []
  pub ends : EndsBy plan.percent (refused_in ended collected) came last

-- These steps a core made that has no names.
pub record FillsEmpty {C : Type 0} (state : C → CoreState) (plan : Plan) (came : Outcome) (old new : C) : Type 0 where
  pub steps : List Event
  pub run : CoreRun C state steps old new
  pub each : AllByRecursion (λ e. IsStep e.step × (e.actor < ACTORS)) steps
  pub on_empty : WorksOnEmpty plan came steps

-- so it is where no name has a file; where some have, nothing more is done
abbrev pub GoesBy : Plan → List NamedRoot → Outcome → List Event → Type 0
GoesBy plan [] came rest = WorksOnEmpty plan came rest
GoesBy plan (file ∷ more) came rest = (rest ≡ []) × (came ≡ Err (NotEmpty (suc (length more))))

abbrev pub BeginsBy : Plan → Result Answer Refusal → Outcome → List Event → Type 0
BeginsBy plan (Ok (answers.Listed files)) came rest = GoesBy plan files came rest
BeginsBy plan (Err refusal) came rest = (rest ≡ []) × (came ≡ Err refusal)
BeginsBy plan answer came rest = ⊥

-- First it is asked which names there are.
pub record WorkSteps (plan : Plan) (came : Outcome) (steps : List Event) : Type 0 where
  pub first : Event
  pub rest : List Event
  pub steps_are : steps ≡ first ∷ rest
  pub actor_is : first.actor ≡ 0
  pub step_is : first.step ≡ asked.ListNames
  pub goes : BeginsBy plan first.answer came rest

-- These steps a core made.
pub record WorksThrough {C : Type 0} (state : C → CoreState) (plan : Plan) (came : Outcome) (old new : C) : Type 0 where
  pub steps : List Event
  pub run : CoreRun C state steps old new
  pub each : AllByRecursion (λ e. IsStep e.step × (e.actor < ACTORS)) steps
  pub steps_are : WorkSteps plan came steps

-- ---- the disk's count of faults

-- the answer blames a call of the disk
abbrev pub is_fault : Result Answer Refusal → Bool
is_fault (Err DiskRead) = true
is_fault (Err DiskWrite) = true
is_fault answer = false

-- It rises by each step whose answer blames a call of the disk, and by no other.
abbrev pub CountSteps : List Event → (before now : ℕ) → Type 0
CountSteps [] before now = now ≡ before
CountSteps (e ∷ es) before now = (mid : ℕ) × (Counts (is_fault e.answer) before mid × CountSteps es mid now)

-- ---- what is left, where the disk tells its content

-- Each job's file stands under its second name, whole, and no other name has one; the summary has their roots, and what their trees have
-- together.
pub record IsWorkDone (plan : Plan) (summary : Summary) (left : FileMachine) : Type 0 where
  pub runs : left.state ≡ Running
  pub each : (job : Job) → Contains plan.jobs job → finite.get left.now.names (work_name job.number) ≡ Some (stream_of (file_of job))
  pub no_other : (name bytes : List ℕ) → finite.get left.now.names name ≡ Some bytes
      → (job : Job) × (Contains plan.jobs job × (name ≡ work_name job.number) × (bytes ≡ stream_of (file_of job)))
  pub listed : summary.files ≡ listing of_files left.now
  pub counted : AreUnique (finite.values left.now.names) summary.segments summary.bytes
