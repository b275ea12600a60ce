-- A worker leaves its actor idle, unless the store is stopped (docs/MODEL.md, 'Workers').
use Rattle.std.specs.Prelude.{◌≡◌, ◌⊎◌, ◌<◌, ℕ, List, [], ◌∷◌, ◌++◌, length, None, Err}
use Rattle.actor_parts.specs.Asking.{Ask}
use Rattle.refusals.specs.declared.refusal.PartKind.TheVariants.{Idle}
use Rattle.refusals.specs.declared.refusal.Refusal.TheVariants.{Stopped}
use Rattle.store_core.specs.Runs.{CoreRun}
use Rattle.store_core.specs.State.{CoreState, Event}
use Rattle.session_turns.specs.Kinds.{kind_at}
use Rattle.ingest_workers.specs.declared.job.Job.{Job}
use Rattle.ingest_workers.specs.declared.job.JobEnd.{JobEnd}
use Rattle.ingest_workers.specs.Ingesting.{asks_of}
use Rattle.ingest_workers.specs.Jobs.{OwnJobs}

-- it found the store stopped
abbrev pub IsStopped : Ask → Type 0
IsStopped a = (at : ℕ) × (a.answer ≡ Err (Stopped at))

-- the last of these did
pub record LastIsStopped (all : List Ask) : Type 0 where
  pub before : List Ask
  pub last : Ask
  pub all_is : all ≡ before ++ last ∷ []
  pub stopped : IsStopped last

-- While the core is not stopped no step of the run is answered so.
abbrev pub AnswersAsItRuns : (C : Type 0) (state : C → CoreState) (es : List Event) (old new : C) → CoreRun C state es old new → Type 0
AnswersAsItRuns C state [] old new run = Unit {0}
AnswersAsItRuns C state (e ∷ es) old new run =
    ((at : ℕ) → (state old).stop ≡ None → e.answer ≡ Err (Stopped at) → ⊥) × AnswersAsItRuns C state es run.0 new run.1.1

-- Where an actor was idle, and all that it asked for in a run were a worker's jobs, it is idle at the end; or its last step found the store
-- stopped.
abbrev pub WorkersLeave : (C : Type 0) → (C → CoreState) → Type 0
WorkersLeave C state = (count worker actor : ℕ) (jobs : List Job) (ended : List JobEnd) (es : List Event) (old new : C)
    → (run : CoreRun C state es old new) → AnswersAsItRuns C state es old new run → actor < length (state old).parts
    → kind_at C state old actor ≡ Idle → OwnJobs count worker jobs ended (asks_of actor es)
    → (kind_at C state new actor ≡ Idle) ⊎ LastIsStopped (asks_of actor es)
