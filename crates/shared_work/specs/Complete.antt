-- What workers ask for is done: by what alone a step of theirs, or of a collection beside them, is refused, where the disk tells its
-- content (docs/MODEL.md, 'Workers').
use Rattle.std.specs.Prelude.{◌≡◌, ◌≤◌, ◌<◌, ◌^◌, ℕ, true, false, Bool, List, [], ◌∷◌, ◌++◌, length, None, Result, Ok, Err, IfErr}
use Rattle.std.specs.FinMap as finite
use Rattle.std.specs.List.{AllByRecursion}
use Rattle.actor_parts.specs.declared.actor.TheConstants.{ACTORS}
use Rattle.actor_parts.specs.declared.step.Answer.{Answer}
use Rattle.actor_parts.specs.declared.step.Answer.TheVariants as answers
use Rattle.actor_parts.specs.Asking.{Ask}
use Rattle.actor_parts.specs.StepValue as asked
use Rattle.actor_parts.specs.StepValue.{IsStep, StepValue}
use Rattle.disk_format.specs.declared.numbers.TheConstants.{MOST_FILE, RESERVE}
use Rattle.refusals.specs.declared.refusal.Refusal.{Refusal}
use Rattle.refusals.specs.declared.refusal.Refusal.TheVariants.{Memory, Full, Clash, DiskRead, DiskWrite, Stopped, Numbers, Unpinned}
use Rattle.store_model.specs.Collisions.{ByteSet, HasNoCollisions, IsIn}
use Rattle.store_core.specs.Runs.{CoreRun}
use Rattle.store_core.specs.State.{CoreState, Event, IsRunning}
use Rattle.store_machine.specs.ByMap.{FileMachine}
use Rattle.store_machine.specs.Machine.{Running, all_idle}
use Rattle.core_machine.specs.Files.{IsFileMachine}
use Rattle.ingest_workers.specs.declared.job.Job.{Job}
use Rattle.ingest_workers.specs.declared.job.JobEnd.{JobEnd}
use Rattle.ingest_workers.specs.declared.job.JobEnd.TheVariants as ends
use Rattle.ingest_workers.specs.Ingesting.{asks_of}
use Rattle.ingest_workers.specs.Named.{AreDoneBy, own_by}
use Rattle.shared_work.specs.Streams.{HasAllSegments}
use Rattle.shared_work.specs.Working.{CollectsBeside}

-- ---- what is left

-- There was no memory; no slot but those of the reserve was free; a number is at its end; a call of the disk failed, or one did before, of
-- which the store is stopped; or a node of a tree clashes with what is held, or what it names lacks a pin. There is no other: no name is
-- missing, bad or one too many, no file too long; none is at another thing than its step takes; no collection runs where one is to begin,
-- and one does where it is to go on; and nothing that is read is damaged, missing or other than it was.
abbrev pub MayRefuse : Refusal → Type 0
MayRefuse Memory = Unit {0}
MayRefuse (Full free) = free ≤ RESERVE
MayRefuse Numbers = Unit {0}
MayRefuse DiskRead = Unit {0}
MayRefuse DiskWrite = Unit {0}
MayRefuse (Stopped at) = Unit {0}
MayRefuse (Clash key at) = Unit {0}
MayRefuse (Unpinned key) = Unit {0}
MayRefuse refusal = ⊥

-- a job was stored, or refused so
abbrev pub MayEnd : (Refusal → Type 0) → JobEnd → Type 0
MayEnd May (ends.Stored root) = Unit {0}
MayEnd May (ends.Refused refusal) = May refusal

-- ---- what is asked for beside the workers

-- whether a collection runs after a step, by whether one ran before
abbrev pub runs_after : StepValue → Result Answer Refusal → Bool → Bool
runs_after (asked.GcStart percent) (Ok answer) runs = true
runs_after asked.GcStep (Ok (answers.Done freed copied)) runs = false
runs_after step answer runs = runs

-- A collection is begun where none runs, and one that runs is made on. Counts, names and what is unique may be asked for at any time.
abbrev pub MayAsk : Bool → StepValue → Type 0
MayAsk runs (asked.GcStart percent) = runs ≡ false
MayAsk runs asked.GcStep = runs ≡ true
MayAsk runs asked.Stat = Unit {0}
MayAsk runs asked.ListNames = Unit {0}
MayAsk runs asked.Unique = Unit {0}
MayAsk runs step = ⊥

-- Nothing else was asked for, from a moment on at which one runs, or none: so each collection but the last was made to its end, or was
-- refused to begin.
abbrev pub AskedBeside : Bool → List Ask → Type 0
AskedBeside runs [] = Unit {0}
AskedBeside runs (a ∷ rest) = MayAsk runs a.step × AskedBeside (runs_after a.step a.answer runs) rest

-- Of so many workers the first made its steps as the actor 1, and so on, each those of its own jobs, and the actor 0 asked for such beside
-- them; nobody made any other step. There are 256 jobs at most, and no file is longer than one may be.
pub record AreWorkersSteps (count : ℕ) (jobs : List Job) (ended : List JobEnd) (es : List Event) : Type 0 where
  pub some : 1 ≤ count
  pub few : length jobs ≤ 256
  pub small : AllByRecursion (λ j. (j.number < 2 ^ 64) × (j.length ≤ MOST_FILE)) jobs
  pub each : AllByRecursion (λ e. IsStep e.step × (e.actor < ACTORS)) es
  pub workers : AreDoneBy count jobs ended es
  pub collector : AskedBeside false (asks_of 0 es)
  pub others : (actor : ℕ) → count < actor → asks_of actor es ≡ []

-- ---- the store that they begin with

-- A core runs that is at no files, over data among S: no actor is at anything, and no collection runs.
pub record IsEmptyAt (S : List ℕ → Type 0) (m : FileMachine) (c : CoreState) : Type 0 where
  pub running : IsRunning c
  pub machine : IsFileMachine S m c
  pub runs : m.state ≡ Running
  pub no_names : (name : List ℕ) → finite.get m.now.names name ≡ None
  pub idle : m.parts ≡ all_idle
  pub no_collection : m.collection ≡ None

-- ---- what is so

-- Over data without collisions that has all segments of the jobs' files: each step of theirs is done or refused so, and each job is.
abbrev pub WhatWorkersAskIsDone : (C : Type 0) → (C → CoreState) → Type 0
WhatWorkersAskIsDone C state = (among : ByteSet) (count : ℕ) (jobs : List Job) (ended : List JobEnd) (es : List Event) (m : FileMachine)
    (old new : C)
    → HasNoCollisions (IsIn among) → HasAllSegments (own_by count jobs) (IsIn among) → IsEmptyAt (IsIn among) m (state old)
    → CoreRun C state es old new → AreWorkersSteps count jobs ended es
    → AllByRecursion (λ e. IfErr e.answer MayRefuse) es × AllByRecursion (MayEnd MayRefuse) ended

-- Collections that are made one after the other, up to the first refusal, are such as may be asked for beside workers; and what comes after
-- them may be as if none had been made, if it comes only where none was refused.
abbrev pub CollectionsAreBeside : Type 0
CollectionsAreBeside = (percent : ℕ) (result : Result (Unit {0}) Refusal) (all more : List Ask) → CollectsBeside percent result all
    → (result ≡ Ok tt → AskedBeside false more) → ((refusal : Refusal) → result ≡ Err refusal → more ≡ []) → AskedBeside false (all ++ more)
