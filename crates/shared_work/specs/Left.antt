-- What a whole generated load leaves, on any disk and where the disk tells its content (docs/MODEL.md, 'Workers').
use Rattle.std.specs.Prelude.{◌≡◌, ◌⊎◌, ◌≤◌, ℕ, false, List, map, None, Some, Ok, Err}
use Rattle.std.specs.FinMap as finite
use Rattle.dd_disk.specs.View.{CrashLeaves, IsLater}
use Rattle.refusals.specs.declared.refusal.Refusal.TheVariants.{Stopped}
use Rattle.store_model.specs.Collisions.{ByteSet, HasNoCollisions, IsIn}
use Rattle.store_core.specs.declared.stop.Stop.{Stop}
use Rattle.store_core.specs.Runs.{FileEvent, events_of}
use Rattle.store_core.specs.State.{CoreState, Event, IsRunning}
use Rattle.store_machine.specs.ByMap.{FileMachine}
use Rattle.store_machine.specs.Legal.{listing}
use Rattle.store_machine.specs.Machine.{Found, Running}
use Rattle.store_machine.specs.Opening.{MayBeFound}
use Rattle.store_machine.specs.Remembering.{RootMachine}
use Rattle.store_machine.specs.Runs.{Run}
use Rattle.store_machine.specs.Values.{of_files, of_roots}
use Rattle.core_machine.specs.Files.{IsFileMachine, IsOfFound, file_step}
use Rattle.core_machine.specs.Refines.{IsMachine}
use Rattle.core_machine.specs.Runs.{stepped}
use Rattle.ingest_workers.specs.Named.{HasStreams, HaveNumbers}
use Rattle.shared_work.specs.declared.whole.Summary.{Summary}
use Rattle.shared_work.specs.Streams.{HasAllSegments, IsOfStreams}
use Rattle.shared_work.specs.Whole.{CountSteps, IsToldOf, IsWorkDone, Outcome, Plan, WorksThrough, streams_of}

module _ {C : Type 0} (state : C → CoreState) where
  -- ---- on any disk

  -- The steps are a run of the machine of roots, and the names that are told are those at its end. The disk is the same, later, and its
  -- count of faults rose as the answers say. Where the last thing told is that the store is stopped, a step was answered what stopped it.
  pub record IsRootWork (m : RootMachine) (came : Outcome) (steps : List Event) (old new : C) : Type 0 where
    pub left : RootMachine
    pub run : Run of_roots (map stepped steps) m left
    pub listed : (summary : Summary) → came ≡ Ok summary → summary.files ≡ listing of_roots left.now
    pub faults : CountSteps steps (state old).disk.faults (state new).disk.faults
    pub later : IsLater (state old).disk (state new).disk
    pub stopped : (at : ℕ) → came ≡ Err (Stopped at)
        → (stop : Stop) × (((state new).stop ≡ Some stop) × IsToldOf steps (Stopped at) stop.refusal)

  abbrev pub WorksAreRuns : Type 0
  WorksAreRuns = (plan : Plan) (came : Outcome) (m : RootMachine) (old new : C) → 1 ≤ plan.workers → IsRunning (state old)
      → (state old).stop ≡ None
      → IsMachine false m (state old) → (works : WorksThrough state plan came old new) → IsRootWork m came works.steps old new

  -- ---- where the disk tells its content

  -- of a machine that has no names, files of jobs
  abbrev pub IsOfWork : (List ℕ → Type 0) → Plan → FileMachine → List ℕ → Type 0
  IsOfWork S plan m image = (m.now.names ≡ finite.empty) × IsOfStreams S (streams_of plan) image

  -- The steps are a run of the machine of files. At the end what may be found are files of jobs, if no name had one before; where a summary
  -- is told, just these, each under its second name. At any moment, also inside a write, a crash leaves an image that can be opened as such
  -- files, or as those of before.
  pub record IsFileWork (S : List ℕ → Type 0) (plan : Plan) (m : FileMachine) (came : Outcome) (steps : List Event) (old new : C)
      : Type 0 where
    pub events : List FileEvent
    pub events_are : events_of events ≡ steps
    pub left : FileMachine
    pub run : Run of_files (map file_step events) m left
    pub is_left : IsFileMachine S left (state new)
    pub streams : m.now.names ≡ finite.empty → (found : Found (List ℕ)) → MayBeFound of_files left.state left.now found
        → HasStreams (streams_of plan) found.names
    pub crash : CrashLeaves (λ image. IsOfFound S m image ⊎ IsOfWork S plan m image) (state old).disk (state new).disk
    pub done : (summary : Summary) → came ≡ Ok summary → IsWorkDone plan summary left

  abbrev pub WorksLeaveFiles : Type 0
  WorksLeaveFiles = (among : ByteSet) (plan : Plan) (came : Outcome) (m : FileMachine) (old new : C) → HasNoCollisions (IsIn among)
      → HasAllSegments (streams_of plan) (IsIn among) → HaveNumbers plan.jobs → 1 ≤ plan.workers → IsRunning (state old)
      → IsFileMachine (IsIn among) m (state old) → m.state ≡ Running → (works : WorksThrough state plan came old new)
      → IsFileWork (IsIn among) plan m came works.steps old new
