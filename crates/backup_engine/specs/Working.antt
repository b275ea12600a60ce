-- What `work` promises: workers that store generated files beside one another, in a store without names (docs/MODEL.md, 'Workers').
use Rattle.std.specs.Prelude.{◌≡◌, ◌⊎◌, ℕ, zero, suc, List, [], ◌∷◌, map, Option, Some, None, Ok, Err, IfErr}
use Rattle.std.specs.FinMap as finite
use Rattle.std.specs.List.{AllByRecursion}
use Rattle.base_model.specs.Known.{KnownWith}
use Rattle.dd_disk.specs.Ending.{CountsFault, ending_of}
use Rattle.dd_disk.specs.Shows.{Shows}
use Rattle.dd_disk.specs.View.{CrashLeaves, DiskView}
use Rattle.dd_io.specs.Flow.{SinkView}
use Rattle.refusals.specs.declared.refusal.Refusal.{Refusal}
use Rattle.refusals.specs.declared.refusal.Refusal.TheVariants.{Memory, Stopped}
use Rattle.reply_text.specs.declared.ending.Ending.{Ending}
use Rattle.reply_text.specs.declared.ending.Ending.TheVariants.{Refused}
use Rattle.reply_text.specs.Text.{summary_text}
use Rattle.store_model.specs.Collisions.{ByteSet, HasNoCollisions, IsIn}
use Rattle.store_state.specs.Refused.{blames}
use Rattle.recovery.specs.Opening.{IsOpenRefusal}
use Rattle.store_core.specs.Runs.{FileEvent, events_of}
use Rattle.store_core.specs.State.{Event}
use Rattle.store_machine.specs.ByMap.{FileMachine}
use Rattle.store_machine.specs.Done as done
use Rattle.store_machine.specs.Legal.{listing}
use Rattle.store_machine.specs.Machine.{Found}
use Rattle.store_machine.specs.Opening.{IsNamedBy, MayBeFound, Opens}
use Rattle.store_machine.specs.Remembering.{RootMachine}
use Rattle.store_machine.specs.Runs.{Run}
use Rattle.store_machine.specs.Values.{of_files, of_roots}
use Rattle.core_machine.specs.FileOpenings.{Reopens}
use Rattle.core_machine.specs.Files.{IsOfFound, MayStand, StandsFor, file_step}
use Rattle.core_machine.specs.Runs.{stepped}
use Rattle.script_runner.specs.Runner.{Sent}
use Rattle.script_runner.specs.Shown.{WasOpened}
use Rattle.ingest_workers.specs.declared.job.Job.{Job}
use Rattle.ingest_workers.specs.Named.{HasStreams}
use Rattle.shared_work.specs.Completing.{IsCause}
use Rattle.shared_work.specs.Streams.{HasAllSegments, IsOfStreams}
use Rattle.shared_work.specs.declared.whole.Summary.{Summary}
use Rattle.shared_work.specs.Whole.{CountSteps, IsWorkDone, Outcome, Plan, ToldAs, WorkSteps, streams_of}
use Rattle.backup_engine.specs.ByFiles.{RunsEachByFiles}
use Rattle.backup_engine.specs.Line.{Load}
use Rattle.backup_engine.specs.Seen.{Devices}

-- ---- the jobs

-- so many from this number on, each of a file of its number
abbrev pub jobs_from : Load → (first count : ℕ) → List Job
jobs_from load first zero = []
jobs_from load first (suc count) = record { number = first; seed = load.seed; length = load.bytes } ∷ jobs_from load (suc first) count

abbrev pub plan_of : Load → Plan
plan_of load = record { workers = load.workers; percent = load.percent; jobs = jobs_from load 0 load.files }

-- ---- what is printed

-- What is told of it: where the last refusal was that the store is stopped, the refusal that stopped it.
abbrev pub told_by : Outcome → Option Refusal → Outcome
told_by (Err (Stopped at)) (Some refusal) = Err refusal
told_by came stopped = came

-- All of the summary was written, or a first part, where the sink failed; and nothing, where there was no memory for it, or where anything
-- was refused.
abbrev pub Prints : Outcome → Option Ending → SinkView → SinkView → Type 0
Prints (Ok summary) None sink sink_now = Sent (summary_text summary.files summary.segments summary.bytes) (Ok tt) sink sink_now
Prints (Ok summary) (Some (Refused refusal)) sink sink_now = (refusal ≡ Memory) × (sink_now ≡ sink)
Prints (Ok summary) (Some ending) sink sink_now =
    Sent (summary_text summary.files summary.segments summary.bytes) (Err ending) sink sink_now
Prints (Err refusal) ending sink sink_now = (ending ≡ Some (Refused refusal)) × (sink_now ≡ sink)

-- ---- on any disk

-- what a call did once the store was opened: the steps of all actors, and what came of them
pub record Ran : Type 0 where
  pub came : Outcome
  pub steps : List Event

-- Whatever the disk holds, the steps are a run of the machine of roots, from a store that reads showed: so each refusal has its cause, by a
-- row of it, but for what it tells of bytes that were read or compared. The names that are told are those at its end.
pub record WorksByRoots (plan : Plan) (ran : Ran) (disk disk_now : DiskView) : Type 0 where
  pub opened : RootMachine
  pub opens : (m : RootMachine) → Opens of_roots (finite.len opened.now.names) m opened
  pub named : IsNamedBy of_roots opened.now opened.store
  pub shown : WasOpened disk disk_now opened.store
  pub steps_are : WorkSteps plan ran.came ran.steps
  pub left : RootMachine
  pub run : Run of_roots (map stepped ran.steps) opened left
  pub listed : (summary : Summary) → ran.came ≡ Ok summary → summary.files ≡ listing of_roots left.now
  pub disk_faults : CountSteps ran.steps disk.faults disk_now.faults

-- the store was not opened, for its cause
pub record WorksUnopened (ending : Option Ending) (saw : Devices) : Type 0 where
  pub refusal : Refusal
  pub ending_is : ending ≡ Some (Refused refusal)
  pub cause : IsOpenRefusal (Shows saw.disk saw.disk_now) saw.disk.size refusal
  pub disk_faults : CountsFault (ending_of (blames refusal)) saw.disk.faults saw.disk_now.faults
  pub prints : saw.sink_now ≡ saw.sink

pub record WorksOpened (plan : Plan) (ran : Ran) (ending : Option Ending) (saw : Devices) : Type 0 where
  pub by_roots : WorksByRoots plan ran saw.disk saw.disk_now
  pub told : Outcome
  pub told_as : ToldAs ran.steps ran.came told
  pub prints : Prints told ending saw.sink saw.sink_now

abbrev pub KeepsWork : Plan → Option Ran → Option Ending → Devices → Type 0
KeepsWork plan None ending saw = WorksUnopened ending saw
KeepsWork plan (Some ran) ending saw = WorksOpened plan ran ending saw

-- ---- where the disk tells its content

-- The image can be opened as files that may be found before; or, of a store without names, as files of jobs, each under one of its two
-- names, and whole.
abbrev pub IsOfWork : (List ℕ → Type 0) → Plan → (m opened : FileMachine) → List ℕ → Type 0
IsOfWork S plan m opened image = IsOfFound S m image ⊎ ((opened.now.names ≡ finite.empty) × IsOfStreams S (streams_of plan) image)

-- The steps are a run of the machine of files, its opening first. At the end what reads give, and each image, stands for its files; and of
-- a store without names these are files of jobs. At any moment of the call, also inside a write, a crash leaves such an image, or one that
-- it might have left before. In a store without names each step is done, or refused for its cause, and so is what came: for want of memory;
-- of a slot or of a number, as an image shows that a crash might have left since the call began; by a call of the disk that failed, or one
-- that failed before; or, only where two different nodes have one digest, of the trees of the jobs' files or held at any moment of the
-- call, since a node clashes or lacks a pin.
pub record WorksByFiles (S : List ℕ → Type 0) (plan : Plan) (ran : Ran) (m : FileMachine) (disk disk_now : DiskView) : Type 0 where
  pub files : ℕ
  pub opened : FileMachine
  pub opens : Reopens 0 (Ok (done.Reopened files)) m opened
  pub events : List FileEvent
  pub events_are : events_of events ≡ ran.steps
  pub left : FileMachine
  pub run : Run of_files (map file_step events) opened left
  pub stands : StandsFor S left disk_now
  pub streams : opened.now.names ≡ finite.empty → (found : Found (List ℕ)) → MayBeFound of_files left.state left.now found
      → HasStreams (streams_of plan) found.names
  pub crash : CrashLeaves (IsOfWork S plan m opened) disk disk_now
  pub done : (summary : Summary) → ran.came ≡ Ok summary → IsWorkDone plan summary left
  pub complete : opened.now.names ≡ finite.empty
      → AllByRecursion (λ e. IfErr e.answer (IsCause plan disk disk_now)) ran.steps × IfErr ran.came (IsCause plan disk disk_now)

-- So it is of each machine of files for which the content of the disk may stand, where no two different data segments have one digest: of a
-- set of those that the disk holds and that the jobs' files have.
abbrev pub WorksEachByFiles : Plan → Ran → DiskView → DiskView → Type 0
WorksEachByFiles plan ran disk disk_now = (among : ByteSet) (m : FileMachine) → HasNoCollisions (IsIn among)
    → HasAllSegments (streams_of plan) (IsIn among) → KnownWith disk.content (MayStand (IsIn among) m)
    → WorksByFiles (IsIn among) plan ran m disk disk_now

-- and where the store was not opened it is refused as the machine may
abbrev pub WorkByFiles : Plan → Option Ran → Option Ending → DiskView → DiskView → Type 0
WorkByFiles plan None ending disk disk_now = RunsEachByFiles ending [] disk disk_now
WorkByFiles plan (Some ran) ending disk disk_now = WorksEachByFiles plan ran disk disk_now
