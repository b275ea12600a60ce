-- What workers leave of files, where the disk tells its content (docs/MODEL.md, 'Workers').
use Rattle.std.specs.Prelude.{◌≡◌, ◌<◌, ℕ, List, map}
use Rattle.std.specs.List.{AllByRecursion, Contains}
use Rattle.dd_disk.specs.View.{CrashLeaves}
use Rattle.actor_parts.specs.declared.actor.TheConstants.{ACTORS}
use Rattle.actor_parts.specs.StepValue.{IsStep}
use Rattle.load_stream.specs.Load.{LoadState}
use Rattle.store_model.specs.Collisions.{ByteSet, HasNoCollisions, IsIn, OpensAs}
use Rattle.store_model.specs.Standing.{IsSegmentOf}
use Rattle.store_core.specs.Runs.{CoreRun, FileEvent, events_of, stored_after}
use Rattle.store_core.specs.State.{CoreState, Event, IsRunning}
use Rattle.store_machine.specs.ByMap.{FileMachine}
use Rattle.store_machine.specs.Machine.{Found, Running}
use Rattle.store_machine.specs.Opening.{MayBeFound}
use Rattle.store_machine.specs.Runs.{Run}
use Rattle.store_machine.specs.Values.{of_files}
use Rattle.core_machine.specs.Files.{IsFileMachine, file_step, stored_in}
use Rattle.ingest_workers.specs.Named.{AreOfStreams, HasStreams}
use Rattle.ingest_workers.specs.Owing.{AreAllOwed, stream_of}

-- The image can be opened as files of which each is one of some actor's, under one of its two names.
abbrev pub IsOfStreams : (List ℕ → Type 0) → (ℕ → List LoadState) → List ℕ → Type 0
IsOfStreams S own image = (found : Found (List ℕ)) × HasStreams own found.names × OpensAs S (stored_in found) image

-- The steps are a run of the machine of files, at whose end the names are those that the commits and deletes make. At the end, and at any
-- moment, also inside a write, each name that has a file is one of the two of some actor's file, and has all of its bytes.
pub record LeavesStreams {C : Type 0} (state : C → CoreState) (S : List ℕ → Type 0) (own : ℕ → List LoadState) (es : List Event)
    (m : FileMachine) (old new : C) : Type 0 where
  pub files : List FileEvent
  pub events_are : events_of files ≡ es
  pub of_streams : AreOfStreams own files
  pub left : FileMachine
  pub run : Run of_files (map file_step files) m left
  pub is_left : IsFileMachine S left (state new)
  pub names_are : left.now.names ≡ (stored_after files (stored_in m.now)).files
  pub streams : (found : Found (List ℕ)) → MayBeFound of_files left.state left.now found → HasStreams own found.names
  pub crash : CrashLeaves (IsOfStreams S own) (state old).disk (state new).disk

-- each segment of the files is among these
abbrev pub HasAllSegments : (ℕ → List LoadState) → (List ℕ → Type 0) → Type 0
HasAllSegments own S = (actor : ℕ) (file : LoadState) (bytes : List ℕ) → Contains (own actor) file → IsSegmentOf (stream_of file) bytes
    → S bytes

-- So it is of steps by any actors that are due by what each asked for before, over data without collisions, of a core that runs and is at
-- files of which each is one of the actors'.
abbrev pub WorkLeavesStreams : (C : Type 0) → (C → CoreState) → Type 0
WorkLeavesStreams C state = (among : ByteSet) (own : ℕ → List LoadState) (es : List Event) (m : FileMachine) (old new : C)
    → HasNoCollisions (IsIn among) → HasAllSegments own (IsIn among) → IsRunning (state old) → IsFileMachine (IsIn among) m (state old)
    → m.state ≡ Running → HasStreams own m.now.names → AllByRecursion (λ e. IsStep e.step × (e.actor < ACTORS)) es
    → CoreRun C state es old new → AreAllOwed own es → LeavesStreams state (IsIn among) own es m old new
