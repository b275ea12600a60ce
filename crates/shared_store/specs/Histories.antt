-- The history of a shared store as a run of the machine (docs/MODEL.md, 'Shared stores').
use Rattle.std.specs.Prelude.{◌≡◌, ℕ, false, List, [], ◌∷◌, ◌++◌, map, Some}
use Rattle.std.specs.List.{AllByRecursion}
use Rattle.dd_disk.specs.Ending.{Done, Reads}
use Rattle.dd_disk.specs.View.{CrashLeaves, DiskView}
use Rattle.actor_parts.specs.StepValue.{IsStep}
use Rattle.store_model.specs.Collisions.{ByteSet, HasNoCollisions, IsIn}
use Rattle.turn_lock.specs.declared.history.Turn.{Turn}
use Rattle.turn_lock.specs.declared.history.View.{View}
use Rattle.turn_lock.specs.History.{IsHistory, last_of}
use Rattle.turn_lock.specs.Lock.{Ends}
use Rattle.store_core.specs.Runs.{CoreRun, FileEvent, FileStep, IsGivenRight}
use Rattle.store_core.specs.State.{CoreState, Event, IsRunning}
use Rattle.store_machine.specs.ByMap.{FileMachine}
use Rattle.store_machine.specs.Legal.{Legal}
use Rattle.store_machine.specs.Remembering.{RootMachine}
use Rattle.store_machine.specs.Runs.{Run}
use Rattle.store_machine.specs.Values.{of_files, of_roots}
use Rattle.core_machine.specs.Files.{IsFileMachine, IsOfFile, IsOfPassed, StandsFor, file_step}
use Rattle.core_machine.specs.Refines.{IsMachine}
use Rattle.core_machine.specs.Runs.{stepped}
use Rattle.shared_store.specs.Calls.{Called}
use Rattle.shared_store.specs.Made.{MadeBy, MadeByOne, MakesStep, actor_in, steps_in}
use Rattle.shared_store.specs.Telling.{AreTold}

-- who made the turns
abbrev pub makers : {C : Type 0} → List (Turn C) → List ℕ
makers log = map (λ t. t.by) log

module _ {C : Type 0} (state : C → CoreState) where
  -- ---- on any disk

  -- the steps that the turns of a history are
  abbrev pub events_in : (o : C) (log : List (Turn C)) → IsHistory (MadeBy state) o log → List Event
  events_in = steps_in actor_in (MakesStep state)

  -- They are a run of the core, one for each turn, by its actor.
  abbrev pub AreSteps : Type 0
  AreSteps = (o : C) (log : List (Turn C)) (history : IsHistory (MadeBy state) o log)
      → (map actor_in (events_in o log history) ≡ makers log) × AllByRecursion (λ e. IsStep e.step) (events_in o log history)
      × CoreRun C state (events_in o log history) o (last_of o log)

  -- So they are one of the machine of roots, whatever the disk holds.
  pub record IsRootRun (m : RootMachine) (o : C) (log : List (Turn C)) (history : IsHistory (MadeBy state) o log) : Type 0 where
    pub left : RootMachine
    pub run : Run of_roots (map stepped (events_in o log history)) m left
    pub is_left : IsMachine false left (state (last_of o log))

  abbrev pub AreRootRuns : Type 0
  AreRootRuns = (o : C) (log : List (Turn C)) (m : RootMachine) → IsRunning (state o) → IsMachine false m (state o)
      → (history : IsHistory (MadeBy state) o log) → IsRootRun m o log history

  -- And a call is a step of that machine, made of what all turns before it have left, the first of which the pass had seen.
  pub record IsRootCall (m : RootMachine) (o : C) (v w : View C) (e : Event) (called : Called state v e w)
      (history : IsHistory (MadeBy state) o (v.seen ++ called.between)) : Type 0 where
    pub before : IsRootRun m o (v.seen ++ called.between) history
    pub after : RootMachine
    pub legal : Legal of_roots (stepped e) before.left after
    pub is_after : IsMachine false after (state called.after)

  abbrev pub AreRootCalls : Type 0
  AreRootCalls = (o : C) (m : RootMachine) (v w : View C) (e : Event) → IsRunning (state o) → IsMachine false m (state o)
      → (opened : v.opening ≡ Some o) → (called : Called state v e w) → IsRootCall m o v w e called (called.legal o opened).0

  -- ---- where the disk tells its content

  abbrev pub file_actor : FileEvent → ℕ
  file_actor f = f.event.actor

  -- a right step of a core: of a commit, its root is that of bytes, whose tree is held
  abbrev pub MakesRight : (List ℕ → Type 0) → FileEvent → C → C → Type 0
  MakesRight S f old new = IsOfFile f.event.step f.bytes × FileStep S f (state old) (state new)

  -- a history of right steps
  abbrev pub IsRight : (List ℕ → Type 0) → C → List (Turn C) → Type 0
  IsRight S o log = IsHistory (MadeByOne file_actor (MakesRight S)) o log

  abbrev pub files_in : (S : List ℕ → Type 0) (o : C) (log : List (Turn C)) → IsRight S o log → List FileEvent
  files_in S = steps_in file_actor (MakesRight S)

  -- where the right steps of each number are told, the history is just these
  abbrev pub AreToldRight : Type 0
  AreToldRight = (among : ByteSet) → AreTold file_actor (MakesRight (IsIn among))

  -- They are a run of the machine of files, one step for each turn, by its actor. The core that they have left is that machine; and at any
  -- moment, also inside a write, a crash leaves an image that can be opened as files that the run comes by, or what it might have left
  -- before.
  pub record IsFileRun (S : List ℕ → Type 0) (m : FileMachine) (o : C) (log : List (Turn C)) (history : IsRight S o log) : Type 0 where
    pub left : FileMachine
    pub run : Run of_files (map file_step (files_in S o log history)) m left
    pub of_turns : map file_actor (files_in S o log history) ≡ makers log
    pub is_left : IsFileMachine S left (state (last_of o log))
    pub moments : CrashLeaves (IsOfPassed S (map file_step (files_in S o log history)) m left run)
        (state o).disk (state (last_of o log)).disk

  -- so it is over data without collisions
  abbrev pub AreFileRuns : Type 0
  AreFileRuns = (among : ByteSet) (o : C) (log : List (Turn C)) (m : FileMachine) → HasNoCollisions (IsIn among) → IsRunning (state o)
      → IsFileMachine (IsIn among) m (state o) → (history : IsRight (IsIn among) o log) → IsFileRun (IsIn among) m o log history

  -- A call is a step of that machine, made of what all turns before it have left, the first of which the pass had seen; and of a crash
  -- inside it the same holds.
  pub record IsFileCall (S : List ℕ → Type 0) (m : FileMachine) (o : C) (v w : View C) (f : FileEvent) (called : Called state v f.event w)
      (history : IsRight S o (v.seen ++ called.between)) : Type 0 where
    pub before : IsFileRun S m o (v.seen ++ called.between) history
    pub after : FileMachine
    pub run : Run of_files (file_step f ∷ []) before.left after
    pub is_after : IsFileMachine S after (state called.after)
    pub moments : CrashLeaves (IsOfPassed S (file_step f ∷ []) before.left after run)
        (state called.found).disk (state called.after).disk

  abbrev pub AreFileCalls : Type 0
  AreFileCalls = (among : ByteSet) (o : C) (m : FileMachine) (v w : View C) (f : FileEvent) → HasNoCollisions (IsIn among)
      → IsRunning (state o) → IsFileMachine (IsIn among) m (state o) → v.opening ≡ Some o → (called : Called state v f.event w)
      → (history : IsRight (IsIn among) o (v.seen ++ called.between)) → IsOfFile f.event.step f.bytes
      → IsGivenRight (IsIn among) f.event.step f.event.answer f.bytes (state called.found)
      → IsFileCall (IsIn among) m o v w f called history

  -- A disk that comes back at a close stands for the files of all turns, also where one of them stopped the store.
  pub record EndsAt (S : List ℕ → Type 0) (m : FileMachine) (o : C) (log : List (Turn C)) (history : IsRight S o log) (core : C)
      (disk : DiskView) : Type 0 where
    pub ran : IsFileRun S m o log history
    pub core_is : core ≡ last_of o log
    pub stands : StandsFor S ran.left disk

  abbrev pub EndsStand : (D : Type 0) → (D → DiskView) → Type 0
  EndsStand D view = (among : ByteSet) (o : C) (m : FileMachine) (v : View C) (core : C) (disk : D) → HasNoCollisions (IsIn among)
      → IsRunning (state o) → IsFileMachine (IsIn among) m (state o) → v.opening ≡ Some o → (ends : Ends (MadeBy state) v core)
      → Reads Done (state core).disk (view disk) → (history : IsRight (IsIn among) o ends.seen)
      → EndsAt (IsIn among) m o ends.seen history core (view disk)
