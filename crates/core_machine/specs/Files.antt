-- A core whose disk tells its content, and that stands for files, as the machine of files: what is so between them, and after each step.
use Rattle.std.specs.Prelude.{◌≡◌, ◌≤◌, ℕ, true, List, length, map, Some}
use Rattle.std.specs.List.{AllByRecursion}
use Rattle.base_model.specs.Known.{KnownWith}
use Rattle.dd_disk.specs.View.{CrashLeaves, DiskView}
use Rattle.disk_format.specs.declared.numbers.TheConstants.{MOST_FILE}
use Rattle.actor_parts.specs.declared.part.Part.TheVariants as core
use Rattle.actor_parts.specs.declared.part.Reader.{Reader}
use Rattle.actor_parts.specs.Parts.{part_of}
use Rattle.actor_parts.specs.StepValue as steps
use Rattle.actor_parts.specs.StepValue.{StepValue}
use Rattle.gc_steps.specs.declared.collection.Collection.{Collection}
use Rattle.read_steps.specs.Walking.{SegmentsAhead}
use Rattle.segment_index.specs.Places.{KnownMap}
use Rattle.store_model.specs.Collisions.{ByteSet, HasNoCollisions, IsIn, OpensAs, Stands as IsStoreOf}
use Rattle.store_model.specs.Files.{Stored}
use Rattle.store_model.specs.Image.{Store, last_sequence}
use Rattle.store_model.specs.Reserve.{HoldsCounted}
use Rattle.store_model.specs.Slots.{HasKey}
use Rattle.store_model.specs.Standing.{CanBeOpened}
use Rattle.store_model.specs.Trees.{file_tree, root_of}
use Rattle.store_state.specs.Settled.{IsSettled}
use Rattle.store_state.specs.Tables.{Represents}
use Rattle.store_core.specs.Runs.{FileEvent, FileRun, FileStep, IsAt}
use Rattle.store_core.specs.State.{CoreState, IsRunning}
use Rattle.store_machine.specs.ByMap.{FileMachine}
use Rattle.store_machine.specs.Forgetting.{Forgets}
use Rattle.store_machine.specs.Legal.{Legal}
use Rattle.store_machine.specs.Machine.{Collection as MachineCollection, Found, Reading, RunState, Running, Stepped, Stopped, part_in}
use Rattle.store_machine.specs.Needs.{NeededSince}
use Rattle.store_machine.specs.Opening.{MayBeFound, Stands}
use Rattle.store_machine.specs.Remembering.{RootMachine}
use Rattle.store_machine.specs.Runs.{IsPassedFrom, Run}
use Rattle.store_machine.specs.Values.{of_files}
use Rattle.core_machine.specs.Bytes.{ChangesBytes}
use Rattle.core_machine.specs.Lives.{LivesJust}
use Rattle.core_machine.specs.Refines.{IsMachine, answered_by, asked_as}
use Rattle.core_machine.specs.Written.{WroteOnce}

-- the files that names have, with the last number
abbrev pub stored_in : Found (List ℕ) → Stored
stored_in now = record { files = now.names; last = now.last }

-- ---- a core that runs

-- A file is read: its root is that of the reader; its tree is held, and these are the segments of what is to come, by the copies that the
-- store has; and the index has their keys.
pub record Takes (file : List ℕ) (rest : List (List ℕ)) (reader : Reader) (c : CoreState) : Type 0 where
  pub fits : length file ≤ MOST_FILE
  pub root_is : reader.root ≡ root_of file
  pub counts : ByteSet
  pub indexed : KnownMap c.known (λ index. (key : List ℕ) → IsIn counts key → HasKey index key)
  pub whole : (store : Store) (image : List ℕ) → Represents store c.known c.tables → c.disk.content ≡ Some image
      → HoldsCounted (IsIn counts) store.held image (file_tree file)
  pub segments : (store : Store) (image : List ℕ) → Represents store c.known c.tables → c.disk.content ≡ Some image
      → SegmentsAhead counts store.held image reader.cursor rest

-- so each actor does that reads
abbrev pub ReadsFiles : FileMachine → CoreState → Type 0
ReadsFiles m c = (actor : ℕ) (file : List ℕ) (rest : List (List ℕ)) (reader : Reader) → part_in m actor ≡ Reading file rest
    → part_of c.parts actor ≡ core.Reading reader → Takes file rest reader c

-- of the collection that runs just what was needed as it began, or since, is live
abbrev pub LivesByNeed : FileMachine → CoreState → Type 0
LivesByNeed m c = (ran : MachineCollection (List ℕ)) (collection : Collection) → m.collection ≡ Some ran → c.collection ≡ Some collection
    → LivesJust (NeededSince of_files ran) m.store c collection

-- The core is at the machine's store, which is one of its files, on a settled disk; and what its collection wrote it writes no more.
pub record IsAtFiles (S : List ℕ → Type 0) (m : FileMachine) (c : CoreState) : Type 0 where
  pub is_at : IsAt S m.store (stored_in m.now) c
  pub settled : IsSettled c.tables.slots c.disk
  pub reads : ReadsFiles m c
  pub lives : LivesByNeed m c
  pub wrote : WroteOnce m c

-- ---- one that is stopped

-- The image is a store that stands, of files that may be found, and can be opened.
pub record MayStand (S : List ℕ → Type 0) (m : FileMachine) (image : List ℕ) : Type 0 where
  pub found : Found (List ℕ)
  pub may : MayBeFound of_files m.state m.now found
  pub store : Store
  pub stands : Stands of_files m.state m.store store
  pub is : IsStoreOf S store found.names image
  pub opens : CanBeOpened store found.names
  pub last_is : last_sequence store ≡ found.last

-- so is what reads give of the disk, and whatever a crash leaves
pub record StandsFor (S : List ℕ → Type 0) (m : FileMachine) (disk : DiskView) : Type 0 where
  pub content : KnownWith disk.content (MayStand S m)
  pub images : (image : List ℕ) → disk.images image → MayStand S m image

-- The image can be opened as files that may be found.
abbrev pub IsOfFound : (List ℕ → Type 0) → FileMachine → List ℕ → Type 0
IsOfFound S m image = (found : Found (List ℕ)) × MayBeFound of_files m.state m.now found × OpensAs S (stored_in found) image

-- ---- the core and the machine

abbrev pub FitsBy : RunState (List ℕ) → (List ℕ → Type 0) → FileMachine → CoreState → Type 0
FitsBy Running S m c = IsAtFiles S m c
FitsBy (Stopped other stores) S m c = StandsFor S m c.disk

-- Once all but the roots of its files is forgotten the machine is one that the core is; and the disk stands for its files.
pub record IsFileMachine (S : List ℕ → Type 0) (m : FileMachine) (c : CoreState) : Type 0 where
  pub roots : RootMachine
  pub forgets : Forgets m roots
  pub machine : IsMachine true roots c
  pub fits : FitsBy m.state S m c

-- ---- a step

-- of a commit: the root is that of the bytes, which are no more than a file has
abbrev pub IsOfFile : StepValue → List ℕ → Type 0
IsOfFile (steps.Commit name root) bytes = (root ≡ root_of bytes) × (length bytes ≤ MOST_FILE)
IsOfFile step bytes = Unit {0}

-- the machine's step: of a commit it has the bytes
abbrev pub file_step : FileEvent → Stepped (List ℕ)
file_step f = record {
  actor = f.event.actor;
  asked = asked_as (λ root. f.bytes) f.event.step;
  answer = answered_by f.event.answer f.event.buf;
}

-- Over data without collisions, where the roots of commits are right: what the core does by a step is what the machine of files may do; and
-- what it does to the bytes of the disk `ChangesBytes` says.
abbrev pub FilesRefine : (C : Type 0) → (C → CoreState) → Type 0
FilesRefine C state = (among : ByteSet) (f : FileEvent) (old new : C) (m : FileMachine) → HasNoCollisions (IsIn among)
    → IsRunning (state old) → IsFileMachine (IsIn among) m (state old) → IsOfFile f.event.step f.bytes
    → FileStep (IsIn among) f (state old) (state new)
    → (n : FileMachine) × (Legal of_files (file_step f) m n × IsFileMachine (IsIn among) n (state new)
    × ChangesBytes (file_step f) m n (state old).disk.content (state new).disk.content)

-- The image can be opened as files that a run comes by, whose last number is that of its beginning or a later one.
abbrev pub IsOfPassed : (S : List ℕ → Type 0) (ss : List (Stepped (List ℕ))) (m n : FileMachine) → Run of_files ss m n → List ℕ → Type 0
IsOfPassed S ss m n run image =
    (found : Found (List ℕ)) × IsPassedFrom of_files m.now.last ss m n run found × OpensAs S (stored_in found) image

-- And so by steps of any actors, one after the other; and at any moment of them, also inside a write, a crash leaves an image that can be
-- opened as files that the run comes by, or one that it might have left before.
abbrev pub FileRunsRefine : (C : Type 0) → (C → CoreState) → Type 0
FileRunsRefine C state = (among : ByteSet) (fs : List FileEvent) (old new : C) (m : FileMachine) → HasNoCollisions (IsIn among)
    → IsRunning (state old) → IsFileMachine (IsIn among) m (state old) → AllByRecursion (λ f. IsOfFile f.event.step f.bytes) fs
    → FileRun C state (IsIn among) fs old new
    → (n : FileMachine) × (run : Run of_files (map file_step fs) m n) × IsFileMachine (IsIn among) n (state new)
    × CrashLeaves (IsOfPassed (IsIn among) (map file_step fs) m n run) (state old).disk (state new).disk
