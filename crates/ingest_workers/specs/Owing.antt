-- What callers ask for is due by what they asked for before, whatever others do between (docs/MODEL.md, 'Workers'). At the
-- beginning no file is under way.
use Rattle.std.specs.Prelude.{◌≡◌, ◌⊎◌, ◌<◌, ◌≤◌, ℕ, zero, suc, ◌%◌, ◌==◌, if◌then◌else◌, List, [], ◌∷◌, ◌++◌, length, Some}
use Rattle.std.specs.List.{AllByRecursion, Contains}
use Rattle.disk_format.specs.Cells.{Root}
use Rattle.disk_format.specs.declared.numbers.TheConstants.{MOST_FILE}
use Rattle.actor_parts.specs.declared.actor.TheConstants.{ACTORS}
use Rattle.actor_parts.specs.Asking.{Ask}
use Rattle.actor_parts.specs.StepValue as asked
use Rattle.actor_parts.specs.StepValue.{IsStep, StepValue}
use Rattle.load_stream.specs.Load.{LoadState, byte_of}
use Rattle.store_model.specs.Collisions.{ByteSet, HasNoCollisions, IsIn}
use Rattle.store_model.specs.Files.{Stored}
use Rattle.store_model.specs.Image.{Store}
use Rattle.store_model.specs.Standing.{IsSegmentOf}
use Rattle.store_model.specs.Trees.{root_of}
use Rattle.store_state.specs.Settled.{IsSettled}
use Rattle.ingest_session.specs.Calls.{ready_in}
use Rattle.ingest_session.specs.Due.{due_in}
use Rattle.ingest_session.specs.History.{History}
use Rattle.ingest_session.specs.State.{SessionState}
use Rattle.ingest_session.specs.Told.{IsSettled as IsSettledSession}
use Rattle.store_core.specs.Runs.{CoreRun, FileEvent, FileRun, IsAt, events_of}
use Rattle.store_core.specs.State.{CoreState, Event}
use Rattle.session_turns.specs.Owning.{IsAskedFor}
use Rattle.ingest_workers.specs.declared.job.Job.{Job}
use Rattle.ingest_workers.specs.declared.job.JobEnd.{JobEnd}
use Rattle.ingest_workers.specs.Giving.{Gives, SessionOf}
use Rattle.ingest_workers.specs.Ingesting.{asks_of}
use Rattle.ingest_workers.specs.Jobs.{OwnJobs, file_of, temp_name, work_name}

-- ---- the bytes of a file

-- so many of its bytes, from this place on
abbrev pub stream_from : LoadState → (at count : ℕ) → List ℕ
stream_from file at zero = []
stream_from file at (suc count) = byte_of file.seed file.file at ∷ stream_from file (suc at) count

-- all of them
abbrev pub stream_of : LoadState → List ℕ
stream_of file = stream_from file 0 file.length

-- the files of the jobs that are a worker's own, where there are so many workers
abbrev pub own_files : (count worker : ℕ) → List Job → List LoadState
own_files count worker [] = []
own_files count worker (job ∷ jobs) =
    if job.number % count == worker then file_of job ∷ own_files count worker jobs else own_files count worker jobs

-- ---- one step

-- What was asked for last, since a file began, has led to this session of it.
pub record IsGiving (file : LoadState) (before : List Ask) (s : SessionState) (h : History) : Type 0 where
  pub earlier : List Ask
  pub gave : List Ask
  pub before_is : before ≡ earlier ++ gave
  pub gives : Gives file gave h
  pub of_file : SessionOf file s h

-- the step is due to the session of one of the files, which is settled
pub record IsDueOf (own : List LoadState) (before : List Ask) (step : StepValue) : Type 0 where
  pub file : LoadState
  pub is_file : Contains own file
  pub session : SessionState
  pub history : History
  pub giving : IsGiving file before session history
  pub settled : IsSettledSession session
  pub due : IsAskedFor (due_in session) session step

-- the root is the one that such a session is ready with, and the name one of the two of its file
pub record IsReadyOf (own : List LoadState) (before : List Ask) (name : List ℕ) (root : Root) : Type 0 where
  pub file : LoadState
  pub is_file : Contains own file
  pub session : SessionState
  pub history : History
  pub giving : IsGiving file before session history
  pub ready : ready_in session ≡ Some root
  pub named : (name ≡ temp_name file.file) ⊎ (name ≡ work_name file.file)

-- What a step has to be, after these, by one whose files these are: a claim or a seal, a commit, a delete.
abbrev pub IsOwed : List LoadState → List Ask → StepValue → Type 0
IsOwed own before (asked.Claim seg) = IsDueOf own before (asked.Claim seg)
IsOwed own before (asked.Seal offered) = IsDueOf own before (asked.Seal offered)
IsOwed own before (asked.Commit name root) = IsReadyOf own before name root
IsOwed own before (asked.Delete name) = (file : LoadState) × (Contains own file × (name ≡ temp_name file.file))
IsOwed own before step = Unit {0}

-- so is each of these, the first of them first
abbrev pub AreOwed : List LoadState → List Ask → List Ask → Type 0
AreOwed own before [] = Unit {0}
AreOwed own before (a ∷ rest) = IsOwed own before a.step × AreOwed own (before ++ a ∷ []) rest

-- What a worker asks for, whatever it asked for before.
abbrev pub JobsAreOwed : Type 0
JobsAreOwed = (count worker : ℕ) (jobs : List Job) (ended : List JobEnd) (before all : List Ask) → OwnJobs count worker jobs ended all
    → AreOwed (own_files count worker jobs) before all

-- ---- steps by any actors

-- so is all that each has asked for, of the files that are its own
abbrev pub AreAllOwed : (ℕ → List LoadState) → List Event → Type 0
AreAllOwed own es = (actor : ℕ) → AreOwed (own actor) [] (asks_of actor es)

-- a commit is of all bytes of one of the files, under one of its names, and a delete is of the first of these
abbrev pub IsOfStream : List LoadState → StepValue → List ℕ → Type 0
IsOfStream own (asked.Commit name root) bytes = (file : LoadState) × Contains own file × (bytes ≡ stream_of file) × (root ≡ root_of bytes)
    × (length bytes ≤ MOST_FILE) × ((name ≡ temp_name file.file) ⊎ (name ≡ work_name file.file))
IsOfStream own (asked.Delete name) bytes = (file : LoadState) × (Contains own file × (name ≡ temp_name file.file))
IsOfStream own step bytes = Unit {0}

-- They are right, over data among S.
pub record AreRight (C : Type 0) (state : C → CoreState) (S : List ℕ → Type 0) (own : ℕ → List LoadState) (es : List Event) (old new : C)
    : Type 0 where
  pub files : List FileEvent
  pub events_are : events_of files ≡ es
  pub run : FileRun C state S files old new
  pub of_streams : AllByRecursion (λ f. IsOfStream (own f.event.actor) f.event.step f.bytes) files

-- Steps of a core at a store of files, on a settled disk: where each actor's are due so, and the segments of all files are among the data,
-- they are right.
abbrev pub OwedRunsAreRight : (C : Type 0) → (C → CoreState) → Type 0
OwedRunsAreRight C state = (among : ByteSet) (own : ℕ → List LoadState) (es : List Event) (s : Store) (stored : Stored)
    (old new : C)
    → HasNoCollisions (IsIn among)
    → ((actor : ℕ) (file : LoadState) (bytes : List ℕ) → Contains (own actor) file → IsSegmentOf (stream_of file) bytes → IsIn among bytes)
    → IsAt (IsIn among) s stored (state old) → IsSettled (state old).tables.slots (state old).disk
    → AllByRecursion (λ e. IsStep e.step × (e.actor < ACTORS)) es → CoreRun C state es old new → AreAllOwed own es
    → AreRight C state (IsIn among) own es old new
