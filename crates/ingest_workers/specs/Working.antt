-- Workers at their jobs.
use Rattle.std.specs.Prelude.{◌≡◌, ◌≤◌, ◌<◌, ◌%◌, ℕ, true, false, Bool, List, [], length, get_or, slice_index_or, vec_capacity, Result, Ok, Err}
use Rattle.disk_format.specs.Cells.{Root}
use Rattle.refusals.specs.declared.refusal.Refusal.{Refusal}
use Rattle.actor_parts.specs.Asking.{Ask, Asks, AsksAll}
use Rattle.load_stream.specs.Load.{LoadState}
use Rattle.ingest_session.specs.History.{History}
use Rattle.ingest_session.specs.State.{SessionState}
use Rattle.ingest_workers.specs.declared.job.Job.{Job}
use Rattle.ingest_workers.specs.declared.job.JobEnd.{JobEnd}
use Rattle.ingest_workers.specs.declared.workers.Desk.{Desk}
use Rattle.ingest_workers.specs.declared.workers.Worker.{Worker}
use Rattle.ingest_workers.specs.Giving.{Gives, SessionOf, Stops, Stores}
use Rattle.ingest_workers.specs.Jobs.{AskedFrom, IsJob, OwnJobs}

-- ---- a file that is being stored

-- Since a moment a file has begun, and its session is this one.
pub record IsUnderWay {S : Type 0} (asks : Asks S) (file : LoadState) (start : S) (s : SessionState) (now : S) : Type 0 where
  pub asked : List Ask
  pub all : AsksAll asks start asked now
  pub history : History
  pub gives : Gives file asked history
  pub of_file : SessionOf file s history

-- the session was given all of the file
abbrev pub Fills : {S : Type 0} → Asks S → LoadState → Result (Unit {0}) Refusal → SessionState → SessionState → S → S → Type 0
Fills {S} asks file (Ok u) s t old new = (start : S) (under : IsUnderWay asks file start s old) → length under.history.given ≡ 0
    → (filled : IsUnderWay asks file start t new) × (length filled.history.given ≡ file.length)
Fills {S} asks file (Err refusal) s t old new = (start : S) (under : IsUnderWay asks file start s old) → length under.history.given ≡ 0
    → (name : List ℕ) → AskedFrom asks start (Stops file name refusal) new

-- and the file was committed
abbrev pub Commits : {S : Type 0} → Asks S → LoadState → List ℕ → Result Root Refusal → SessionState → S → S → Type 0
Commits {S} asks file name (Ok root) s old new = (start : S) (under : IsUnderWay asks file start s old) → length under.history.given ≡ 0
    → AskedFrom asks start (Stores file name root) new
Commits {S} asks file name (Err refusal) s old new = (start : S) (under : IsUnderWay asks file start s old) → length under.history.given ≡ 0
    → AskedFrom asks start (Stops file name refusal) new

-- ---- workers

-- no job has ended, and there is room for so many ends
abbrev pub IsReady : ℕ → Desk → Type 0
IsReady many d = (d.ends.items ≡ []) × (many ≤ vec_capacity d.ends)

-- a job was done where it is the worker's
abbrev pub OwnJob : Bool → Job → JobEnd → List Ask → Type 0
OwnJob true job end all = IsJob job end all
OwnJob false job end all = all ≡ []

-- a worker did its own of the jobs, and has how each ended
pub record HasDone {S : Type 0} (asks : Asks S) (jobs : List Job) (count number : ℕ) (old new : Worker S) : Type 0 where
  pub own : AskedFrom asks old.caller (OwnJobs count number jobs new.desk.ends.items) new.caller
  pub many : length new.desk.ends.items ≡ length jobs

-- of each job the end that its worker has
pub record AreGathered {S : Type 0} (workers : List (Worker S)) (jobs : List Job) (ended : List JobEnd) : Type 0 where
  pub many : length ended ≡ length jobs
  pub each : (place : ℕ) (j : Job) (d : Worker S) (e : JobEnd) → place < length jobs
      → get_or ended place e ≡ get_or (slice_index_or workers ((get_or jobs place j).number % length workers) d).desk.ends.items place e
