-- Jobs of workers: what is asked for each, and who does which (docs/MODEL.md, 'Workers').
use Rattle.std.specs.Prelude.{◌≡◌, ◌<◌, ℕ, ◌%◌, ◌==◌, MatchBool, List, [], ◌∷◌, ◌++◌, length, slice_index_or, codes, decimal, Result, Ok, Err}
use Rattle.disk_format.specs.Cells.{Root}
use Rattle.refusals.specs.declared.refusal.Refusal.{Refusal}
use Rattle.actor_parts.specs.Asking.{Ask, Asks, AsksAll}
use Rattle.actor_parts.specs.StepValue as asked
use Rattle.load_stream.specs.Load.{LoadState}
use Rattle.ingest_workers.specs.declared.job.Job.{Job}
use Rattle.ingest_workers.specs.declared.job.JobEnd.{JobEnd}
use Rattle.ingest_workers.specs.declared.job.JobEnd.TheVariants as ends
use Rattle.ingest_workers.specs.Giving.{IsDone, IsRefused, Reads, Stores, Unread, Unstored}

-- the file of a job, of which nothing was given
abbrev pub file_of : Job → LoadState
file_of job = record { seed = job.seed; file = job.number; length = job.length; given = 0 }

-- the name that is deleted again, and the one that stays
abbrev pub temp_name : ℕ → List ℕ
temp_name number = codes "temp." ++ decimal number

abbrev pub work_name : ℕ → List ℕ
work_name number = codes "work." ++ decimal number

-- ---- one job

-- The file was stored under both names, the first was deleted, and the second was read to its end.
pub record DoesJob (job : Job) (root : Root) (all : List Ask) : Type 0 where
  pub first : Root
  pub temp : List Ask
  pub work : List Ask
  pub delete : Ask
  pub read : List Ask
  pub temp_stored : Stores (file_of job) (temp_name job.number) first temp
  pub work_stored : Stores (file_of job) (work_name job.number) root work
  pub step_is : delete.step ≡ asked.Delete (temp_name job.number)
  pub deleted : IsDone delete
  pub was_read : Reads (work_name job.number) read
  pub all_is : all ≡ temp ++ (work ++ (delete ∷ read))

-- It ended where the first of these was refused, or found no memory.
pub data EndsJob (job : Job) (refusal : Refusal) : List Ask → Type 0 where
  NoTemp : (temp : List Ask) → Unstored (file_of job) (temp_name job.number) refusal temp → EndsJob job refusal temp
  NoWork : (temp work : List Ask) (first : Root) → Stores (file_of job) (temp_name job.number) first temp
      → Unstored (file_of job) (work_name job.number) refusal work → EndsJob job refusal (temp ++ work)
  NotDeleted : (temp work : List Ask) (first root : Root) (delete : Ask) → Stores (file_of job) (temp_name job.number) first temp
      → Stores (file_of job) (work_name job.number) root work → delete.step ≡ asked.Delete (temp_name job.number)
      → IsRefused refusal delete → EndsJob job refusal (temp ++ (work ++ (delete ∷ [])))
  NotRead : (temp work : List Ask) (first root : Root) (delete : Ask) (read : List Ask)
      → Stores (file_of job) (temp_name job.number) first temp → Stores (file_of job) (work_name job.number) root work
      → delete.step ≡ asked.Delete (temp_name job.number) → IsDone delete → Unread (work_name job.number) refusal read
      → EndsJob job refusal (temp ++ (work ++ (delete ∷ read)))

abbrev pub IsServed : Job → Result Root Refusal → List Ask → Type 0
IsServed job (Ok root) all = DoesJob job root all
IsServed job (Err refusal) all = EndsJob job refusal all

-- what a job that ended so has asked for
abbrev pub IsJob : Job → JobEnd → List Ask → Type 0
IsJob job (ends.Stored root) all = IsServed job (Ok root) all
IsJob job (ends.Refused refusal) all = IsServed job (Err refusal) all

-- ---- by callers

-- A caller has asked for steps that are so.
abbrev pub AskedFrom : {S : Type 0} → Asks S → S → (List Ask → Type 0) → S → Type 0
AskedFrom asks old P new = (all : List Ask) × AsksAll asks old all new × P all

-- Of these jobs one worker of so many did those whose number leaves its own when divided by how many workers there are, one after the
-- other, each once.
abbrev pub OwnJobs : (count worker : ℕ) → List Job → List JobEnd → List Ask → Type 0
OwnJobs count worker [] [] all = all ≡ []
OwnJobs count worker (job ∷ jobs) (end ∷ ended) all = MatchBool (job.number % count == worker)
    ((mine : List Ask) × (rest : List Ask) × (all ≡ mine ++ rest) × IsJob job end mine × OwnJobs count worker jobs ended rest)
    (OwnJobs count worker jobs ended all)
OwnJobs count worker jobs ended all = ⊥

-- All jobs have ended, so; each caller has asked for the steps of its own, and for no others.
pub record AllEnded {S : Type 0} (asks : Asks S) (jobs : List Job) (ended : List JobEnd) (old new : List S) : Type 0 where
  pub many : length new ≡ length old
  pub ends : length ended ≡ length jobs
  pub own : (worker : ℕ) (d : S) → worker < length old
      → AskedFrom asks (slice_index_or old worker d) (OwnJobs (length old) worker jobs ended) (slice_index_or new worker d)
