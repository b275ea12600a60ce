-- Which names have files, as jobs are done beside one another (docs/MODEL.md, 'Workers').
use Rattle.std.specs.Prelude.{◌≡◌, ◌≢◌, ◌⊎◌, ◌<◌, ◌≤◌, ◌^◌, ℕ, zero, suc, List, [], ◌∷◌, Some, None}
use Rattle.std.specs.FinMap as finite
use Rattle.std.specs.List.{AllByRecursion, Contains}
use Rattle.load_stream.specs.Load.{LoadState}
use Rattle.store_model.specs.Files.{Files, Stored}
use Rattle.store_core.specs.Runs.{FileEvent, events_of, stored_after}
use Rattle.store_core.specs.State.{Event}
use Rattle.ingest_workers.specs.declared.job.Job.{Job}
use Rattle.ingest_workers.specs.declared.job.JobEnd.{JobEnd}
use Rattle.ingest_workers.specs.declared.job.JobEnd.TheVariants as ends
use Rattle.ingest_workers.specs.Ingesting.{asks_of}
use Rattle.ingest_workers.specs.Jobs.{OwnJobs, file_of, temp_name, work_name}
use Rattle.ingest_workers.specs.Owing.{IsOfStream, own_files, stream_of}

-- The first of so many workers is the actor 1, and so on; no other actor has files.
abbrev pub own_by : (count : ℕ) → List Job → ℕ → List LoadState
own_by count jobs zero = []
own_by count jobs (suc worker) = own_files count worker jobs

-- each step is of a file of its actor
abbrev pub AreOfStreams : (ℕ → List LoadState) → List FileEvent → Type 0
AreOfStreams own fs = AllByRecursion (λ f. IsOfStream (own f.event.actor) f.event.step f.bytes) fs

-- ---- at any moment

-- a name that has a file is one of the two of some actor's file, and has all of its bytes
abbrev pub HasStreams : (ℕ → List LoadState) → Files → Type 0
HasStreams own files = (name bytes : List ℕ) → finite.get files name ≡ Some bytes → (actor : ℕ) × (file : LoadState)
    × Contains (own actor) file × (bytes ≡ stream_of file) × ((name ≡ temp_name file.file) ⊎ (name ≡ work_name file.file))

-- so it stays, step by step
abbrev pub StreamsStay : Type 0
StreamsStay = (own : ℕ → List LoadState) (fs : List FileEvent) (stored : Stored) → AreOfStreams own fs → HasStreams own stored.files
    → HasStreams own (stored_after fs stored).files

-- ---- where all jobs are done

-- no two have one number
abbrev pub HaveNumbers : List Job → Type 0
HaveNumbers [] = Unit {0}
HaveNumbers (job ∷ jobs) = (job.number < 2 ^ 64) × AllByRecursion (λ j. j.number ≢ job.number) jobs × HaveNumbers jobs

-- all are stored
abbrev pub AreStored : List JobEnd → Type 0
AreStored [] = Unit {0}
AreStored (ends.Stored root ∷ ended) = AreStored ended
AreStored (ends.Refused refusal ∷ ended) = ⊥

-- each worker has asked for just the steps of its own jobs, which ended so
abbrev pub AreDoneBy : (count : ℕ) → List Job → List JobEnd → List Event → Type 0
AreDoneBy count jobs ended es = (worker : ℕ) → worker < count → OwnJobs count worker jobs ended (asks_of (suc worker) es)

-- Each job's second name has its file, and the first has none.
abbrev pub HasName : Files → Job → Type 0
HasName files job = (finite.get files (work_name job.number) ≡ Some (stream_of (file_of job)))
    × (finite.get files (temp_name job.number) ≡ None)

-- So it is at the end of steps that are of the jobs' files, by the workers or by others.
abbrev pub JobsHaveNames : Type 0
JobsHaveNames = (count : ℕ) (jobs : List Job) (ended : List JobEnd) (fs : List FileEvent) (stored : Stored) → 1 ≤ count
    → AreOfStreams (own_by count jobs) fs → AreDoneBy count jobs ended (events_of fs) → HaveNumbers jobs → AreStored ended
    → (job : Job) → Contains jobs job → HasName (stored_after fs stored).files job
