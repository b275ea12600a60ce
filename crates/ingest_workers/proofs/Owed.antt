-- What a worker asks for it owes.
use Rattle.std.proofs.Common.{◌≡◌, ◌⊎◌, inl, inr, ◌%◌, ◌==◌, ℕ, zero, suc, Bool, true, false, List, [], ◌∷◌, ◌++◌, Some, Ok, Err, refl, sym, ap, ◌∙◌, subst, arith, append_assoc, append-nil, MatchBool, eqb-true, eq-eqb, if◌then◌else◌}
use Rattle.std.specs.List.{Contains}
use Rattle.disk_format.specs.Cells.{Root}
use Rattle.refusals.specs.declared.refusal.Refusal.{Refusal}
use Rattle.actor_parts.specs.Asking.{Ask}
use Rattle.actor_parts.specs.StepValue as asked
use Rattle.actor_parts.specs.StepValue.{StepValue}
use Rattle.load_stream.specs.Load.{LoadState}
use Rattle.ingest_session.specs.declared.due.Due.{Due}
use Rattle.ingest_session.specs.declared.due.Due.TheVariants as dues
use Rattle.ingest_session.specs.Calls.{ready_in}
use Rattle.ingest_session.specs.Due.{due_in}
use Rattle.ingest_session.specs.History.{History}
use Rattle.ingest_session.specs.State.{SessionState}
use Rattle.ingest_session.specs.Told.{IsSettled}
use Rattle.session_turns.specs.Owning.{IsAskedFor}
use Rattle.ingest_workers.specs.declared.job.Job.{Job}
use Rattle.ingest_workers.specs.declared.job.JobEnd.{JobEnd}
use Rattle.ingest_workers.specs.declared.job.JobEnd.TheVariants as ends
use Rattle.ingest_workers.specs.Giving.{Begun, ByCommit, BySession, ByTurn, Given, GivenUp, Gives, More, Nothing, Reads, SessionOf, Stops, Stores, Takes, TakesAll, Turned, Unbegun, Unclosed, Unended, Unopened, Unread, Unstored, Untaken}
use Rattle.ingest_workers.specs.Jobs.{IsJob, NoTemp, NoWork, NotDeleted, NotRead, OwnJobs, file_of, temp_name, work_name}
use Rattle.ingest_workers.specs.Owing.{AreOwed, IsDueOf, IsGiving, IsOwed, JobsAreOwed, own_files}

abbrev IsNameOf : LoadState → List ℕ → Type 0
IsNameOf file name = (name ≡ temp_name file.file) ⊎ (name ≡ work_name file.file)

module _ (own : List LoadState) where
  append : (before xs ys : List Ask) → AreOwed own before xs → AreOwed own (before ++ xs) ys → AreOwed own before (xs ++ ys)
  append before [] ys first more = subst (λ (l : List Ask). AreOwed own l ys) (append-nil before) more
  append before (x ∷ xs) ys first more =
      (first.0, append (before ++ x ∷ []) xs ys first.1 (subst (λ (l : List Ask). AreOwed own l ys) (sym (append_assoc before (x ∷ []) xs)) more))

  as_asked : (before : List Ask) (a : Ask) (step : StepValue) → a.step ≡ step → IsOwed own before step → IsOwed own before a.step
  as_asked before a step is owed = subst (IsOwed own before) (sym is) owed

  -- ---- a file

  module _ (file : LoadState) (is_file : Contains own file) where
    due_owed : (before : List Ask) (s : SessionState) (h : History) (step : StepValue) → IsGiving file before s h → IsSettled s → IsAskedFor (due_in s) s step
        → IsOwed own before step
    due_owed before s h step giving settled asks =
        by_due (due_in s) step asks (record { file = file; is_file = is_file; session = s; history = h; giving = giving; settled = settled; due = asks })
      where
        by_due : (due : Due) (step : StepValue) → IsAskedFor due s step → IsDueOf own before step → IsOwed own before step
        by_due dues.Claim (asked.Claim seg) asks is = is
        by_due (dues.Seal kind) (asked.Seal offered) asks is = is
        by_due due step asks is = absurd asks

    giving_of : (before all : List Ask) (s : SessionState) (h : History) → Gives file all h → SessionOf file s h → IsGiving file (before ++ all) s h
    giving_of before all s h gives of = record { earlier = before; gave = all; before_is = refl; gives = gives; of_file = of }

    gives_owed : (all : List Ask) (h : History) → Gives file all h → (before : List Ask) → AreOwed own before all
    gives_owed all h (Begun a step done) before = (as_asked before a asked.Begin step tt, tt)
    gives_owed all h (Given rest g k gives untold) before = gives_owed rest g gives before
    gives_owed all h (Turned rest a x g answer gives of settled due done) before =
        append before rest (a ∷ []) (gives_owed rest g gives before) (due_owed (before ++ rest) x g a.step (giving_of before rest x g gives of) settled due, tt)

    commit_owed : (before all : List Ask) (a : Ask) (s : SessionState) (h : History) (name : List ℕ) (root : Root) → IsNameOf file name → Gives file all h → SessionOf file s h
        → ready_in s ≡ Some root → a.step ≡ asked.Commit name root → IsOwed own (before ++ all) a.step
    commit_owed before all a s h name root named gives of ready step =
        as_asked (before ++ all) a (asked.Commit name root) step
        (record { file = file; is_file = is_file; session = s; history = h; giving = giving_of before all s h gives of; ready = ready; named = named })

    stores_owed : (name : List ℕ) (root : Root) (all : List Ask) → IsNameOf file name → Stores file name root all → (before : List Ask) → AreOwed own before all
    stores_owed name root all named stores before =
        subst (AreOwed own before) (sym stores.all_is)
        (append before stores.gave (stores.commit ∷ []) (gives_owed stores.gave stores.history stores.gives before)
        (commit_owed before stores.gave stores.commit stores.session stores.history name root named stores.gives stores.of_file stores.ready stores.step_is, tt))

    stops_owed : (name : List ℕ) (refusal : Refusal) (all : List Ask) → IsNameOf file name → Stops file name refusal all → (before : List Ask) → AreOwed own before all
    stops_owed name refusal all named (BySession rest s h gives of why) before = gives_owed rest h gives before
    stops_owed name refusal all named (ByTurn rest a x h gives of settled due refused) before =
        append before rest (a ∷ []) (gives_owed rest h gives before) (due_owed (before ++ rest) x h a.step (giving_of before rest x h gives of) settled due, tt)
    stops_owed name refusal all named (ByCommit rest a s h root gives of ready step refused) before =
        append before rest (a ∷ []) (gives_owed rest h gives before) (commit_owed before rest a s h name root named gives of ready step, tt)

    unstored_owed : (name : List ℕ) (refusal : Refusal) (all : List Ask) → IsNameOf file name → Unstored file name refusal all → (before : List Ask) → AreOwed own before all
    unstored_owed name refusal all named (Untaken why) before = tt
    unstored_owed name refusal all named (Unbegun a step refused) before = (as_asked before a asked.Begin step tt, tt)
    unstored_owed name refusal all named (GivenUp rest a stops step) before =
        append before rest (a ∷ []) (stops_owed name refusal rest named stops before) (as_asked (before ++ rest) a asked.Abort step tt, tt)

  -- ---- reading

  takes_owed : (all : List Ask) → Takes all → (before : List Ask) → AreOwed own before all
  takes_owed all Nothing before = tt
  takes_owed all (More rest a count takes step answer) before =
      append before rest (a ∷ []) (takes_owed rest takes before) (as_asked (before ++ rest) a asked.ReadNext step tt, tt)

  takes_all_owed : (result : _) (all : List Ask) → TakesAll result all → (before : List Ask) → AreOwed own before all
  takes_all_owed result all takes before =
      subst (AreOwed own before) (sym takes.all_is)
      (append before takes.taken (takes.last ∷ []) (takes_owed takes.taken takes.takes before) (as_asked (before ++ takes.taken) takes.last asked.ReadNext takes.step_is tt, tt))

  opened_owed : (name : List ℕ) (opening closing : Ask) (result : _) (taken : List Ask) → opening.step ≡ asked.OpenRead name → TakesAll result taken → closing.step ≡ asked.EndRead
      → (before : List Ask) → AreOwed own before (opening ∷ (taken ++ closing ∷ []))
  opened_owed name opening closing result taken opens takes closes before = (
    as_asked before opening (asked.OpenRead name) opens tt,
    append (before ++ opening ∷ []) taken (closing ∷ []) (takes_all_owed result taken takes (before ++ opening ∷ []))
        (as_asked ((before ++ opening ∷ []) ++ taken) closing asked.EndRead closes tt, tt),
  )

  reads_owed : (name : List ℕ) (all : List Ask) → Reads name all → (before : List Ask) → AreOwed own before all
  reads_owed name all reads before =
      subst (AreOwed own before) (sym reads.all_is) (opened_owed name reads.opening reads.closing (Ok tt) reads.taken reads.opening_is reads.takes reads.closing_is before)

  unread_owed : (name : List ℕ) (refusal : Refusal) (all : List Ask) → Unread name refusal all → (before : List Ask) → AreOwed own before all
  unread_owed name refusal all (Unopened a step refused) before = (as_asked before a (asked.OpenRead name) step tt, tt)
  unread_owed name refusal all (Unended opening taken closing opens done takes closes) before = opened_owed name opening closing (Err refusal) taken opens takes closes before
  unread_owed name refusal all (Unclosed opening taken closing opens done takes closes refused) before = opened_owed name opening closing (Ok tt) taken opens takes closes before

  -- ---- jobs

  module _ (job : Job) (is_file : Contains own (file_of job)) where
    temp_named : IsNameOf (file_of job) (temp_name job.number)
    temp_named = inl refl

    work_named : IsNameOf (file_of job) (work_name job.number)
    work_named = inr refl

    delete_owed : (before : List Ask) (a : Ask) → a.step ≡ asked.Delete (temp_name job.number) → IsOwed own before a.step
    delete_owed before a step = as_asked before a (asked.Delete (temp_name job.number)) step (file_of job, (is_file, refl))

    both_owed : (before temp work : List Ask) (first root : Root) → Stores (file_of job) (temp_name job.number) first temp → Stores (file_of job) (work_name job.number) root work
        → (rest : List Ask) → ((sofar : List Ask) → AreOwed own sofar rest) → AreOwed own before (temp ++ (work ++ rest))
    both_owed before temp work first root one other rest more =
        append before temp (work ++ rest) (stores_owed (file_of job) is_file (temp_name job.number) first temp temp_named one before)
        (append (before ++ temp) work rest (stores_owed (file_of job) is_file (work_name job.number) root work work_named other (before ++ temp))
        (more ((before ++ temp) ++ work)))

    job_owed : (end : JobEnd) (all : List Ask) → IsJob job end all → (before : List Ask) → AreOwed own before all
    job_owed (ends.Stored root) all does before =
        subst (AreOwed own before) (sym does.all_is)
        (both_owed before does.temp does.work does.first root does.temp_stored does.work_stored (does.delete ∷ does.read)
        (λ sofar. (delete_owed sofar does.delete does.step_is, reads_owed (work_name job.number) does.read does.was_read (sofar ++ does.delete ∷ []))))
    job_owed (ends.Refused refusal) all (NoTemp temp unstored) before = unstored_owed (file_of job) is_file (temp_name job.number) refusal temp temp_named unstored before
    job_owed (ends.Refused refusal) all (NoWork temp work first stores unstored) before =
        append before temp work (stores_owed (file_of job) is_file (temp_name job.number) first temp temp_named stores before)
        (unstored_owed (file_of job) is_file (work_name job.number) refusal work work_named unstored (before ++ temp))
    job_owed (ends.Refused refusal) all (NotDeleted temp work first root delete one other step refused) before =
        both_owed before temp work first root one other (delete ∷ []) (λ sofar. (delete_owed sofar delete step, tt))
    job_owed (ends.Refused refusal) all (NotRead temp work first root delete read one other step done unread) before =
        both_owed before temp work first root one other (delete ∷ read)
        (λ sofar. (delete_owed sofar delete step, unread_owed (work_name job.number) refusal read unread (sofar ++ delete ∷ [])))

  -- what those that are one's own ask for
  jobs_by : (mine : Bool) (count worker : ℕ) (job : Job) (end : JobEnd) (jobs : List Job) (ended : List JobEnd) (all : List Ask) → (mine ≡ true → Contains own (file_of job))
      → ((rest : List Ask) → OwnJobs count worker jobs ended rest → (before : List Ask) → AreOwed own before rest)
      → MatchBool mine ((mine : List Ask) × (rest : List Ask) × (all ≡ mine ++ rest) × IsJob job end mine × OwnJobs count worker jobs ended rest)
      (OwnJobs count worker jobs ended all)
      → (before : List Ask) → AreOwed own before all
  jobs_by true count worker job end jobs ended all is_file others does before =
      subst (AreOwed own before) (sym does.2) (append before does.0 does.1 (job_owed job (is_file refl) end does.0 does.3 before) (others does.1 does.4 (before ++ does.0)))
  jobs_by false count worker job end jobs ended all is_file others does before = others all does before

  jobs_owed : (count worker : ℕ) (jobs : List Job) (ended : List JobEnd) (all : List Ask)
      → ((job : Job) → Contains jobs job → job.number % count ≡ worker → Contains own (file_of job)) → OwnJobs count worker jobs ended all
      → (before : List Ask) → AreOwed own before all
  jobs_owed count worker [] [] all each does before = subst (AreOwed own before) (sym does) tt
  jobs_owed count worker [] (end ∷ ended) all each does before = absurd does
  jobs_owed count worker (job ∷ jobs) [] all each does before = absurd does
  jobs_owed count worker (job ∷ jobs) (end ∷ ended) all each does before =
      jobs_by (job.number % count == worker) count worker job end jobs ended all (λ mine. each job (first_there job jobs) (eqb-true (job.number % count) worker mine))
      (λ rest is sofar. jobs_owed count worker jobs ended rest (λ other there mine. each other (later_there job other jobs there) mine) is sofar) does before
    where
      first_there : (job : Job) (jobs : List Job) → Contains (job ∷ jobs) job
      first_there job jobs = (0, omega arith, refl)

      later_there : (job other : Job) (jobs : List Job) → Contains jobs other → Contains (job ∷ jobs) other
      later_there job other jobs (i, within, is) = (suc i, omega (arith, within), is)

own_first : (mine : Bool) (job : Job) (rest : List LoadState) → mine ≡ true → Contains (if mine then file_of job ∷ rest else rest) (file_of job)
own_first true job rest is = (0, omega arith, refl)
own_first false job rest is = absurd (cc)

own_later : (mine : Bool) (job : Job) (rest : List LoadState) (file : LoadState) → Contains rest file → Contains (if mine then file_of job ∷ rest else rest) file
own_later true job rest file (i, within, is) = (suc i, omega (arith, within), is)
own_later false job rest file there = there

pub own_there : (count worker : ℕ) (jobs : List Job) (job : Job) → Contains jobs job → job.number % count ≡ worker → Contains (own_files count worker jobs) (file_of job)
own_there count worker [] job (i, within, is) mine = absurd (omega (arith, within))
own_there count worker (j ∷ jobs) job (zero, within, is) mine =
    let same : j ≡ job = is in
    subst (λ (k : Job). Contains (own_files count worker (j ∷ jobs)) (file_of k)) same
    (own_first (j.number % count == worker) j (own_files count worker jobs) (eq-eqb (j.number % count) worker (ap (λ (k : Job). k.number % count) same ∙ mine)))
own_there count worker (j ∷ jobs) job (suc i, within, is) mine =
    own_later (j.number % count == worker) j (own_files count worker jobs) (file_of job) (own_there count worker jobs job (i, omega (arith, within), is) mine)

pub jobs_are_owed : JobsAreOwed
jobs_are_owed count worker jobs ended before all does =
    jobs_owed (own_files count worker jobs) count worker jobs ended all (λ job there mine. own_there count worker jobs job there mine) does before
