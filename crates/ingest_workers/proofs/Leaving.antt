-- A worker leaves its actor idle, unless the store is stopped.
use Rattle.std.proofs.Common.{◌≡◌, ◌≢◌, ◌⊎◌, inl, inr, ◌<◌, ◌%◌, ◌==◌, if◌then◌else◌, ℕ, Bool, true, false, List, [], ◌∷◌, ◌++◌, length, Option, Some, None, Result, Ok, Err, refl, sym, ap, ◌∙◌, subst, eq-eqb, ne_eqb, MatchBool}
use mathlib.Core.Logic.{dite}
use native.Mathlib.Decide.{ℕ_discrete}
use Rattle.actor_parts.specs.declared.part.Part.{Part}
use Rattle.actor_parts.specs.declared.step.Answer.{Answer}
use Rattle.actor_parts.specs.Asking.{Ask}
use Rattle.actor_parts.specs.Kinds.{kind_of}
use Rattle.actor_parts.specs.Parts.{part_of}
use Rattle.actor_parts.specs.StepValue as asked
use Rattle.actor_parts.specs.StepValue.{StepValue}
use Rattle.load_stream.specs.Load.{LoadState}
use Rattle.refusals.specs.declared.refusal.PartKind.{PartKind}
use Rattle.refusals.specs.declared.refusal.PartKind.TheVariants as kinds
use Rattle.refusals.specs.declared.refusal.Refusal.{Refusal}
use Rattle.refusals.specs.declared.refusal.Refusal.TheVariants as refusals
use Rattle.ingest_session.specs.declared.due.Due.{Due}
use Rattle.ingest_session.specs.declared.due.Due.TheVariants as dues
use Rattle.ingest_session.specs.Due.{due_in}
use Rattle.ingest_session.specs.History.{History}
use Rattle.ingest_session.specs.State.{SessionState}
use Rattle.disk_format.specs.Cells.{Root}
use Rattle.store_core.specs.declared.stop.Stop.{Stop}
use Rattle.store_core.specs.Core.{CoreStep, StepsOr}
use Rattle.store_core.specs.Runs.{CoreRun}
use Rattle.store_core.specs.State.{CoreState, Event}
use Rattle.store_core.proofs.Stepping.{length_on, row_one}
use Rattle.session_turns.specs.Kinds.{given_up_by, kind_after, kind_at}
use Rattle.session_turns.specs.Owning.{IsAskedFor}
use Rattle.session_turns.proofs.KindsFollow.{all_others_stay, giving_up_is_done, kinds_follow}
use Rattle.ingest_workers.specs.declared.job.Job.{Job}
use Rattle.ingest_workers.specs.declared.job.JobEnd.{JobEnd}
use Rattle.ingest_workers.specs.declared.job.JobEnd.TheVariants as ends
use Rattle.ingest_workers.specs.Giving.{Begun, ByCommit, BySession, ByTurn, Given, GivenUp, Gives, IsDone, More, Nothing, Reads, Stops, Stores, Takes, TakesAll, Turned, Unbegun, Unclosed, Unended, Unopened, Unread, Unstored, Untaken}
use Rattle.ingest_workers.specs.Ingesting.{ask_of, asks_of}
use Rattle.ingest_workers.specs.Jobs.{IsJob, NoTemp, NoWork, NotDeleted, NotRead, OwnJobs, file_of, temp_name, work_name}
use Rattle.ingest_workers.specs.Leaving.{AnswersAsItRuns, IsStopped, LastIsStopped, WorkersLeave}

-- ---- what an actor is at, along what it asked for

-- what a step gives up was there, so it is done
abbrev IsLetGo : PartKind → Ask → Type 0
IsLetGo kind a = given_up_by a.step ≡ Some kind → (answer : Answer) × (a.answer ≡ Ok answer)

abbrev Went : PartKind → List Ask → PartKind → Type 0
Went kind [] after = after ≡ kind
Went kind (a ∷ rest) after = IsLetGo kind a × Went (kind_after a.step a.answer kind) rest after

abbrev AllStopped : List Ask → Type 0
AllStopped [] = Unit {0}
AllStopped (a ∷ rest) = IsStopped a × AllStopped rest

went_parts : (kind : PartKind) (xs ys : List Ask) (after : PartKind) → Went kind (xs ++ ys) after → (mid : PartKind) × (Went kind xs mid × Went mid ys after)
went_parts kind [] ys after went = (kind, (refl, went))
went_parts kind (x ∷ xs) ys after went =
    let rest = went_parts (kind_after x.step x.answer kind) xs ys after went.1 in (rest.0, ((went.0, rest.1.0), rest.1.1))

last_stopped : (a : Ask) (rest : List Ask) → IsStopped a → AllStopped rest → LastIsStopped (a ∷ rest)
last_stopped a [] stopped all = record { before = []; last = a; all_is = refl; stopped = stopped }
last_stopped a (b ∷ rest) stopped all =
    let later = last_stopped b rest all.0 all.1 in
    record { before = a ∷ later.before; last = later.last; all_is = ap (λ (l : List Ask). a ∷ l) later.all_is; stopped = later.stopped }

last_later : (a : Ask) (rest : List Ask) → LastIsStopped rest → LastIsStopped (a ∷ rest)
last_later a rest last = record { before = a ∷ last.before; last = last.last; all_is = ap (λ (l : List Ask). a ∷ l) last.all_is; stopped = last.stopped }

-- ---- one step

module _ (a : Ask) (kind after : PartKind) (went : Went kind (a ∷ []) after) where
  by_step : (step : StepValue) → a.step ≡ step → (result : Result Answer Refusal) → a.answer ≡ result → after ≡ kind_after step result kind
  by_step step is result told = went.1 ∙ ap (λ (s : StepValue). kind_after s a.answer kind) is ∙ ap (λ (r : Result Answer Refusal). kind_after step r kind) told

  -- it changes nothing, whatever is answered
  stays : (step : StepValue) → a.step ≡ step → ((result : Result Answer Refusal) → kind_after step result kind ≡ kind) → after ≡ kind
  stays step is each = by_step step is a.answer refl ∙ each a.answer

  let_go : (step : StepValue) → a.step ≡ step → given_up_by step ≡ Some kind → ((answer : Answer) → kind_after step (Ok answer) kind ≡ kinds.Idle) → after ≡ kinds.Idle
  let_go step is gives each =
      let done = went.0 (ap given_up_by is ∙ gives) in
      by_step step is (Ok done.0) done.1 ∙ each done.0

two : (kind mid after : PartKind) (xs : List Ask) (a : Ask) → Went kind (xs ++ a ∷ []) after → ((m : PartKind) → Went kind xs m → m ≡ mid) → Went mid (a ∷ []) after
two kind mid after xs a went first =
    let parts = went_parts kind xs (a ∷ []) after went in
    subst (λ (m : PartKind). Went m (a ∷ []) after) (first parts.0 parts.1.0) parts.1.1

-- ---- a file that is stored

due_stays : (due : Due) (s : SessionState) (step : StepValue) (kind : PartKind) → IsAskedFor due s step → (result : Result Answer Refusal) → kind_after step result kind ≡ kind
due_stays dues.Claim s (asked.Claim seg) kind asks result = refl
due_stays (dues.Seal k) s (asked.Seal offered) kind asks result = refl
due_stays due s step kind asks result = absurd asks

refused_stays : (step : StepValue) (refusal : Refusal) (kind : PartKind) → kind_after step (Err refusal) kind ≡ kind
refused_stays asked.Begin refusal kind = refl
refused_stays other refusal kind = refl

gives_writing : (file : LoadState) (all : List Ask) (h : History) → Gives file all h → (after : PartKind) → Went kinds.Idle all after → after ≡ kinds.Writing
gives_writing file all h (Begun a step done) after went = by_step a kinds.Idle after went asked.Begin step (Ok done.0) done.1
gives_writing file all h (Given rest g k gives untold) after went = gives_writing file rest g gives after went
gives_writing file all h (Turned rest a x g answer gives of settled due told) after went =
    stays a kinds.Writing after (two kinds.Idle kinds.Writing after rest a went (gives_writing file rest g gives)) a.step refl (due_stays (due_in x) x a.step kinds.Writing due)

stores_idle : (file : LoadState) (name : List ℕ) (root : Root) (all : List Ask) → Stores file name root all → (after : PartKind) → Went kinds.Idle all after → after ≡ kinds.Idle
stores_idle file name root all stores after went =
    by_step stores.commit kinds.Writing after
    (two kinds.Idle kinds.Writing after stores.gave stores.commit (subst (λ (l : List Ask). Went kinds.Idle l after) stores.all_is went)
    (gives_writing file stores.gave stores.history stores.gives))
    (asked.Commit name root) stores.step_is (Ok stores.done.0) stores.done.1

stops_writing : (file : LoadState) (name : List ℕ) (refusal : Refusal) (all : List Ask) → Stops file name refusal all → (after : PartKind) → Went kinds.Idle all after
    → after ≡ kinds.Writing
stops_writing file name refusal all (BySession rest s h gives of why) after went = gives_writing file rest h gives after went
stops_writing file name refusal all (ByTurn rest a x h gives of settled due refused) after went =
    stays a kinds.Writing after (two kinds.Idle kinds.Writing after rest a went (gives_writing file rest h gives)) a.step refl (due_stays (due_in x) x a.step kinds.Writing due)
stops_writing file name refusal all (ByCommit rest a s h root gives of ready step refused) after went =
    by_step a kinds.Writing after (two kinds.Idle kinds.Writing after rest a went (gives_writing file rest h gives)) (asked.Commit name root) step (Err refusal) refused

unstored_idle : (file : LoadState) (name : List ℕ) (refusal : Refusal) (all : List Ask) → Unstored file name refusal all → (after : PartKind) → Went kinds.Idle all after
    → after ≡ kinds.Idle
unstored_idle file name refusal all (Untaken why) after went = went
unstored_idle file name refusal all (Unbegun a step refused) after went = by_step a kinds.Idle after went asked.Begin step (Err refusal) refused
unstored_idle file name refusal all (GivenUp rest a stops step) after went =
    let_go a kinds.Writing after (two kinds.Idle kinds.Writing after rest a went (stops_writing file name refusal rest stops)) asked.Abort step refl (λ answer. refl)

-- ---- a file that is read

takes_stay : (kind : PartKind) (all : List Ask) → Takes all → (after : PartKind) → Went kind all after → after ≡ kind
takes_stay kind all Nothing after went = went
takes_stay kind all (More rest a count takes step answer) after went =
    stays a kind after (two kind kind after rest a went (takes_stay kind rest takes)) asked.ReadNext step (λ result. refl)

takes_all_stay : (kind : PartKind) (result : _) (all : List Ask) → TakesAll result all → (after : PartKind) → Went kind all after → after ≡ kind
takes_all_stay kind result all takes after went =
    stays takes.last kind after
    (two kind kind after takes.taken takes.last (subst (λ (l : List Ask). Went kind l after) takes.all_is went) (takes_stay kind takes.taken takes.takes))
    asked.ReadNext takes.step_is (λ result. refl)

opened_idle : (name : List ℕ) (opening closing : Ask) (result : _) (taken : List Ask) → opening.step ≡ asked.OpenRead name → IsDone opening → TakesAll result taken
    → closing.step ≡ asked.EndRead → (after : PartKind) → Went kinds.Idle (opening ∷ (taken ++ closing ∷ [])) after → after ≡ kinds.Idle
opened_idle name opening closing result taken opens done takes closes after went =
    let reading : kind_after opening.step opening.answer kinds.Idle ≡ kinds.Reading =
    ap (λ (s : StepValue). kind_after s opening.answer kinds.Idle) opens ∙ ap (λ (r : Result Answer Refusal). kind_after (asked.OpenRead name) r kinds.Idle) done.1 in
    let rest : Went kinds.Reading (taken ++ closing ∷ []) after = subst (λ (k : PartKind). Went k (taken ++ closing ∷ []) after) reading went.1 in
    let_go closing kinds.Reading after (two kinds.Reading kinds.Reading after taken closing rest (takes_all_stay kinds.Reading result taken takes)) asked.EndRead closes refl
    (λ answer. refl)

reads_idle : (name : List ℕ) (all : List Ask) → Reads name all → (after : PartKind) → Went kinds.Idle all after → after ≡ kinds.Idle
reads_idle name all reads after went =
    opened_idle name reads.opening reads.closing (Ok tt) reads.taken reads.opening_is reads.opened reads.takes reads.closing_is after
    (subst (λ (l : List Ask). Went kinds.Idle l after) reads.all_is went)

unread_idle : (name : List ℕ) (refusal : Refusal) (all : List Ask) → Unread name refusal all → (after : PartKind) → Went kinds.Idle all after → after ≡ kinds.Idle
unread_idle name refusal all (Unopened a step refused) after went = by_step a kinds.Idle after went (asked.OpenRead name) step (Err refusal) refused
unread_idle name refusal all (Unended opening taken closing opens done takes closes) after went =
    opened_idle name opening closing (Err refusal) taken opens done takes closes after went
unread_idle name refusal all (Unclosed opening taken closing opens done takes closes refused) after went =
    opened_idle name opening closing (Ok tt) taken opens done takes closes after went

-- ---- jobs

abbrev IsLeft : List Ask → Type 0
IsLeft all = (after : PartKind) → Went kinds.Idle all after → after ≡ kinds.Idle

left_both : (xs ys : List Ask) → IsLeft xs → IsLeft ys → IsLeft (xs ++ ys)
left_both xs ys one other after went =
    let parts = went_parts kinds.Idle xs ys after went in
    other after (subst (λ (k : PartKind). Went k ys after) (one parts.0 parts.1.0) parts.1.1)

left_as : (all other : List Ask) → all ≡ other → IsLeft other → IsLeft all
left_as all other is left = subst IsLeft (sym is) left

delete_left : (a : Ask) (name : List ℕ) → a.step ≡ asked.Delete name → IsLeft (a ∷ [])
delete_left a name step after went = stays a kinds.Idle after went (asked.Delete name) step (λ result. refl)

job_left : (job : Job) (end : JobEnd) (all : List Ask) → IsJob job end all → IsLeft all
job_left job (ends.Stored root) all does =
    left_as all (does.temp ++ (does.work ++ (does.delete ∷ does.read))) does.all_is
    (left_both does.temp (does.work ++ (does.delete ∷ does.read)) (stores_idle (file_of job) (temp_name job.number) does.first does.temp does.temp_stored)
    (left_both does.work (does.delete ∷ does.read) (stores_idle (file_of job) (work_name job.number) root does.work does.work_stored)
    (left_both (does.delete ∷ []) does.read (delete_left does.delete (temp_name job.number) does.step_is) (reads_idle (work_name job.number) does.read does.was_read))))
job_left job (ends.Refused refusal) all (NoTemp temp unstored) = unstored_idle (file_of job) (temp_name job.number) refusal temp unstored
job_left job (ends.Refused refusal) all (NoWork temp work first stores unstored) =
    left_both temp work (stores_idle (file_of job) (temp_name job.number) first temp stores) (unstored_idle (file_of job) (work_name job.number) refusal work unstored)
job_left job (ends.Refused refusal) all (NotDeleted temp work first root delete one other step refused) =
    left_both temp (work ++ (delete ∷ [])) (stores_idle (file_of job) (temp_name job.number) first temp one)
    (left_both work (delete ∷ []) (stores_idle (file_of job) (work_name job.number) root work other) (delete_left delete (temp_name job.number) step))
job_left job (ends.Refused refusal) all (NotRead temp work first root delete read one other step done unread) =
    left_both temp (work ++ (delete ∷ read)) (stores_idle (file_of job) (temp_name job.number) first temp one)
    (left_both work (delete ∷ read) (stores_idle (file_of job) (work_name job.number) root work other)
    (left_both (delete ∷ []) read (delete_left delete (temp_name job.number) step) (unread_idle (work_name job.number) refusal read unread)))

jobs_by : (mine : Bool) (count worker : ℕ) (job : Job) (end : JobEnd) (jobs : List Job) (ended : List JobEnd) (all : List Ask)
    → ((rest : List Ask) → OwnJobs count worker jobs ended rest → IsLeft rest)
    → MatchBool mine ((own : List Ask) × (rest : List Ask) × (all ≡ own ++ rest) × IsJob job end own × OwnJobs count worker jobs ended rest)
    (OwnJobs count worker jobs ended all) → IsLeft all
jobs_by true count worker job end jobs ended all others does =
    left_as all (does.0 ++ does.1) does.2 (left_both does.0 does.1 (job_left job end does.0 does.3) (others does.1 does.4))
jobs_by false count worker job end jobs ended all others does = others all does

jobs_left : (count worker : ℕ) (jobs : List Job) (ended : List JobEnd) (all : List Ask) → OwnJobs count worker jobs ended all → IsLeft all
jobs_left count worker [] [] all does = left_as all [] does (λ after went. went)
jobs_left count worker [] (end ∷ ended) all does = absurd does
jobs_left count worker (job ∷ jobs) [] all does = absurd does
jobs_left count worker (job ∷ jobs) (end ∷ ended) all does =
    jobs_by (job.number % count == worker) count worker job end jobs ended all (jobs_left count worker jobs ended) does

-- ---- along a run

stopped_or : (result : Result Answer Refusal) → ((at : ℕ) × (result ≡ Err (refusals.Stopped at))) ⊎ ((at : ℕ) → result ≢ Err (refusals.Stopped at))
stopped_or (Err (refusals.Stopped at)) = inl (at, refl)
stopped_or (Ok answer) = inr (λ at is. absurd cc)
stopped_or (Err refusal) = inr (λ at is. absurd cc)

done_or : (result : Result Answer Refusal) → ((answer : Answer) × (result ≡ Ok answer)) ⊎ ((refusal : Refusal) × (result ≡ Err refusal))
done_or (Ok answer) = inl (answer, refl)
done_or (Err refusal) = inr (refusal, refl)

module _ (C : Type 0) (state : C → CoreState) (actor : ℕ) where
  abbrev kind : C → PartKind
  kind c = kind_at C state c actor

  same_stop : (stop : Stop) (e : Event) (old new : CoreState) (held : Option Stop) → held ≡ Some stop → StepsOr held e old new
      → (e.answer ≡ Err (refusals.Stopped stop.at)) × (new.stop ≡ old.stop) × (new.parts ≡ old.parts)
  same_stop stop e old new None is step = absurd (let wrong : ◌≡◌ {A = Option Stop} None (Some stop) = is in cc)
  same_stop stop e old new (Some other) is step =
      let same : other ≡ stop = cc in
      (step.answer_is ∙ ap (λ (s : Stop). Err (refusals.Stopped s.at)) same, step.same.stop_is, step.same.parts_are)

  first_of : (mine : Bool) (a : Ask) (rest : List Ask) → IsStopped a → AllStopped rest → AllStopped (if mine then a ∷ rest else rest)
  first_of true a rest one all = (one, all)
  first_of false a rest one all = all

  -- a core that is stopped answers all so
  stopped_run : (stop : Stop) (es : List Event) (old new : C) → CoreRun C state es old new → (state old).stop ≡ Some stop → AllStopped (asks_of actor es) × (kind new ≡ kind old)
  stopped_run stop [] old new run is = (tt, ap kind run)
  stopped_run stop (e ∷ es) old new run is =
      let step = same_stop stop e (state old) (state run.0) (state old).stop is run.1.0 in
      let rest = stopped_run stop es run.0 new run.1.1 (step.1 ∙ is) in
      (first_of (e.actor == actor) (ask_of e) (asks_of actor es) (stop.at, step.0) rest.0, rest.1 ∙ ap (λ (ps : List Part). kind_of (part_of ps actor)) step.2)

  some_stop : (stop : Option Stop) → (stop ≡ None → ⊥) → (s : Stop) × (stop ≡ Some s)
  some_stop None none = absurd (none refl)
  some_stop (Some s) none = (s, refl)

  many_by : (stop : Option Stop) (e : Event) (old new : CoreState) → StepsOr stop e old new → length new.parts ≡ length old.parts
  many_by None e old new step = length_on e.actor old.parts new.parts (row_one e.actor e.buf old new e.step e.answer step.made.row)
  many_by (Some stop) e old new step = ap length step.same.parts_are

  many : (e : Event) (old new : C) → CoreStep (state old) e (state new) → length (state new).parts ≡ length (state old).parts
  many e old new step = many_by (state old).stop e (state old) (state new) step

  abbrev Along : C → C → List Ask → Type 0
  Along old new all = Went (kind old) all (kind new) ⊎ LastIsStopped all

  own_step : (e : Event) (es : List Event) (old mid new : C) → e.actor ≡ actor → CoreStep (state old) e (state mid) → CoreRun C state es mid new → actor < length (state old).parts
      → ((at : ℕ) → (state old).stop ≡ None → e.answer ≡ Err (refusals.Stopped at) → ⊥) → Along mid new (asks_of actor es) → Along old new (ask_of e ∷ asks_of actor es)
  own_step e es old mid new mine step run below never rest = elim (stopped_or e.answer) [
    | inl told ↦
        let stop = some_stop (state old).stop (λ none. never told.0 none told.1) in
        let one = same_stop stop.0 e (state old) (state mid) (state old).stop stop.1 step in
        let later = stopped_run stop.0 es mid new run (one.1 ∙ stop.1) in
        inr (last_stopped (ask_of e) (asks_of actor es) told later.0)
    | inr not ↦ elim rest [
      | inl went ↦ inl (
        λ gives. elim (done_or e.answer) [
          | inl done ↦ done
          | inr refused ↦
              let stopped = giving_up_is_done C state e old mid refused.0 step (gives ∙ ap (λ (a : ℕ). Some (kind_at C state old a)) (sym mine)) refused.1 in
              absurd (not stopped.0 (refused.1 ∙ ap Err stopped.1))
        ],
        subst (λ (k : PartKind). Went k (asks_of actor es) (kind new))
            (ap (λ (a : ℕ). kind_at C state mid a) (sym mine)
            ∙ kinds_follow C state e old mid step (subst (λ (a : ℕ). a < length (state old).parts) (sym mine) below)
            ∙ ap (λ (a : ℕ). kind_after e.step e.answer (kind_at C state old a)) mine) went,
      )
      | inr last ↦ inr (last_later (ask_of e) (asks_of actor es) last)
    ]
  ]

  along_run : (es : List Event) (old new : C) (run : CoreRun C state es old new) → AnswersAsItRuns C state es old new run → actor < length (state old).parts
      → Along old new (asks_of actor es)
  along_run [] old new run never below = inl (ap kind run)
  along_run (e ∷ es) old new run never below =
      let rest = along_run es run.0 new run.1.1 never.1 (subst (λ (n : ℕ). actor < n) (sym (many e old run.0 run.1.0)) below) in
      dite (ℕ_discrete e.actor actor)
      (λ mine.
      subst (Along old new) (ap (λ (b : Bool). if b then ask_of e ∷ asks_of actor es else asks_of actor es) (sym (eq-eqb e.actor actor mine)))
      (own_step e es old run.0 new mine run.1.0 run.1.1 below never.0 rest))
      (λ other.
      subst (Along old new) (ap (λ (b : Bool). if b then ask_of e ∷ asks_of actor es else asks_of actor es) (sym (ne_eqb e.actor actor other)))
      (elim rest [
        | inl went ↦ inl (subst (λ (k : PartKind). Went k (asks_of actor es) (kind new))
            (ap kind_of (all_others_stay C state e old run.0 actor run.1.0 (λ same. other (sym same)))) went)
        | inr last ↦ inr last
      ]))

pub workers_leave : (C : Type 0) (state : C → CoreState) → WorkersLeave C state
workers_leave C state count worker actor jobs ended es old new run never below idle does =
    elim (along_run C state actor es old new run never below) [
      | inl went ↦
          inl (jobs_left count worker jobs ended (asks_of actor es) does (kind_at C state new actor)
          (subst (λ (k : PartKind). Went k (asks_of actor es) (kind_at C state new actor)) idle went))
      | inr last ↦ inr last
    ]
