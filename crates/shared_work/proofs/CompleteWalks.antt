-- What a worker asks for, along its jobs: it is at what each step takes, and each name that it deletes or opens it committed before.
use Rattle.std.proofs.Common.{◌≡◌, ◌≢◌, ◌⊎◌, inl, inr, ◌%◌, ◌==◌, ℕ, suc, arith, Bool, true, false, not, ◌&&◌, ◌||◌, List, [], ◌∷◌, ◌++◌, Some, Result, Ok, Err, refl, sym, ap, ◌∙◌, subst, eqb-true, MatchBool}
use Rattle.std.specs.List.{Contains}
use Rattle.std.specs.Str.{bytes_eq}
use Rattle.disk_format.specs.Cells.{Root}
use Rattle.refusals.specs.declared.refusal.PartKind.{PartKind}
use Rattle.refusals.specs.declared.refusal.PartKind.TheVariants as kinds
use Rattle.refusals.specs.declared.refusal.Refusal.{Refusal}
use Rattle.actor_parts.specs.declared.step.Answer.{Answer}
use Rattle.actor_parts.specs.Asking.{Ask}
use Rattle.actor_parts.specs.StepValue as asked
use Rattle.actor_parts.specs.StepValue.{StepValue}
use Rattle.load_stream.specs.Load.{LoadState}
use Rattle.ingest_session.specs.declared.due.Due.{Due}
use Rattle.ingest_session.specs.declared.due.Due.TheVariants as dues
use Rattle.ingest_session.specs.Due.{due_in}
use Rattle.ingest_session.specs.History.{History}
use Rattle.ingest_session.specs.State.{SessionState}
use Rattle.session_turns.specs.Kinds.{given_up_by, kind_after}
use Rattle.session_turns.specs.Owning.{IsAskedFor}
use Rattle.store_machine.specs.Legal.{taken_by}
use Rattle.core_machine.specs.Refines.{asked_by}
use Rattle.ingest_workers.specs.declared.job.Job.{Job}
use Rattle.ingest_workers.specs.declared.job.JobEnd.{JobEnd}
use Rattle.ingest_workers.specs.declared.job.JobEnd.TheVariants as ends
use Rattle.ingest_workers.specs.Giving.{Begun, ByCommit, BySession, ByTurn, Given, GivenUp, Gives, IsDone, More, Nothing, Reads, Stops, Stores, Takes, TakesAll, Turned, Unbegun, Unclosed, Unended, Unopened, Unread, Unstored, Untaken}
use Rattle.ingest_workers.specs.Jobs.{IsJob, NoTemp, NoWork, NotDeleted, NotRead, OwnJobs, file_of, temp_name, work_name}
use Rattle.ingest_workers.proofs.Names.{other_names, same_names, temp_is_no_work}
use Rattle.shared_work.proofs.CompleteRows.{Suits}

-- ---- what a worker is at, and which names it has committed and not deleted since

abbrev pub There : Type 0
There = List ℕ → Bool

abbrev pub put : List ℕ → There → There
put name there n = bytes_eq name n || there n

abbrev pub gone : List ℕ → There → There
gone name there n = not (bytes_eq name n) && there n

abbrev pub there_after : StepValue → Result Answer Refusal → There → There
there_after (asked.Commit name root) (Ok answer) there = put name there
there_after (asked.Delete name) (Ok answer) there = gone name there
there_after step answer there = there

pub record Seat : Type 0 where
  pub kind : PartKind
  pub there : There

abbrev pub seat : PartKind → There → Seat
seat kind there = record { kind = kind; there = there }

abbrev pub seat_after : Ask → Seat → Seat
seat_after a s = seat (kind_after a.step a.answer s.kind) (there_after a.step a.answer s.there)

-- ---- what a step of it needs

-- the name is one of a file of its own
abbrev pub IsMine : List LoadState → List ℕ → Type 0
IsMine own name = (file : LoadState) × (Contains own file × ((name ≡ temp_name file.file) ⊎ (name ≡ work_name file.file)))

-- it has the name that it deletes or opens; and it makes no collection
abbrev pub NeedsName : List LoadState → There → StepValue → Type 0
NeedsName own there (asked.Commit name root) = IsMine own name
NeedsName own there (asked.OpenRead name) = IsMine own name × (there name ≡ true)
NeedsName own there (asked.Delete name) = IsMine own name × (there name ≡ true)
NeedsName own there (asked.GcStart percent) = ⊥
NeedsName own there asked.GcStep = ⊥
NeedsName own there step = Unit {0}

-- and is at what the step takes
abbrev pub Needs : List LoadState → Seat → StepValue → Type 0
Needs own s step = Suits (taken_by (asked_by step)) s.kind × NeedsName own s.there step

-- what a step gives up was there, so it is done
abbrev pub IsLetGo : PartKind → Ask → Type 0
IsLetGo kind a = given_up_by a.step ≡ Some kind → (answer : Answer) × (a.answer ≡ Ok answer)

-- so it is along these steps, as long as what is given up is given up; and at their end Q
abbrev pub Walks : List LoadState → Seat → List Ask → (Seat → Type 0) → Type 0
Walks own s [] Q = Q s
Walks own s (a ∷ rest) Q = Needs own s a.step × (IsLetGo s.kind a → Walks own (seat_after a s) rest Q)

-- ---- names

has_put : (name : List ℕ) (there : There) → put name there name ≡ true
has_put name there = ap (λ (b : Bool). b || there name) (same_names name)

keeps_put : (name n : List ℕ) (there : There) → there n ≡ true → put name there n ≡ true
keeps_put name n there has = by (bytes_eq name n) (there n) has
  where
    by : (a b : Bool) → b ≡ true → (a || b) ≡ true
    by true b is = refl
    by false b is = is

keeps_gone : (name n : List ℕ) (there : There) → name ≢ n → there n ≡ true → gone name there n ≡ true
keeps_gone name n there differ has = ap (λ (b : Bool). not b && there n) (other_names name n differ) ∙ has

module _ (own : List LoadState) where
  abbrev W : Seat → List Ask → (Seat → Type 0) → Type 0
  W = Walks own

  both : (s : Seat) (xs ys : List Ask) (P Q : Seat → Type 0) → W s xs P → ((t : Seat) → P t → W t ys Q) → W s (xs ++ ys) Q
  both s [] ys P Q walk more = more s walk
  both s (x ∷ xs) ys P Q walk more = (walk.0, λ let_go. both (seat_after x s) xs ys P Q (walk.1 let_go) more)

  renamed : (s : Seat) (xs ys : List Ask) (Q : Seat → Type 0) → xs ≡ ys → W s ys Q → W s xs Q
  renamed s xs ys Q is walk = subst (λ (l : List Ask). W s l Q) (sym is) walk

  to : (s t : Seat) (xs : List Ask) (Q : Seat → Type 0) → t ≡ s → W s xs Q → W t xs Q
  to s t xs Q is walk = subst (λ (x : Seat). W x xs Q) (sym is) walk

  -- ---- one step

  module _ (a : Ask) (kind : PartKind) (there : There) where
    needs : (step : StepValue) → a.step ≡ step → Needs own (seat kind there) step → Needs own (seat kind there) a.step
    needs step is need = subst (Needs own (seat kind there)) (sym is) need

    abbrev After : StepValue → Result Answer Refusal → Seat
    After step told = seat (kind_after step told kind) (there_after step told there)

    -- by what it is answered
    one : (step : StepValue) (told : Result Answer Refusal) → a.step ≡ step → a.answer ≡ told → Needs own (seat kind there) step → (Q : Seat → Type 0) → Q (After step told)
        → W (seat kind there) (a ∷ []) Q
    one step told is answer need Q next =
        (needs step is need, λ let_go. subst Q (sym (ap (λ (x : StepValue). After x a.answer) is ∙ ap (After step) answer)) next)

    -- whatever it is answered
    any : (step : StepValue) → a.step ≡ step → Needs own (seat kind there) step → (Q : Seat → Type 0) → ((told : Result Answer Refusal) → Q (After step told))
        → W (seat kind there) (a ∷ []) Q
    any step is need Q next = one step a.answer is refl need Q (next a.answer)

    -- it is given up
    up : (step : StepValue) → a.step ≡ step → Needs own (seat kind there) step → given_up_by step ≡ Some kind → (Q : Seat → Type 0)
        → ((answer : Answer) → Q (After step (Ok answer))) → W (seat kind there) (a ∷ []) Q
    up step is need gives Q next = (
      needs step is need,
      λ let_go. let done = let_go (ap given_up_by is ∙ gives) in
          subst Q (sym (ap (λ (x : StepValue). After x a.answer) is ∙ ap (After step) done.1)) (next done.0),
    )

  -- ---- a file that is stored

  abbrev Idle : There → Seat
  Idle there = seat kinds.Idle there

  abbrev Writing : There → Seat
  Writing there = seat kinds.Writing there

  abbrev Reading : There → Seat
  Reading there = seat kinds.Reading there

  abbrev Is : Seat → Seat → Type 0
  Is s t = t ≡ s

  after : (s : Seat) (xs ys : List Ask) (Q : Seat → Type 0) (start : Seat) → W start xs (Is s) → W s ys Q → W start (xs ++ ys) Q
  after s xs ys Q start first next = both start xs ys (Is s) Q first (λ t is. to s t ys Q is next)

  due_turn : (a : Ask) (s : SessionState) (there : There) (due : Due) (step : StepValue) → a.step ≡ step → IsAskedFor due s step → W (Writing there) (a ∷ []) (Is (Writing there))
  due_turn a s there dues.Claim (asked.Claim seg) is asks = any a kinds.Writing there (asked.Claim seg) is (refl, tt) (Is (Writing there)) (λ told. refl)
  due_turn a s there (dues.Seal k) (asked.Seal offered) is asks = any a kinds.Writing there (asked.Seal offered) is (refl, tt) (Is (Writing there)) (λ told. refl)
  due_turn a s there due step is asks = absurd asks

  gives : (there : There) (file : LoadState) (all : List Ask) (h : History) → Gives file all h → W (Idle there) all (Is (Writing there))
  gives there file all h (Begun a step done) = one a kinds.Idle there asked.Begin (Ok done.0) step done.1 (refl, tt) (Is (Writing there)) refl
  gives there file all h (Given rest g k giving untold) = gives there file rest g giving
  gives there file all h (Turned rest a x g answer giving of settled due told) =
      after (Writing there) rest (a ∷ []) (Is (Writing there)) (Idle there) (gives there file rest g giving) (due_turn a x there (due_in x) a.step refl due)

  module _ (there : There) (file : LoadState) (name : List ℕ) (mine : IsMine own name) where
    stores : (root : Root) (all : List Ask) → Stores file name root all → W (Idle there) all (Is (Idle (put name there)))
    stores root all does =
        renamed (Idle there) all (does.gave ++ does.commit ∷ []) (Is (Idle (put name there))) does.all_is
        (after (Writing there) does.gave (does.commit ∷ []) (Is (Idle (put name there))) (Idle there) (gives there file does.gave does.history does.gives)
        (one does.commit kinds.Writing there (asked.Commit name root) (Ok does.done.0) does.step_is does.done.1 (refl, mine) (Is (Idle (put name there))) refl))

    stops : (refusal : Refusal) (all : List Ask) → Stops file name refusal all → W (Idle there) all (Is (Writing there))
    stops refusal all (BySession rest s h giving of why) = gives there file rest h giving
    stops refusal all (ByTurn rest a x h giving of settled due refused) =
        after (Writing there) rest (a ∷ []) (Is (Writing there)) (Idle there) (gives there file rest h giving) (due_turn a x there (due_in x) a.step refl due)
    stops refusal all (ByCommit rest a s h root giving of ready step refused) =
        after (Writing there) rest (a ∷ []) (Is (Writing there)) (Idle there) (gives there file rest h giving)
        (one a kinds.Writing there (asked.Commit name root) (Err refusal) step refused (refl, mine) (Is (Writing there)) refl)

    unstored : (refusal : Refusal) (all : List Ask) → Unstored file name refusal all → W (Idle there) all (Is (Idle there))
    unstored refusal all (Untaken why) = refl
    unstored refusal all (Unbegun a step refused) = one a kinds.Idle there asked.Begin (Err refusal) step refused (refl, tt) (Is (Idle there)) refl
    unstored refusal all (GivenUp rest a giving step) =
        after (Writing there) rest (a ∷ []) (Is (Idle there)) (Idle there) (stops refusal rest giving)
        (up a kinds.Writing there asked.Abort step (refl, tt) refl (Is (Idle there)) (λ answer. refl))

  -- ---- a file that is read

  module _ (there : There) where
    read_next : (a : Ask) → a.step ≡ asked.ReadNext → W (Reading there) (a ∷ []) (Is (Reading there))
    read_next a step = any a kinds.Reading there asked.ReadNext step (refl, tt) (Is (Reading there)) (λ told. refl)

    takes : (all : List Ask) → Takes all → W (Reading there) all (Is (Reading there))
    takes all Nothing = refl
    takes all (More rest a count taking step answer) = after (Reading there) rest (a ∷ []) (Is (Reading there)) (Reading there) (takes rest taking) (read_next a step)

    takes_all : (result : _) (all : List Ask) → TakesAll result all → W (Reading there) all (Is (Reading there))
    takes_all result all taking =
        renamed (Reading there) all (taking.taken ++ taking.last ∷ []) (Is (Reading there)) taking.all_is
        (after (Reading there) taking.taken (taking.last ∷ []) (Is (Reading there)) (Reading there) (takes taking.taken taking.takes) (read_next taking.last taking.step_is))

    module _ (name : List ℕ) (has : IsMine own name × (there name ≡ true)) where
      opened : (opening closing : Ask) (result : _) (taken : List Ask) → opening.step ≡ asked.OpenRead name → IsDone opening → TakesAll result taken
          → closing.step ≡ asked.EndRead → W (Idle there) (opening ∷ (taken ++ closing ∷ [])) (Is (Idle there))
      opened opening closing result taken opens done taking closes =
          after (Reading there) (opening ∷ []) (taken ++ closing ∷ []) (Is (Idle there)) (Idle there)
          (one opening kinds.Idle there (asked.OpenRead name) (Ok done.0) opens done.1 (refl, has) (Is (Reading there)) refl)
          (after (Reading there) taken (closing ∷ []) (Is (Idle there)) (Reading there) (takes_all result taken taking)
          (up closing kinds.Reading there asked.EndRead closes (refl, tt) refl (Is (Idle there)) (λ answer. refl)))

      reads : (all : List Ask) → Reads name all → W (Idle there) all (Is (Idle there))
      reads all does =
          renamed (Idle there) all (does.opening ∷ (does.taken ++ does.closing ∷ [])) (Is (Idle there)) does.all_is
          (opened does.opening does.closing (Ok tt) does.taken does.opening_is does.opened does.takes does.closing_is)

      unread : (refusal : Refusal) (all : List Ask) → Unread name refusal all → W (Idle there) all (Is (Idle there))
      unread refusal all (Unopened a step refused) =
          one a kinds.Idle there (asked.OpenRead name) (Err refusal) step refused (refl, has) (Is (Idle there)) refl
      unread refusal all (Unended opening taken closing opens done taking closes) = opened opening closing (Err refusal) taken opens done taking closes
      unread refusal all (Unclosed opening taken closing opens done taking closes refused) = opened opening closing (Ok tt) taken opens done taking closes

  -- ---- jobs

  -- at the end of a job it is at nothing
  abbrev IsFree : Seat → Type 0
  IsFree s = s.kind ≡ kinds.Idle

  free : (s t : Seat) → Is s t → IsFree s → IsFree t
  free s t is idle = ap (λ (x : Seat). x.kind) is ∙ idle

  weaker : (s : Seat) (xs : List Ask) (P Q : Seat → Type 0) → ((t : Seat) → P t → Q t) → W s xs P → W s xs Q
  weaker s [] P Q each walk = each s walk
  weaker s (x ∷ xs) P Q each walk = (walk.0, λ let_go. weaker (seat_after x s) xs P Q each (walk.1 let_go))

  freely : (there : There) (s : Seat) (xs : List Ask) → W s xs (Is (Idle there)) → W s xs IsFree
  freely there s xs walk = weaker s xs (Is (Idle there)) IsFree (λ t is. free (Idle there) t is refl) walk

  module _ (job : Job) (is_file : Contains own (file_of job)) (there : There) where
    abbrev temp : List ℕ
    temp = temp_name job.number

    abbrev work : List ℕ
    work = work_name job.number

    temp_mine : IsMine own temp
    temp_mine = (file_of job, (is_file, inl refl))

    work_mine : IsMine own work
    work_mine = (file_of job, (is_file, inr refl))

    -- both names are there; next the second alone
    abbrev Two : There
    Two = put work (put temp there)

    abbrev One : There
    One = gone temp Two

    temp_there : Two temp ≡ true
    temp_there = keeps_put work temp (put temp there) (has_put temp there)

    work_there : One work ≡ true
    work_there = keeps_gone temp work Two (temp_is_no_work job.number job.number) (has_put work (put temp there))

    two_stored : (first root : Root) (one other rest : List Ask) → Stores (file_of job) temp first one → Stores (file_of job) work root other → W (Idle Two) rest IsFree
        → W (Idle there) (one ++ (other ++ rest)) IsFree
    two_stored first root one other rest does next walk =
        after (Idle (put temp there)) one (other ++ rest) IsFree (Idle there) (stores there (file_of job) temp temp_mine first one does)
        (after (Idle Two) other rest IsFree (Idle (put temp there)) (stores (put temp there) (file_of job) work work_mine root other next) walk)

    deletes : (a : Ask) (rest : List Ask) → a.step ≡ asked.Delete temp → IsDone a → W (Idle One) rest IsFree → W (Idle Two) (a ∷ rest) IsFree
    deletes a rest step done walk =
        after (Idle One) (a ∷ []) rest IsFree (Idle Two)
        (one a kinds.Idle Two (asked.Delete temp) (Ok done.0) step done.1 (tt, (temp_mine, temp_there)) (Is (Idle One)) refl) walk

    job_walk : (end : JobEnd) (all : List Ask) → IsJob job end all → W (Idle there) all IsFree
    job_walk (ends.Stored root) all does =
        renamed (Idle there) all (does.temp ++ (does.work ++ (does.delete ∷ does.read))) IsFree does.all_is
        (two_stored does.first root does.temp does.work (does.delete ∷ does.read) does.temp_stored does.work_stored
        (deletes does.delete does.read does.step_is does.deleted
        (freely One (Idle One) does.read (reads One work (work_mine, work_there) does.read does.was_read))))
    job_walk (ends.Refused refusal) all (NoTemp one un) = freely there (Idle there) one (unstored there (file_of job) temp temp_mine refusal one un)
    job_walk (ends.Refused refusal) all (NoWork one other first does un) =
        after (Idle (put temp there)) one other IsFree (Idle there) (stores there (file_of job) temp temp_mine first one does)
        (freely (put temp there) (Idle (put temp there)) other (unstored (put temp there) (file_of job) work work_mine refusal other un))
    job_walk (ends.Refused refusal) all (NotDeleted one other first root delete does next step refused) =
        two_stored first root one other (delete ∷ []) does next
        (any delete kinds.Idle Two (asked.Delete temp) step (tt, (temp_mine, temp_there)) IsFree (λ told. refl))
    job_walk (ends.Refused refusal) all (NotRead one other first root delete read does next step done un) =
        two_stored first root one other (delete ∷ read) does next
        (deletes delete read step done (freely One (Idle One) read (unread One work (work_mine, work_there) refusal read un)))

  -- what those that are one's own ask for
  jobs_by : (mine : Bool) (count worker : ℕ) (job : Job) (end : JobEnd) (jobs : List Job) (ended : List JobEnd) (all : List Ask) (s : Seat) → IsFree s
      → (mine ≡ true → Contains own (file_of job)) → ((t : Seat) (rest : List Ask) → IsFree t → OwnJobs count worker jobs ended rest → W t rest IsFree)
      → MatchBool mine ((mine : List Ask) × (rest : List Ask) × (all ≡ mine ++ rest) × IsJob job end mine × OwnJobs count worker jobs ended rest)
      (OwnJobs count worker jobs ended all) → W s all IsFree
  jobs_by true count worker job end jobs ended all s idle is_file others does =
      renamed s all (does.0 ++ does.1) IsFree does.2
      (both s does.0 does.1 IsFree IsFree
      (subst (λ (k : PartKind). W (seat k s.there) does.0 IsFree) (sym idle) (job_walk job (is_file refl) s.there end does.0 does.3))
      (λ t freed. others t does.1 freed does.4))
  jobs_by false count worker job end jobs ended all s idle is_file others does = others s all idle does

  pub jobs_walk : (count worker : ℕ) (jobs : List Job) (ended : List JobEnd) (all : List Ask)
      → ((job : Job) → Contains jobs job → job.number % count ≡ worker → Contains own (file_of job))
      → (s : Seat) → IsFree s → OwnJobs count worker jobs ended all → W s all IsFree
  jobs_walk count worker [] [] all each s idle does = renamed s all [] IsFree does idle
  jobs_walk count worker [] (end ∷ ended) all each s idle does = absurd does
  jobs_walk count worker (job ∷ jobs) [] all each s idle does = absurd does
  jobs_walk count worker (job ∷ jobs) (end ∷ ended) all each s idle does =
      jobs_by (job.number % count == worker) count worker job end jobs ended all s idle (λ mine. each job (first_there job jobs) (eqb-true (job.number % count) worker mine))
      (λ t rest freed is. jobs_walk count worker jobs ended rest (λ other there mine. each other (later_there job other jobs there) mine) t freed is) does
    where
      first_there : (job : Job) (jobs : List Job) → Contains (job ∷ jobs) job
      first_there job jobs = (0, omega arith, refl)

      later_there : (job other : Job) (jobs : List Job) → Contains jobs other → Contains (job ∷ jobs) other
      later_there job other jobs (i, within, is) = (suc i, omega (arith, within), is)
