-- Which names have files, as jobs are done beside one another.
use Rattle.std.proofs.Common.{◌≡◌, ◌≢◌, ◌<◌, ◌^◌, ◌%◌, ◌==◌, ℕ, zero, suc, Bool, true, false, List, [], ◌∷◌, ◌++◌, codes, decimal, Option, Some, None, Result, Ok, refl, sym, ap, ◌∙◌, subst, arith, eq-eqb, MatchBool, length, get_or, slice_index_or}
use Rattle.std.specs.List.{AllByRecursion, Contains}
use Rattle.std.specs.Str.{bytes_eq}
use Rattle.std.proofs.lemmas.Bool.{false_from_ne_true}
use Rattle.std.proofs.lemmas.Fmt.{decimal_injective}
use Rattle.std.proofs.lemmas.List.{append_cancel_left}
use Rattle.std.proofs.lemmas.Slice.Eq.{bytes_eq-Decides}
use Rattle.disk_format.specs.Cells.{Root}
use Rattle.refusals.specs.declared.refusal.Refusal.{Refusal}
use Rattle.actor_parts.specs.declared.step.Answer.{Answer}
use Rattle.actor_parts.specs.Asking.{Ask}
use Rattle.actor_parts.specs.StepValue as asked
use Rattle.actor_parts.specs.StepValue.{StepValue}
use Rattle.load_stream.specs.Load.{LoadState}
use Rattle.ingest_session.specs.declared.due.Due.{Due}
use Rattle.ingest_session.specs.declared.due.Due.TheVariants as dues
use Rattle.ingest_session.specs.Due.{due_in}
use Rattle.ingest_session.specs.History.{History}
use Rattle.ingest_session.specs.State.{SessionState}
use Rattle.store_model.specs.Files.{Stored}
use Rattle.session_turns.specs.Owning.{IsAskedFor}
use Rattle.ingest_workers.specs.declared.job.Job.{Job}
use Rattle.ingest_workers.specs.declared.job.JobEnd.{JobEnd}
use Rattle.ingest_workers.specs.declared.job.JobEnd.TheVariants as ends
use Rattle.ingest_workers.specs.Giving.{Begun, Given, Gives, IsDone, More, Nothing, Reads, Stores, Takes, TakesAll, Turned}
use Rattle.ingest_workers.specs.Jobs.{DoesJob, IsJob, OwnJobs, file_of, temp_name, work_name}
use Rattle.ingest_workers.specs.Named.{AreStored, HaveNumbers}

-- ---- what is last done to a name: it is given a file, or is deleted

abbrev pub when : Bool → Bool → Option Bool
when true b = Some b
when false b = None

abbrev pub touch : List ℕ → StepValue → Result Answer Refusal → Option Bool
touch name (asked.Commit n root) (Ok answer) = when (bytes_eq name n) true
touch name (asked.Delete n) (Ok answer) = when (bytes_eq name n) false
touch name step answer = None

abbrev pub later : Option Bool → Option Bool → Option Bool
later first None = first
later first (Some b) = Some b

abbrev pub fate : List ℕ → List Ask → Option Bool
fate name [] = None
fate name (a ∷ rest) = later (touch name a.step a.answer) (fate name rest)

later_assoc : (a b c : Option Bool) → later (later a b) c ≡ later a (later b c)
later_assoc a b None = refl
later_assoc a b (Some x) = refl

pub later_none : (b : Option Bool) → later None b ≡ b
later_none None = refl
later_none (Some x) = refl

fate_append : (name : List ℕ) (xs ys : List Ask) → fate name (xs ++ ys) ≡ later (fate name xs) (fate name ys)
fate_append name [] ys = sym (later_none (fate name ys))
fate_append name (x ∷ xs) ys =
    ap (later (touch name x.step x.answer)) (fate_append name xs ys) ∙ sym (later_assoc (touch name x.step x.answer) (fate name xs) (fate name ys))

-- ---- names

pub same_names : (name : List ℕ) → bytes_eq name name ≡ true
same_names name = (bytes_eq-Decides name name).1 refl

pub other_names : (name n : List ℕ) → name ≢ n → bytes_eq name n ≡ false
other_names name n differ = false_from_ne_true (bytes_eq name n) (λ is. differ ((bytes_eq-Decides name n).0 is))

pub temp_number : (a b : ℕ) → a < 2 ^ 64 → b < 2 ^ 64 → temp_name a ≡ temp_name b → a ≡ b
temp_number a b one other is = decimal_injective a b one other (append_cancel_left (codes "temp.") (decimal a) (decimal b) is)

pub work_number : (a b : ℕ) → a < 2 ^ 64 → b < 2 ^ 64 → work_name a ≡ work_name b → a ≡ b
work_number a b one other is = decimal_injective a b one other (append_cancel_left (codes "work.") (decimal a) (decimal b) is)

pub temp_is_no_work : (a b : ℕ) → temp_name a ≢ work_name b
temp_is_no_work a b is = let first : get_or (temp_name a) 0 0 ≡ get_or (work_name b) 0 0 = ap (λ (l : List ℕ). get_or l 0 0) is in absurd (omega (arith, first))

-- ---- what a job does to names

module _ (name : List ℕ) where
  untouched : (a : Ask) (step : StepValue) → a.step ≡ step → touch name step a.answer ≡ None → touch name a.step a.answer ≡ None
  untouched a step is none = ap (λ (s : StepValue). touch name s a.answer) is ∙ none

  push_fate : (xs : List Ask) (a : Ask) → fate name xs ≡ None → touch name a.step a.answer ≡ None → fate name (xs ++ a ∷ []) ≡ None
  push_fate xs a none one =
      fate_append name xs (a ∷ []) ∙ ap (λ (o : Option Bool). later o (later (touch name a.step a.answer) None)) none ∙ later_none (touch name a.step a.answer) ∙ one

  due_untouched : (due : Due) (s : SessionState) (step : StepValue) (answer : Result Answer Refusal) → IsAskedFor due s step → touch name step answer ≡ None
  due_untouched dues.Claim s (asked.Claim seg) answer asks = refl
  due_untouched (dues.Seal kind) s (asked.Seal offered) answer asks = refl
  due_untouched due s step answer asks = absurd asks

  gives_fate : (file : LoadState) (all : List Ask) (h : History) → Gives file all h → fate name all ≡ None
  gives_fate file all h (Begun a step done) = ap (λ (o : Option Bool). later o None) (untouched a asked.Begin step refl)
  gives_fate file all h (Given rest g k gives untold) = gives_fate file rest g gives
  gives_fate file all h (Turned rest a x g answer gives of settled due done) = push_fate rest a (gives_fate file rest g gives) (due_untouched (due_in x) x a.step a.answer due)

  done_touch : (a : Ask) (step : StepValue) → a.step ≡ step → IsDone a → (b : Option Bool) → ((answer : Answer) → touch name step (Ok answer) ≡ b) → touch name a.step a.answer ≡ b
  done_touch a step is done b each =
      ap (λ (s : StepValue). touch name s a.answer) is ∙ ap (touch name step) done.1 ∙ each done.0

  stores_fate : (file : LoadState) (n : List ℕ) (root : Root) (all : List Ask) → Stores file n root all → fate name all ≡ when (bytes_eq name n) true
  stores_fate file n root all stores =
      ap (fate name) stores.all_is ∙ fate_append name stores.gave (stores.commit ∷ [])
      ∙ ap (λ (o : Option Bool). later o (later (touch name stores.commit.step stores.commit.answer) None)) (gives_fate file stores.gave stores.history stores.gives)
      ∙ later_none (touch name stores.commit.step stores.commit.answer)
      ∙ done_touch stores.commit (asked.Commit n root) stores.step_is stores.done (when (bytes_eq name n) true) (λ answer. refl)

  takes_fate : (all : List Ask) → Takes all → fate name all ≡ None
  takes_fate all Nothing = refl
  takes_fate all (More rest a count takes step answer) = push_fate rest a (takes_fate rest takes) (untouched a asked.ReadNext step refl)

  takes_all_fate : (result : _) (all : List Ask) → TakesAll result all → fate name all ≡ None
  takes_all_fate result all takes =
      ap (fate name) takes.all_is ∙ push_fate takes.taken takes.last (takes_fate takes.taken takes.takes) (untouched takes.last asked.ReadNext takes.step_is refl)

  reads_fate : (n : List ℕ) (all : List Ask) → Reads n all → fate name all ≡ None
  reads_fate n all reads =
      ap (fate name) reads.all_is
      ∙ ap (λ (o : Option Bool). later o (fate name (reads.taken ++ reads.closing ∷ []))) (untouched reads.opening (asked.OpenRead n) reads.opening_is refl)
      ∙ ap (later None)
      (push_fate reads.taken reads.closing (takes_all_fate (Ok tt) reads.taken reads.takes) (untouched reads.closing asked.EndRead reads.closing_is refl))

  -- by whether it is the first name, or the second
  abbrev verdict : Bool → Bool → Option Bool
  verdict temp work = later (when temp true) (later (when work true) (later (when temp false) None))

  does_fate : (job : Job) (root : Root) (all : List Ask) → DoesJob job root all
      → fate name all ≡ verdict (bytes_eq name (temp_name job.number)) (bytes_eq name (work_name job.number))
  does_fate job root all does =
      let t = bytes_eq name (temp_name job.number) in
      let w = bytes_eq name (work_name job.number) in
      let rest : fate name (does.delete ∷ does.read) ≡ later (when t false) None =
      ap (λ (o : Option Bool). later o (fate name does.read))
      (done_touch does.delete (asked.Delete (temp_name job.number)) does.step_is does.deleted (when t false) (λ answer. refl))
      ∙ ap (later (when t false)) (reads_fate (work_name job.number) does.read does.was_read) in
      ap (fate name) does.all_is
      ∙ fate_append name does.temp (does.work ++ (does.delete ∷ does.read))
      ∙ ap (λ (o : Option Bool). later o (fate name (does.work ++ (does.delete ∷ does.read))))
      (stores_fate (file_of job) (temp_name job.number) does.first does.temp does.temp_stored)
      ∙ ap (later (when t true)) (fate_append name does.work (does.delete ∷ does.read)
      ∙ ap (λ (o : Option Bool). later o (fate name (does.delete ∷ does.read))) (stores_fate (file_of job) (work_name job.number) root does.work does.work_stored)
      ∙ ap (later (when w true)) rest)

  -- ---- what the jobs of a worker do to it

  abbrev IsOther : Job → Type 0
  IsOther job = (name ≢ temp_name job.number) × (name ≢ work_name job.number)

  does_other : (job : Job) (root : Root) (all : List Ask) → DoesJob job root all → IsOther job → fate name all ≡ None
  does_other job root all does other =
      does_fate job root all does
      ∙ ap (λ (t : Bool). verdict t (bytes_eq name (work_name job.number))) (other_names name (temp_name job.number) other.0)
      ∙ ap (verdict false) (other_names name (work_name job.number) other.1)

  abbrev First : Bool → ℕ → ℕ → Job → JobEnd → List Job → List JobEnd → List Ask → Type 0
  First mine count worker job end jobs ended all = MatchBool mine
      ((own : List Ask) × (rest : List Ask) × (all ≡ own ++ rest) × IsJob job end own × OwnJobs count worker jobs ended rest) (OwnJobs count worker jobs ended all)

  two_fates : (own rest all : List Ask) (a b : Option Bool) → all ≡ own ++ rest → fate name own ≡ a → fate name rest ≡ b → fate name all ≡ later a b
  two_fates own rest all a b is one other =
      ap (fate name) is ∙ fate_append name own rest ∙ ap (λ (o : Option Bool). later o (fate name rest)) one ∙ ap (later a) other

  other_first : (mine : Bool) (count worker : ℕ) (job : Job) (root : Root) (jobs : List Job) (ended : List JobEnd) (all : List Ask) (b : Option Bool) → IsOther job
      → ((rest : List Ask) → OwnJobs count worker jobs ended rest → fate name rest ≡ b) → First mine count worker job (ends.Stored root) jobs ended all → fate name all ≡ b
  other_first true count worker job root jobs ended all b other others does =
      two_fates does.0 does.1 all None b does.2 (does_other job root does.0 does.3 other) (others does.1 does.4) ∙ later_none b
  other_first false count worker job root jobs ended all b other others does = others all does

  others_fate : (count worker : ℕ) (jobs : List Job) (ended : List JobEnd) (all : List Ask) → AllByRecursion IsOther jobs → AreStored ended → OwnJobs count worker jobs ended all
      → fate name all ≡ None
  others_fate count worker [] [] all other stored does = ap (fate name) does
  others_fate count worker [] (end ∷ ended) all other stored does = absurd does
  others_fate count worker (job ∷ jobs) [] all other stored does = absurd does
  others_fate count worker (job ∷ jobs) (ends.Refused refusal ∷ ended) all other stored does = absurd stored
  others_fate count worker (job ∷ jobs) (ends.Stored root ∷ ended) all other stored does =
      other_first (job.number % count == worker) count worker job root jobs ended all None other.0
      (λ rest is. others_fate count worker jobs ended rest other.1 stored is) does

  -- of the job that it is a name of
  own_first : (mine : Bool) (count worker : ℕ) (job : Job) (root : Root) (jobs : List Job) (ended : List JobEnd) (all : List Ask) (b : Option Bool) → mine ≡ true
      → verdict (bytes_eq name (temp_name job.number)) (bytes_eq name (work_name job.number)) ≡ b
      → ((rest : List Ask) → OwnJobs count worker jobs ended rest → fate name rest ≡ None) → First mine count worker job (ends.Stored root) jobs ended all → fate name all ≡ b
  own_first true count worker job root jobs ended all b mine is others does =
      two_fates does.0 does.1 all b None does.2 (does_fate job root does.0 does.3 ∙ is) (others does.1 does.4)
  own_first false count worker job root jobs ended all b mine is others does = absurd (cc)

  pub job_fate : (count worker : ℕ) (b : Option Bool) (job : Job) → job.number % count ≡ worker
      → verdict (bytes_eq name (temp_name job.number)) (bytes_eq name (work_name job.number)) ≡ b → ((j : Job) → j.number < 2 ^ 64 → j.number ≢ job.number → IsOther j)
      → (jobs : List Job) (ended : List JobEnd) (all : List Ask) → HaveNumbers jobs → Contains jobs job → AreStored ended → OwnJobs count worker jobs ended all → fate name all ≡ b
  job_fate count worker b job mine is apart [] ended all numbers (i, within, at) stored does = absurd (omega (arith, within))
  job_fate count worker b job mine is apart (j ∷ jobs) [] all numbers there stored does = absurd does
  job_fate count worker b job mine is apart (j ∷ jobs) (ends.Refused refusal ∷ ended) all numbers there stored does = absurd stored
  job_fate count worker b job mine is apart (j ∷ jobs) (ends.Stored root ∷ ended) all numbers (zero, within, at) stored does =
      let same : j ≡ job = at in
      own_first (j.number % count == worker) count worker j root jobs ended all b
      (eq-eqb (j.number % count) worker (ap (λ (k : Job). k.number % count) same ∙ mine))
      (subst (λ (k : Job). verdict (bytes_eq name (temp_name k.number)) (bytes_eq name (work_name k.number)) ≡ b) (sym same) is)
      (λ rest own. others_fate count worker jobs ended rest (all_others jobs numbers.2 numbers.1) stored own) does
    where
      all_others : (js : List Job) → HaveNumbers js → AllByRecursion (λ k. k.number ≢ j.number) js → AllByRecursion IsOther js
      all_others [] right differ = tt
      all_others (k ∷ ks) right differ =
          (apart k right.0 (λ e. differ.0 (e ∙ ap (λ (x : Job). x.number) (sym same))), all_others ks right.2 differ.1)
        where
          same : j ≡ job
          same = at
  job_fate count worker b job mine is apart (j ∷ jobs) (ends.Stored root ∷ ended) all numbers (suc i, within, at) stored does =
      other_first (j.number % count == worker) count worker j root jobs ended all b (apart j numbers.0 (λ e. differs jobs i numbers.1 (omega (arith, within)) at (sym e)))
      (λ rest own. job_fate count worker b job mine is apart jobs ended rest numbers.2 (i, omega (arith, within), at) stored own) does
    where
      differs : (js : List Job) (k : ℕ) → AllByRecursion (λ x. x.number ≢ j.number) js → (k < length js) → slice_index_or js k job ≡ job → job.number ≢ j.number
      differs [] k all within here = absurd (omega (arith, within))
      differs (x ∷ xs) zero all within here = λ e. all.0 (ap (λ (y : Job). y.number) here ∙ e)
      differs (x ∷ xs) (suc k) all within here = differs xs k all.1 (omega (arith, within)) here
