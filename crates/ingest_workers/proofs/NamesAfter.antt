-- What names have after steps that are of jobs' files.
use Rattle.std.proofs.Common.{◌≡◌, ◌≢◌, ◌⊎◌, inl, inr, ◌<◌, ◌≤◌, ◌^◌, ◌%◌, ◌==◌, if◌then◌else◌, ℕ, zero, suc, Bool, true, false, List, [], ◌∷◌, cond, Option, Some, None, Result, Ok, Err, refl, sym, ap, ◌∙◌, subst, arith, eq-eqb, eqb-true, ne_eqb}
use mathlib.Core.Logic.{dite}
use native.Mathlib.Decide.{ℕ_discrete}
use Rattle.std.specs.FinMap as finite
use Rattle.std.specs.List.{AllByRecursion, Contains}
use Rattle.std.specs.Bool.{one_answer}
use Rattle.std.specs.Str.{bytes_eq}
use Rattle.std.specs.Ordering.{eq_by_cmp, nat_cmp}
use Rattle.std.specs.Cmp.Lexicographic.{nat_list_cmp_total, slice_cmp}
use Rattle.std.proofs.lemmas.Slice.Eq.{bytes_eq-Decides}
use Rattle.std.proofs.Math.Nat.{mod-lt}
use Rattle.refusals.specs.declared.refusal.Refusal.{Refusal}
use Rattle.actor_parts.specs.declared.step.Answer.{Answer}
use Rattle.actor_parts.specs.Asking.{Ask}
use Rattle.actor_parts.specs.StepValue as asked
use Rattle.actor_parts.specs.StepValue.{StepValue}
use Rattle.load_stream.specs.Load.{LoadState}
use Rattle.store_model.specs.Files.{Files, Stored, with_file, without_file}
use Rattle.store_model.proofs.Indexing.{tied}
use Rattle.store_core.specs.Runs.{FileEvent, events_of, stored_after, stored_by, stored_with}
use Rattle.store_core.specs.State.{Event}
use Rattle.ingest_workers.specs.declared.job.Job.{Job}
use Rattle.ingest_workers.specs.declared.job.JobEnd.{JobEnd}
use Rattle.ingest_workers.specs.Ingesting.{ask_of, asks_of}
use Rattle.ingest_workers.specs.Jobs.{file_of, temp_name, work_name}
use Rattle.ingest_workers.specs.Named.{AreDoneBy, AreOfStreams, AreStored, HasStreams, HaveNumbers, JobsHaveNames, StreamsStay, own_by}
use Rattle.ingest_workers.specs.Owing.{IsOfStream, own_files, stream_of}
use Rattle.ingest_workers.proofs.Names.{fate, job_fate, later, later_none, other_names, same_names, temp_is_no_work, temp_number, touch, when, work_number}

-- ---- a file more, and one less

same_bytes : (name n : List ℕ) → (b : Bool) → bytes_eq name n ≡ b → eq_by_cmp (slice_cmp nat_cmp) name n ≡ b
same_bytes name n b is =
    tied name n
    ∙ one_answer (bytes_eq n name) (bytes_eq name n)
    (λ same. sym ((bytes_eq-Decides n name).0 same), λ same. (bytes_eq-Decides n name).1 (sym same)) (bytes_eq-Decides name n)
    ∙ is

got_with : (files : Files) (n bytes name : List ℕ) (b : Bool) → bytes_eq name n ≡ b → finite.get (with_file files n bytes) name ≡ cond b (Some bytes) (finite.get files name)
got_with files n bytes name b is =
    finite.get-insert nat_list_cmp_total files n bytes name ∙ ap (λ (c : Bool). cond c (Some bytes) (finite.get files name)) (same_bytes name n b is)

got_without : (files : Files) (n name : List ℕ) (b : Bool) → bytes_eq name n ≡ b → finite.get (without_file files n) name ≡ cond b None (finite.get files name)
got_without files n name b is =
    finite.get-remove nat_list_cmp_total files n name ∙ ap (λ (c : Bool). cond c None (finite.get files name)) (same_bytes name n b is)

-- ---- at any moment

module _ (own : ℕ → List LoadState) where
  abbrev IsStream : List ℕ → List ℕ → Type 0
  IsStream name bytes = (actor : ℕ) × (file : LoadState) × Contains (own actor) file × (bytes ≡ stream_of file)
      × ((name ≡ temp_name file.file) ⊎ (name ≡ work_name file.file))

  put_stays : (files : Files) (n bytes : List ℕ) → IsStream n bytes → HasStreams own files → (name found : List ℕ) (b : Bool) → bytes_eq name n ≡ b
      → cond b (Some bytes) (finite.get files name) ≡ Some found → IsStream name found
  put_stays files n bytes is has name found true same there =
      let named : name ≡ n = (bytes_eq-Decides name n).0 same in
      let bytes_are : bytes ≡ found = cc in
      subst (λ (l : List ℕ). IsStream l found) (sym named) (subst (IsStream n) bytes_are is)
  put_stays files n bytes is has name found false same there = has name found there

  gone_stays : (files : Files) → HasStreams own files → (name found : List ℕ) (b : Bool) → cond b None (finite.get files name) ≡ Some found → IsStream name found
  gone_stays files has name found true there = absurd (let wrong : ◌≡◌ {A = Option (List ℕ)} None (Some found) = there in cc)
  gone_stays files has name found false there = has name found there

  step_stays : (actor : ℕ) (step : StepValue) (answer : Result Answer Refusal) (bytes : List ℕ) (stored : Stored) → IsOfStream (own actor) step bytes → HasStreams own stored.files
      → HasStreams own (stored_with step answer bytes stored).files
  step_stays actor (asked.Commit n root) (Ok answer) bytes stored is has = λ name found there.
      put_stays stored.files n bytes (actor, is.0, is.1, is.2, is.5) has name found (bytes_eq name n) refl (sym (got_with stored.files n bytes name (bytes_eq name n) refl) ∙ there)
  step_stays actor (asked.Commit n root) (Err refusal) bytes stored is has = has
  step_stays actor (asked.Delete n) (Ok answer) bytes stored is has = λ name found there.
      gone_stays stored.files has name found (bytes_eq name n) (sym (got_without stored.files n name (bytes_eq name n) refl) ∙ there)
  step_stays actor (asked.Delete n) (Err refusal) bytes stored is has = has
  step_stays actor other answer bytes stored is has = has

pub streams_stay : StreamsStay
streams_stay own [] stored each has = has
streams_stay own (f ∷ fs) stored each has =
    streams_stay own fs (stored_by f stored) each.1 (step_stays own f.event.actor f.event.step f.event.answer f.bytes stored each.0 has)

-- ---- by what is last done to a name

abbrev asks_all : List Event → List Ask
asks_all [] = []
asks_all (e ∷ es) = ask_of e ∷ asks_all es

module _ (own : ℕ → List LoadState) (name : List ℕ) where
  abbrev Fits : Option Bool → Option (List ℕ) → Option (List ℕ) → Type 0
  Fits None found before = found ≡ before
  Fits (Some true) found before = (bytes : List ℕ) × (IsStream own name bytes × (found ≡ Some bytes))
  Fits (Some false) found before = found ≡ None

  put_fits : (files : Files) (n bytes : List ℕ) (b : Bool) → bytes_eq name n ≡ b → IsStream own n bytes → (found : Option (List ℕ))
      → found ≡ cond b (Some bytes) (finite.get files name)
      → Fits (when b true) found (finite.get files name)
  put_fits files n bytes true same is found there =
      (bytes, (subst (λ (l : List ℕ). IsStream own l bytes) (sym ((bytes_eq-Decides name n).0 same)) is, there))
  put_fits files n bytes false same is found there = there

  gone_fits : (files : Files) (b : Bool) (found : Option (List ℕ)) → found ≡ cond b None (finite.get files name) → Fits (when b false) found (finite.get files name)
  gone_fits files true found there = there
  gone_fits files false found there = there

  step_fits : (actor : ℕ) (step : StepValue) (answer : Result Answer Refusal) (bytes : List ℕ) (stored : Stored) → IsOfStream (own actor) step bytes
      → Fits (touch name step answer) (finite.get (stored_with step answer bytes stored).files name) (finite.get stored.files name)
  step_fits actor (asked.Commit n root) (Ok answer) bytes stored is =
      put_fits stored.files n bytes (bytes_eq name n) refl (actor, is.0, is.1, is.2, is.5) _ (got_with stored.files n bytes name (bytes_eq name n) refl)
  step_fits actor (asked.Commit n root) (Err refusal) bytes stored is = refl
  step_fits actor (asked.Delete n) (Ok answer) bytes stored is = gone_fits stored.files (bytes_eq name n) _ (got_without stored.files n name (bytes_eq name n) refl)
  step_fits actor (asked.Delete n) (Err refusal) bytes stored is = refl
  step_fits actor other answer bytes stored is = refl

  moved : (a : Option Bool) (found mid before : Option (List ℕ)) → found ≡ mid → Fits a mid before → Fits a found before
  moved None found mid before is fits = is ∙ fits
  moved (Some true) found mid before is fits = (fits.0, (fits.1.0, is ∙ fits.1.1))
  moved (Some false) found mid before is fits = is ∙ fits

  both : (a b : Option Bool) (found mid before : Option (List ℕ)) → Fits a mid before → Fits b found mid → Fits (later a b) found before
  both a None found mid before first second = moved a found mid before second first
  both a (Some true) found mid before first second = second
  both a (Some false) found mid before first second = second

  run_fits : (fs : List FileEvent) (stored : Stored) → AreOfStreams own fs
      → Fits (fate name (asks_all (events_of fs))) (finite.get (stored_after fs stored).files name) (finite.get stored.files name)
  run_fits [] stored each = refl
  run_fits (f ∷ fs) stored each =
      both (touch name f.event.step f.event.answer) (fate name (asks_all (events_of fs))) (finite.get (stored_after fs (stored_by f stored)).files name)
      (finite.get (stored_by f stored).files name) (finite.get stored.files name)
      (step_fits f.event.actor f.event.step f.event.answer f.bytes stored each.0) (run_fits fs (stored_by f stored) each.1)

  -- where only one actor does anything to it
  abbrev LeavesIt : ℕ → FileEvent → Type 0
  LeavesIt actor f = f.event.actor ≢ actor → touch name f.event.step f.event.answer ≡ None

  alone : (actor : ℕ) (fs : List FileEvent) → AllByRecursion (LeavesIt actor) fs → fate name (asks_all (events_of fs)) ≡ fate name (asks_of actor (events_of fs))
  alone actor [] each = refl
  alone actor (f ∷ fs) each = dite (ℕ_discrete f.event.actor actor)
      (λ mine.
      ap (later (touch name f.event.step f.event.answer)) (alone actor fs each.1)
      ∙ ap (λ (b : Bool). fate name (if b then ask_of f.event ∷ asks_of actor (events_of fs) else asks_of actor (events_of fs))) (sym (eq-eqb f.event.actor actor mine)))
      (λ other.
      ap (λ (o : Option Bool). later o (fate name (asks_all (events_of fs)))) (each.0 other) ∙ later_none (fate name (asks_all (events_of fs))) ∙ alone actor fs each.1
      ∙ ap (λ (b : Bool). fate name (if b then ask_of f.event ∷ asks_of actor (events_of fs) else asks_of actor (events_of fs))) (sym (ne_eqb f.event.actor actor other)))

-- ---- jobs

-- one of the files that are a worker's own
own_of : (mine : Bool) (job : Job) (rest : List LoadState) (file : LoadState) → Contains (if mine then file_of job ∷ rest else rest) file
    → ((mine ≡ true) × (file ≡ file_of job)) ⊎ Contains rest file
own_of true job rest file (zero, within, is) = inl (refl, sym is)
own_of true job rest file (suc i, within, is) = inr (i, omega (arith, within), is)
own_of false job rest file there = inr there

record IsOwnJob (count worker : ℕ) (jobs : List Job) (file : LoadState) : Type 0 where
  job : Job
  there : Contains jobs job
  file_is : file ≡ file_of job
  mine : job.number % count ≡ worker

own_job : (count worker : ℕ) (jobs : List Job) (file : LoadState) → Contains (own_files count worker jobs) file → IsOwnJob count worker jobs file
own_job count worker [] file (i, within, is) = absurd (omega (arith, within))
own_job count worker (j ∷ jobs) file there = elim (own_of (j.number % count == worker) j (own_files count worker jobs) file there) [
  | inl here ↦ record { job = j; there = (0, omega arith, refl); file_is = here.1; mine = eqb-true (j.number % count) worker here.0 }
  | inr later ↦
      let rest = own_job count worker jobs file later in
      record { job = rest.job; there = (suc rest.there.0, omega (arith, rest.there.1), rest.there.2); file_is = rest.file_is; mine = rest.mine }
]

number_in : (jobs : List Job) → HaveNumbers jobs → (job : Job) → Contains jobs job → job.number < 2 ^ 64
number_in [] numbers job (i, within, is) = absurd (omega (arith, within))
number_in (j ∷ jobs) numbers job (zero, within, is) = subst (λ (k : Job). k.number < 2 ^ 64) is numbers.0
number_in (j ∷ jobs) numbers job (suc i, within, is) = number_in jobs numbers.2 job (i, omega (arith, within), is)

differs_in : (x : ℕ) (jobs : List Job) → AllByRecursion (λ j. j.number ≢ x) jobs → (job : Job) → Contains jobs job → job.number ≢ x
differs_in x [] all job (i, within, is) = absurd (omega (arith, within))
differs_in x (j ∷ jobs) all job (zero, within, is) = λ e. all.0 (ap (λ (k : Job). k.number) is ∙ e)
differs_in x (j ∷ jobs) all job (suc i, within, is) = differs_in x jobs all.1 job (i, omega (arith, within), is)

one_job : (jobs : List Job) → HaveNumbers jobs → (a b : Job) → Contains jobs a → Contains jobs b → a.number ≡ b.number → a ≡ b
one_job [] numbers a b (i, within, is) other e = absurd (omega (arith, within))
one_job (j ∷ jobs) numbers a b (zero, within, is) (zero, below, too) e = sym is ∙ too
one_job (j ∷ jobs) numbers a b (zero, within, is) (suc k, below, too) e =
    absurd (differs_in j.number jobs numbers.1 b (k, omega (arith, below), too) (sym e ∙ ap (λ (x : Job). x.number) (sym is)))
one_job (j ∷ jobs) numbers a b (suc i, within, is) (zero, below, too) e =
    absurd (differs_in j.number jobs numbers.1 a (i, omega (arith, within), is) (e ∙ ap (λ (x : Job). x.number) (sym too)))
one_job (j ∷ jobs) numbers a b (suc i, within, is) (suc k, below, too) e =
    one_job jobs numbers.2 a b (i, omega (arith, within), is) (k, omega (arith, below), too) e

module _ (count : ℕ) (jobs : List Job) (ended : List JobEnd) (fs : List FileEvent) (stored : Stored) (some : 1 ≤ count) (streams : AreOfStreams (own_by count jobs) fs)
    (done : AreDoneBy count jobs ended (events_of fs)) (numbers : HaveNumbers jobs) (all_stored : AreStored ended) where
  abbrev own : ℕ → List LoadState
  own = own_by count jobs

  own_actor : (actor : ℕ) (file : LoadState) → Contains (own actor) file → (worker : ℕ) × (actor ≡ suc worker) × IsOwnJob count worker jobs file
  own_actor zero file (i, within, is) = absurd (omega (arith, within))
  own_actor (suc worker) file there = (worker, refl, own_job count worker jobs file there)

  module _ (job : Job) (there : Contains jobs job) where
    abbrev worker : ℕ
    worker = job.number % count

    abbrev actor : ℕ
    actor = suc worker

    abbrev IsOurs : List ℕ → Type 0
    IsOurs name = (name ≡ temp_name job.number) ⊎ (name ≡ work_name job.number)

    small : job.number < 2 ^ 64
    small = number_in jobs numbers job there

    -- a file of this number is the job's
    number_of : (file : LoadState) (x y : List ℕ) → file.file < 2 ^ 64 → IsOurs x → ((x ≡ temp_name file.file) ⊎ (x ≡ work_name file.file)) → file.file ≡ job.number
    number_of file x y below (inl ours) (inl named) = temp_number file.file job.number below small (sym named ∙ ours)
    number_of file x y below (inl ours) (inr named) = absurd (temp_is_no_work job.number file.file (sym ours ∙ named))
    number_of file x y below (inr ours) (inl named) = absurd (temp_is_no_work file.file job.number (sym named ∙ ours))
    number_of file x y below (inr ours) (inr named) = work_number file.file job.number below small (sym named ∙ ours)

    below_of : (w : ℕ) (file : LoadState) → IsOwnJob count w jobs file → file.file < 2 ^ 64
    below_of w file is = subst (λ (x : LoadState). x.file < 2 ^ 64) (sym is.file_is) (number_in jobs numbers is.job is.there)

    -- whoever does anything to one of its names is its worker
    name_owner : (other : ℕ) (file : LoadState) (name : List ℕ) → Contains (own other) file → IsOurs name → ((name ≡ temp_name file.file) ⊎ (name ≡ work_name file.file))
        → other ≡ actor
    name_owner other file name has ours named =
        let by = own_actor other file has in
        let is = by.2 in
        let number : file.file ≡ job.number = number_of file name name (below_of by.0 file is) ours named in
        let same : is.job.number ≡ job.number = ap (λ (x : LoadState). x.file) (sym is.file_is) ∙ number in
        by.1 ∙ ap suc (sym is.mine ∙ ap (λ (n : ℕ). n % count) same)

    not_ours : (name n : List ℕ) (b : Bool) → (name ≡ n → ⊥) → when (bytes_eq name n) b ≡ None
    not_ours name n b differ = ap (λ (c : Bool). when c b) (other_names name n differ)

    leaves : (name : List ℕ) → IsOurs name → (f : FileEvent) → IsOfStream (own f.event.actor) f.event.step f.bytes → LeavesIt own name actor f
    leaves name ours f is other = by_step f.event.step f.event.answer is
      where
        by_step : (step : StepValue) (answer : Result Answer Refusal) → IsOfStream (own f.event.actor) step f.bytes → touch name step answer ≡ None
        by_step (asked.Commit n root) (Ok answer) is =
            not_ours name n true (λ same. other (name_owner f.event.actor is.0 name is.1 ours
            (subst (λ (l : List ℕ). (l ≡ temp_name is.0.file) ⊎ (l ≡ work_name is.0.file)) (sym same) is.5)))
        by_step (asked.Commit n root) (Err refusal) is = refl
        by_step (asked.Delete n) (Ok answer) is =
            not_ours name n false (λ same. other (name_owner f.event.actor is.0 name is.1.0 ours (inl (same ∙ is.1.1))))
        by_step (asked.Delete n) (Err refusal) is = refl
        by_step other answer is = refl

    all_leave : (name : List ℕ) → IsOurs name → (gs : List FileEvent) → AreOfStreams own gs → AllByRecursion (LeavesIt own name actor) gs
    all_leave name ours [] each = tt
    all_leave name ours (g ∷ gs) each = (leaves name ours g each.0, all_leave name ours gs each.1)

    apart : (name : List ℕ) → IsOurs name → (j : Job) → j.number < 2 ^ 64 → j.number ≢ job.number → (name ≢ temp_name j.number) × (name ≢ work_name j.number)
    apart name ours j below differ = (
      λ same. differ (number_of (file_of j) name name below ours (inl same)),
      λ same. differ (number_of (file_of j) name name below ours (inr same)),
    )

    -- what stands there at the end
    stands : (name : List ℕ) → IsOurs name → (b : Option Bool)
        → later (when (bytes_eq name (temp_name job.number)) true)
        (later (when (bytes_eq name (work_name job.number)) true) (later (when (bytes_eq name (temp_name job.number)) false) None)) ≡ b
        → Fits own name b (finite.get (stored_after fs stored).files name) (finite.get stored.files name)
    stands name ours b is =
        subst (λ (o : Option Bool). Fits own name o (finite.get (stored_after fs stored).files name) (finite.get stored.files name))
        (alone own name actor fs (all_leave name ours fs streams)
        ∙ job_fate name count worker b job refl is (apart name ours) jobs ended (asks_of actor (events_of fs)) numbers there all_stored (done worker (mod-lt job.number some)))
        (run_fits own name fs stored streams)

    abbrev verdict_of : Bool → Bool → Option Bool
    verdict_of t w = later (when t true) (later (when w true) (later (when t false) None))

    temp_gone : finite.get (stored_after fs stored).files (temp_name job.number) ≡ None
    temp_gone =
        let name = temp_name job.number in
        stands name (inl refl) (Some false)
        (ap (λ (t : Bool). verdict_of t (bytes_eq name (work_name job.number))) (same_names name)
        ∙ ap (verdict_of true) (other_names name (work_name job.number) (temp_is_no_work job.number job.number)))

    work_there : finite.get (stored_after fs stored).files (work_name job.number) ≡ Some (stream_of (file_of job))
    work_there =
        let name = work_name job.number in
        let fits = stands name (inr refl) (Some true)
        (ap (λ (t : Bool). verdict_of t (bytes_eq name (work_name job.number))) (other_names name (temp_name job.number) (λ is. temp_is_no_work job.number job.number (sym is)))
        ∙ ap (verdict_of false) (same_names name)) in
        let stream = fits.1.0 in
        let file = stream.1 in
        let by = own_actor stream.0 file stream.2 in
        let is = by.2 in
        let number : file.file ≡ job.number = number_of file name name (below_of by.0 file is) (inr refl) stream.4 in
        let same : is.job ≡ job = one_job jobs numbers is.job job is.there there (ap (λ (x : LoadState). x.file) (sym is.file_is) ∙ number) in
        fits.1.1 ∙ ap Some (stream.3 ∙ ap stream_of (is.file_is ∙ ap file_of same))

pub jobs_have_names : JobsHaveNames
jobs_have_names count jobs ended fs stored some streams done numbers all_stored job there =
    (work_there count jobs ended fs stored some streams done numbers all_stored job there, temp_gone count jobs ended fs stored some streams done numbers all_stored job there)
