-- What a whole load asks for is due: of the first actor whatever came before, and of workers by their jobs' files.
use Rattle.std.proofs.Common.{◌≡◌, ◌==◌, if◌then◌else◌, ℕ, zero, suc, Bool, false, List, [], ◌∷◌, ◌++◌, map, Option, Some, None, Result, Ok, Err, refl, ap, ◌∙◌, sym, subst, arith, eq-eqb, inl, inr, ne_eqb}
use Rattle.std.specs.List.{AllByRecursion}
use Rattle.std.proofs.lemmas.Bool.{cases_lt}
use Rattle.std.proofs.lemmas.List.{append-nil}
use Rattle.actor_parts.specs.Asking.{Ask}
use Rattle.actor_parts.specs.StepValue as asked
use Rattle.actor_parts.specs.StepValue.{StepValue}
use Rattle.load_stream.specs.Load.{LoadState}
use Rattle.store_core.specs.State.{Event}
use Rattle.shared_store.specs.Events.{event_of}
use Rattle.ingest_workers.specs.declared.job.JobEnd.{JobEnd}
use Rattle.ingest_workers.specs.Ingesting.{asks_of}
use Rattle.ingest_workers.specs.Owing.{AreAllOwed, AreOwed, IsOwed, JobsAreOwed, own_files}
use Rattle.ingest_workers.specs.declared.job.Job.{Job}
use Rattle.refusals.specs.declared.refusal.Refusal.{Refusal}
use Rattle.shared_work.specs.Whole.{EndsBy, Outcome, Plan, WorksOnEmpty, refused_in, streams_of}
use Rattle.shared_work.specs.Working.{Again, AskedByWorker, Broke, CollectsOften, Ended}
use Rattle.shared_work.proofs.Filling.{conclude_asks, once_asks}
use Rattle.shared_work.proofs.ClashingRuns.{asks_append}

-- ---- steps that are due whatever was asked for before

abbrev IsFree : StepValue → Type 0
IsFree asked.ListNames = Unit {0}
IsFree (asked.GcStart percent) = Unit {0}
IsFree asked.GcStep = Unit {0}
IsFree asked.Unique = Unit {0}
IsFree step = ⊥

abbrev AreFree : List Ask → Type 0
AreFree all = AllByRecursion (λ a. IsFree a.step) all

free_step : (own : List LoadState) (before : List Ask) (step : StepValue) → IsFree step → IsOwed own before step
free_step own before asked.ListNames free = tt
free_step own before (asked.GcStart percent) free = tt
free_step own before asked.GcStep free = tt
free_step own before asked.Unique free = tt
free_step own before step free = absurd free

free_owed : (own : List LoadState) (before all : List Ask) → AreFree all → AreOwed own before all
free_owed own before [] free = tt
free_owed own before (a ∷ all) free = (free_step own before a.step free.0, free_owed own (before ++ a ∷ []) all free.1)

free_append : (xs ys : List Ask) → AreFree xs → AreFree ys → AreFree (xs ++ ys)
free_append [] ys first second = second
free_append (x ∷ xs) ys first second = (first.0, free_append xs ys first.1 second)

often_free : (percent : ℕ) (result : Result (Unit {0}) Refusal) (most : ℕ) (all : List Ask) → CollectsOften percent result most all → AreFree all
often_free percent result most all (Ended _ is) = tt
often_free percent result most all (Broke _ refusal _ is once) = once_asks IsFree (λ some. tt) tt percent (Err refusal) all once
often_free percent result _ _ (Again less first more once often) =
    free_append first more (once_asks IsFree (λ some. tt) tt percent (Ok tt) first once) (often_free percent result less more often)

last_free : (percent : ℕ) (refused : Option Refusal) (came : Outcome) (last : List Ask) → EndsBy percent refused came last → AreFree last
last_free percent (Some refusal) came last ends = subst AreFree (sym ends.0) tt
last_free percent None came last ends = conclude_asks IsFree (λ some. tt) tt tt tt percent came last ends

-- ---- what each actor asked for

asks_own : (x : ℕ) (all : List Ask) → asks_of x (map (event_of x) all) ≡ all
asks_own x [] = refl
asks_own x (a ∷ all) =
    let more : List Ask = asks_of x (map (event_of x) all) in
    ap (λ (b : Bool). if b then a ∷ more else more) (eq-eqb x x refl) ∙ ap (λ (l : List Ask). a ∷ l) (asks_own x all)

pub asks_others : (x w : ℕ) (all : List Ask) → (x == w) ≡ false → asks_of w (map (event_of x) all) ≡ []
asks_others x w [] differ = refl
asks_others x w (a ∷ all) differ =
    let more : List Ask = asks_of w (map (event_of x) all) in
    ap (λ (b : Bool). if b then a ∷ more else more) differ ∙ asks_others x w all differ

module _ (first : Ask) (beside : List Event) (last : List Ask) where
  -- all steps of a load that came to a store without names
  abbrev pub all_steps : List Event
  all_steps = event_of 0 first ∷ (beside ++ map (event_of 0) last)

  by_first : asks_of 0 all_steps ≡ first ∷ (asks_of 0 beside ++ last)
  by_first =
      ap (λ (l : List Ask). first ∷ l) (asks_append 0 beside (map (event_of 0) last) ∙ ap (λ (l : List Ask). asks_of 0 beside ++ l) (asks_own 0 last))

  pub by_worker : (worker : ℕ) → asks_of (suc worker) all_steps ≡ asks_of (suc worker) beside
  by_worker worker =
      let more : List Ask = asks_of (suc worker) (beside ++ map (event_of 0) last) in
      let differ : (0 == suc worker) ≡ false = ne_eqb 0 (suc worker) (λ same. absurd (omega (arith, same))) in
      ap (λ (b : Bool). if b then first ∷ more else more) differ ∙ asks_append (suc worker) beside (map (event_of 0) last)
      ∙ ap (λ (l : List Ask). asks_of (suc worker) beside ++ l) (asks_others 0 (suc worker) last differ)
      ∙ append-nil (asks_of (suc worker) beside)

-- ---- all of it

worker_owed : JobsAreOwed → (count worker : ℕ) (jobs : List Job) (ended : Option (List JobEnd)) (all : List Ask) → AskedByWorker count worker jobs ended all
    → AreOwed (own_files count worker jobs) [] all
worker_owed owed count worker jobs None all is = subst (AreOwed (own_files count worker jobs) []) (sym is) tt
worker_owed owed count worker jobs (Some ended) all is = owed count worker jobs ended [] all is

pub all_owed : JobsAreOwed → (plan : Plan) (came : Outcome) (first : Ask) (rest : List Event) → first.step ≡ asked.ListNames → (on : WorksOnEmpty plan came rest)
    → AreAllOwed (streams_of plan) (all_steps first on.beside on.last)
all_owed owed plan came first rest step_is on zero =
    subst (AreOwed [] []) (sym (by_first first on.beside on.last))
    (free_owed [] [] (first ∷ (asks_of 0 on.beside ++ on.last)) (
      subst (λ (s : StepValue). IsFree s) (sym step_is) tt,
      free_append (asks_of 0 on.beside) on.last (often_free plan.percent on.collected 1024 (asks_of 0 on.beside) on.collector)
          (last_free plan.percent (refused_in on.ended on.collected) came on.last on.ends),
    ))
all_owed owed plan came first rest step_is on (suc worker) =
    subst (AreOwed (own_files plan.workers worker plan.jobs) []) (sym (by_worker first on.beside on.last worker))
    (elim (cases_lt worker plan.workers) [
      | inl below ↦ worker_owed owed plan.workers worker plan.jobs on.ended (asks_of (suc worker) on.beside) (on.workers worker below)
      | inr beyond ↦ subst (AreOwed (own_files plan.workers worker plan.jobs) []) (sym (on.others (suc worker) (omega (arith, beyond)))) tt
    ])
