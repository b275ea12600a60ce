-- A store is filled: what was asked for as the first actor, and as workers, one after the other.
use Rattle.std.proofs.Common.{◌≡◌, ◌<◌, ◌≤◌, ℕ, length, arith, List, [], ◌∷◌, ◌++◌, map, Option, Some, None, Result, Ok, Err, refl, sym, ap, ◌∙◌, subst}
use Rattle.std.specs.List.{AllByRecursion}
use Rattle.actor_parts.specs.declared.actor.TheConstants.{ACTORS}
use Rattle.actor_parts.specs.declared.answered.Answered.{Answered}
use Rattle.actor_parts.specs.declared.step.Answer.{Answer}
use Rattle.actor_parts.specs.Asking.{Ask, Asks, AsksAll}
use Rattle.actor_parts.specs.StepValue as asked
use Rattle.actor_parts.specs.StepValue.{IsStep, StepValue}
use Rattle.refusals.specs.declared.refusal.Refusal.{Refusal}
use Rattle.actor_parts.specs.declared.step.Answer.TheVariants as answers
use Rattle.store_core.specs.declared.stop.Stop.{Stop}
use Rattle.store_core.specs.Core.{CoreStep, Row, StepsOr}
use Rattle.store_core.specs.Runs.{CoreRun}
use Rattle.store_core.specs.State.{CoreState, Event}
use Rattle.shared_store.specs.Events.{event_of}
use Rattle.namespace.specs.Listing.{NamedRoot}
use Rattle.refusals.specs.declared.refusal.Refusal.TheVariants.{NotEmpty, Stopped}
use Rattle.shared_work.specs.Whole.{BeginsBy, Concludes, Concluded, CountsAll, FillsEmpty, IsOneAsk, Lists, Outcome, Plan, Uncollected, Uncounted, Unlisted, WorksThrough}
use Rattle.shared_work.specs.Working.{CollectsOnce, GoesOn, Sweeps, Swept, Unbegun}

-- ---- runs

module _ {C : Type 0} (state : C → CoreState) where
  pub run_append : (es fs : List Event) (old mid new : C) → CoreRun C state es old mid → CoreRun C state fs mid new → CoreRun C state (es ++ fs) old new
  run_append [] fs old mid new h k = subst (λ (c : C). CoreRun C state fs c new) h k
  run_append (e ∷ es) fs old mid new (next, (step, h)) k = (next, (step, run_append es fs next mid new h k))

  -- what a core is asked by its only caller
  abbrev pub solo_asks : Asks ((C × ℕ) × Answered)
  solo_asks old step answer buf new =
      CoreStep (state old.0.0) (record { actor = old.0.1; step = step; answer = answer; buf = buf }) (state new.0.0) × (new.0.1 ≡ old.0.1)

  pub solo_run : (x : ℕ) (all : List Ask) (old new : (C × ℕ) × Answered) → old.0.1 ≡ x → AsksAll solo_asks old all new
      → CoreRun C state (map (event_of x) all) old.0.0 new.0.0
  solo_run x [] old new is h = ap (λ (p : (C × ℕ) × Answered). p.0.0) h
  solo_run x (a ∷ all) old new is (mid, (made, h)) = (
    mid.0.0,
    (
      subst (λ (n : ℕ). CoreStep (state old.0.0) (record { actor = n; step = a.step; answer = a.answer; buf = a.buf }) (state mid.0.0)) is made.0,
      solo_run x all mid new (made.1 ∙ is) h,
    ),
  )

-- ---- steps that are of some kinds

module _ (P : StepValue → Type 0) where
  abbrev AreAll : List Ask → Type 0
  AreAll all = AllByRecursion (λ a. P a.step) all

  is_by : (step : StepValue) (a : Ask) → a.step ≡ step → P step → P a.step
  is_by step a is has = subst (λ (s : StepValue). P s) (sym is) has

  all_append : (xs ys : List Ask) → AreAll xs → AreAll ys → AreAll (xs ++ ys)
  all_append [] ys h k = k
  all_append (x ∷ xs) ys h k = (h.0, all_append xs ys h.1 k)

  one_ask : (step : StepValue) (answer : Result Answer Refusal) (all : List Ask) → P step → IsOneAsk step answer all → AreAll all
  one_ask step answer all has (a, (is, step_is, answer_is)) = subst AreAll (sym is) (is_by step a step_is has, tt)

  module _ (start : (percent : ℕ) → P (asked.GcStart percent)) (step : P asked.GcStep) where
    sweeping : (all : List Ask) → AllByRecursion GoesOn all → AreAll all
    sweeping [] all = tt
    sweeping (a ∷ more) all = (is_by asked.GcStep a all.0.0 step, sweeping more all.1)

    swept : (result : Result (Unit {0}) Refusal) (all : List Ask) → Sweeps result all → AreAll all
    swept result all s = subst AreAll (sym s.all_is) (all_append s.steps (s.last ∷ []) (sweeping s.steps s.each) (is_by asked.GcStep s.last s.last_is step, tt))

    pub once_asks : (percent : ℕ) (result : Result (Unit {0}) Refusal) (all : List Ask) → CollectsOnce percent result all → AreAll all
    once_asks percent result all (Swept a steps step_is done sweeps) = (is_by (asked.GcStart percent) a step_is (start percent), swept result steps sweeps)
    once_asks percent result all (Unbegun a refusal is step_is refused) = (is_by (asked.GcStart percent) a step_is (start percent), tt)

    module _ (names : P asked.ListNames) (unique : P asked.Unique) where
      lists_asks : (result : Result _ Refusal) (all : List Ask) → Lists result all → AreAll all
      lists_asks (Ok files) all is = one_ask asked.ListNames _ all names is
      lists_asks (Err refusal) all is = one_ask asked.ListNames _ all names is

      counts_asks : (result : Result _ Refusal) (all : List Ask) → CountsAll result all → AreAll all
      counts_asks (Ok sum) all is = one_ask asked.Unique _ all unique is
      counts_asks (Err refusal) all is = one_ask asked.Unique _ all unique is

      pub conclude_asks : (percent : ℕ) (came : Result _ Refusal) (all : List Ask) → Concludes percent came all → AreAll all
      conclude_asks percent came all (Uncollected refusal collected is once) = once_asks percent (Err refusal) collected once
      conclude_asks percent came all (Unlisted refusal collected list is once lists) =
          all_append collected list (once_asks percent (Ok tt) collected once) (lists_asks (Err refusal) list lists)
      conclude_asks percent came all (Uncounted refusal collected list count files is once lists counts) =
          all_append collected (list ++ count) (once_asks percent (Ok tt) collected once)
          (all_append list count (lists_asks (Ok files) list lists) (counts_asks (Err refusal) count counts))
      conclude_asks percent came all (Concluded summary collected list count is once lists counts) =
          all_append collected (list ++ count) (once_asks percent (Ok tt) collected once)
          (all_append list count (lists_asks (Ok summary.files) list lists) (counts_asks (Ok _) count counts))

-- ---- steps that any actor may ask for

abbrev pub AreSteps : List Ask → Type 0
AreSteps all = AllByRecursion (λ a. IsStep a.step) all

pub lists_steps : (result : Result _ Refusal) (all : List Ask) → Lists result all → AreSteps all
lists_steps result all lists = lists_asks IsStep (λ some. tt) tt tt tt result all lists

pub conclude_steps : (percent : ℕ) (came : Result _ Refusal) (all : List Ask) → Concludes percent came all → AreSteps all
conclude_steps percent came all concludes = conclude_asks IsStep (λ some. tt) tt tt tt percent came all concludes

-- ---- events

abbrev pub AreEvents : List Event → Type 0
AreEvents es = AllByRecursion (λ e. IsStep e.step × (e.actor < ACTORS)) es

pub events_append : (es fs : List Event) → AreEvents es → AreEvents fs → AreEvents (es ++ fs)
events_append [] fs h k = k
events_append (e ∷ es) fs h k = (h.0, events_append es fs h.1 k)

pub events_by : (x : ℕ) (all : List Ask) → x < ACTORS → AreSteps all → AreEvents (map (event_of x) all)
events_by x [] below steps = tt
events_by x (a ∷ all) below steps = ((steps.0, below), events_by x all below steps.1)

-- ---- names that were listed

-- a step that lists leaves each actor at what it is at
module _ {C : Type 0} (state : C → CoreState) where
  parts_stay : (stop : Option Stop) (files : List NamedRoot) (e : Event) (old new : CoreState) → e.step ≡ asked.ListNames → e.answer ≡ Ok (answers.Listed files)
      → StepsOr stop e old new → new.parts ≡ old.parts
  parts_stay None files e old new step_is answer_is steps =
      let row = subst (λ (r : Result Answer Refusal). Row asked.ListNames e.actor r e.buf old new) answer_is
      (subst (λ (s : StepValue). Row s e.actor e.answer e.buf old new) step_is steps.made.row) in
      row.1
  parts_stay (Some stop) files e old new step_is answer_is steps =
      absurd (let both : ◌≡◌ {A = Result Answer Refusal} (Ok (answers.Listed files)) (Err (Stopped stop.at)) = sym answer_is ∙ steps.answer_is in cc)

  pub listed_idle : (files : List NamedRoot) (all : List Ask) (old new : C) → Lists (Ok files) all → CoreRun C state (map (event_of 0) all) old new
      → (state new).parts ≡ (state old).parts
  listed_idle files all old new (a, (is, step_is, answer_is)) run =
      let one : CoreRun C state (event_of 0 a ∷ []) old new = subst (λ (l : List Ask). CoreRun C state (map (event_of 0) l) old new) is run in
      ap (λ (c : C). (state c).parts) one.1.1
      ∙ parts_stay (state old).stop files (event_of 0 a) (state old) (state one.0) step_is answer_is one.1.0

-- ---- the whole of it

module _ {C : Type 0} (state : C → CoreState) (plan : Plan) where
  -- names could not be listed
  pub unlisted : (refusal : Refusal) (all : List Ask) (old new : C) → Lists (Err refusal) all → CoreRun C state (map (event_of 0) all) old new
      → WorksThrough state plan (Err refusal) old new
  unlisted refusal all old new (a, (is, step_is, answer_is)) run = record {
    steps = map (event_of 0) all;
    run = run;
    each = events_by 0 all (omega arith) (lists_steps (Err refusal) all (a, (is, step_is, answer_is)));
    steps_are = record {
      first = event_of 0 a;
      rest = [];
      steps_are = ap (map (event_of 0)) is;
      actor_is = refl;
      step_is = step_is;
      goes = subst (λ (r : Result Answer Refusal). BeginsBy plan r (Err refusal) []) (sym answer_is) (refl, refl);
    };
  }

  -- there were names
  pub not_empty : (files : List NamedRoot) (all : List Ask) (old new : C) → 1 ≤ length files → Lists (Ok files) all
      → CoreRun C state (map (event_of 0) all) old new → WorksThrough state plan (Err (NotEmpty (length files))) old new
  not_empty [] all old new some lists run = absurd (omega arith)
  not_empty (file ∷ more) all old new some (a, (is, step_is, answer_is)) run = record {
    steps = map (event_of 0) all;
    run = run;
    each = events_by 0 all (omega arith) (lists_steps (Ok (file ∷ more)) all (a, (is, step_is, answer_is)));
    steps_are = record {
      first = event_of 0 a;
      rest = [];
      steps_are = ap (map (event_of 0)) is;
      actor_is = refl;
      step_is = step_is;
      goes = subst (λ (r : Result Answer Refusal). BeginsBy plan r (Err (NotEmpty (length (file ∷ more)))) []) (sym answer_is) (refl, refl);
    };
  }

  -- there were none
  pub filled : (files : List NamedRoot) (came : Outcome) (all : List Ask) (old mid new : C) → length files ≡ 0 → Lists (Ok files) all
      → CoreRun C state (map (event_of 0) all) old mid → FillsEmpty state plan came mid new → WorksThrough state plan came old new
  filled [] came all old mid new none (a, (is, step_is, answer_is)) run fills = record {
    steps = map (event_of 0) all ++ fills.steps;
    run = run_append state (map (event_of 0) all) fills.steps old mid new run fills.run;
    each = events_append (map (event_of 0) all) fills.steps (events_by 0 all (omega arith) (lists_steps (Ok []) all (a, (is, step_is, answer_is)))) fills.each;
    steps_are = record {
      first = event_of 0 a;
      rest = fills.steps;
      steps_are = ap (λ (l : List Ask). map (event_of 0) l ++ fills.steps) is;
      actor_is = refl;
      step_is = step_is;
      goes = subst (λ (r : Result Answer Refusal). BeginsBy plan r came fills.steps) (sym answer_is) fills.on_empty;
    };
  }
  filled (file ∷ more) came all old mid new none lists run fills = absurd (omega arith)
