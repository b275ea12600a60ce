-- How many steps a sweep still makes at most.
use Rattle.script_runner.proofs.Prelude.{◌≡◌, ◌<◌, ℕ, List, [], ◌∷◌, ◌++◌, length, Option, Some, None, Ok, refl, sym, ap, subst, arith, Phase, SlotTable, Collection, CoreState, Event, IsRunning, running_step, CollectionRun, Collects}
use Rattle.std.proofs.Common.{max}
use Rattle.actor_parts.specs.declared.step.Answer.TheVariants as answers
use Rattle.actor_parts.specs.StepValue as asked
use Rattle.gc_steps.specs.FewSources.{HasFewSources}
use Rattle.gc_steps.specs.StepsToCome.{old_from, steps_to_come}
use Rattle.gc_steps.proofs.FewSources.{few_step}
use Rattle.store_core.specs.Collecting.{GoesOn}
use Rattle.store_core.specs.State.{IsUnderWayIn}
use Rattle.store_core.proofs.Making.{up_of}

-- ---- the sources, and the steps that come

abbrev most_by : SlotTable → Option Collection → ℕ
most_by t None = 0
most_by t (Some c) = max (old_from c.snapshot t 0) (length c.sweep.sources.items)

-- no more sources than these
abbrev pub most_in : CoreState → ℕ
most_in c = most_by c.tables.held c.collection

abbrev pub few_by : ℕ → SlotTable → Option Collection → Type 0
few_by most t None = Unit {0}
few_by most t (Some c) = HasFewSources most t c

abbrev pub IsFewIn : ℕ → CoreState → Type 0
IsFewIn most c = few_by most c.tables.held c.collection

abbrev pub left_by : ℕ → SlotTable → Option Collection → ℕ
left_by most t None = 0
left_by most t (Some c) = steps_to_come most t c

-- the steps that come at most, where so many sources are
abbrev pub left_in : ℕ → CoreState → ℕ
left_in most c = left_by most c.tables.held c.collection

-- ---- a step

pub few_after : (most : ℕ) (phase : Phase) (old new : CoreState) → IsUnderWayIn old.tables.held old.collection → IsFewIn most old → (goes : GoesOn phase old new)
    → HasFewSources most new.tables.held goes.after
few_after most phase old new under few goes =
    few_step most old.tables new.tables old.known new.known old.disk new.disk goes.before goes.after (subst (few_by most old.tables.held) goes.ran few)
    (subst (IsUnderWayIn old.tables.held) goes.ran under) goes.steps goes.tables

pub few_on : (most : ℕ) (phase : Phase) (old new : CoreState) → IsUnderWayIn old.tables.held old.collection → IsFewIn most old → GoesOn phase old new → IsFewIn most new
few_on most phase old new under few goes = subst (few_by most new.tables.held) (sym goes.runs) (few_after most phase old new under few goes)

pub left_on : (most : ℕ) (phase : Phase) (old new : CoreState) → IsUnderWayIn old.tables.held old.collection → IsFewIn most old → GoesOn phase old new →
    left_in most new < left_in most old
left_on most phase old new under few goes =
    let fewer = goes.nearer most (few_after most phase old new under few goes).chosen in
    omega (arith, fewer, ap (left_by most old.tables.held) goes.ran, ap (left_by most new.tables.held) goes.runs)

-- ---- a step of a sweep

pub record SweptOn (most : ℕ) (old new : CoreState) : Type 0 where
  pub runs : new.stop ≡ None
  pub few : IsFewIn most new
  pub fewer : left_in most new < left_in most old

module _ (C : Type 0) (state : C → CoreState) where
  pub swept_on : (most : ℕ) (phase : Phase) (old new : C) → IsRunning (state old) → (state old).stop ≡ None → IsFewIn most (state old) →
      Collects C state (Ok (answers.Did phase)) old new
      → SweptOn most (state old) (state new)
  swept_on most phase old new running runs few collects =
      let e : Event = record { actor = 0; step = asked.GcStep; answer = Ok (answers.Did phase); buf = collects.0 } in
      let steps = running_step (state old) (state new) e runs collects.1 in
      let under = (up_of (state old) runs running).under_way in
      record {
        runs = steps.stops;
        few = few_on most phase (state old) (state new) under few steps.made.row.0;
        fewer = left_on most phase (state old) (state new) under few steps.made.row.0;
      }

  -- one more
  pub run_then : (phases : List Phase) (phase : Phase) (old mid new : C) → CollectionRun C state phases old mid → Collects C state (Ok (answers.Did phase)) mid new →
      CollectionRun C state (phases ++ phase ∷ []) old new
  run_then [] phase old mid new run one = (new, (subst (λ (c : C). Collects C state (Ok (answers.Did phase)) c new) run one, refl))
  run_then (first ∷ more) phase old mid new run one = (run.0, (run.1.0, run_then more phase run.0 mid new run.1.1 one))
