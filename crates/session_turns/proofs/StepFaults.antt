-- What a step leaves of the disk: it is the same one, later, and its count of faults tells what was answered.
use Rattle.std.proofs.Common.{ℕ, Option, Some, None, Result, sym, subst}
use Rattle.dd_disk.specs.Ending.{Ending, Done, CountsFault, ending}
use Rattle.dd_disk.specs.View.{DiskView, IsLater}
use Rattle.dd_disk.proofs.Later.{later_on}
use Rattle.actor_parts.specs.declared.step.Answer.{Answer}
use Rattle.actor_parts.specs.StepValue as asked
use Rattle.actor_parts.specs.StepValue.{StepValue}
use Rattle.refusals.specs.declared.refusal.Refusal.{Refusal}
use Rattle.store_state.specs.Refused.{blames}
use Rattle.store_core.specs.declared.stop.Stop.{Stop}
use Rattle.store_core.specs.Core.{CoreStep, Effect, StepsOr}
use Rattle.store_core.specs.State.{CoreState, Event}
use Rattle.store_core.proofs.Stepping.{step_later}

-- The same disk, later, whose count of faults tells how calls ended.
pub record Went (by : Ending) (old new : DiskView) : Type 0 where
  pub later : IsLater old new
  pub faults : CountsFault by old.faults new.faults

pub went_on : (by : Ending) (old mid new : DiskView) → Went Done old mid → Went by mid new → Went by old new
went_on by old mid new first second = record {
  later = later_on old mid new first.later second.later;
  faults = subst (λ (n : ℕ). CountsFault by n new.faults) first.faults second.faults;
}

-- ---- steps

module _ (old new : CoreState) where
  effect_faults : (step : StepValue) (answer : Result Answer Refusal) → Effect step answer old new → CountsFault (ending blames answer) old.disk.faults new.disk.faults
  effect_faults asked.GcStep answer effect = effect.faults_are
  effect_faults other answer effect = effect.disk.faults_are

  step_faults : (e : Event) (stop : Option Stop) → StepsOr stop e old new → CountsFault (ending blames e.answer) old.disk.faults new.disk.faults
  step_faults e None steps = effect_faults e.step e.answer steps.made.effect
  step_faults e (Some stop) steps =
      subst (λ (answer : Result Answer Refusal). CountsFault (ending blames answer) old.disk.faults new.disk.faults) (sym steps.answer_is) steps.same.disk.faults_are

  pub step_went : (e : Event) → CoreStep old e new → Went (ending blames e.answer) old.disk new.disk
  step_went e made = record { later = step_later old new e old.stop made; faults = step_faults e old.stop made }
