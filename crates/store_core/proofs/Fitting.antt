-- What is answered is of the step that was asked for.
use Rattle.std.specs.Prelude.{IfOk}
use Rattle.actor_parts.specs.Asking.{IsAnswerTo}
use Rattle.actor_parts.specs.StepValue as asked
use Rattle.actor_parts.specs.declared.step.Answer.TheVariants as answers
use Rattle.store_core.specs.Core.{AnswersFit}
use Rattle.store_core.proofs.Prelude.{ℕ, List, Option, Some, None, Result, Ok, Err, Answer, StepValue, Refusal, Stop, StepsOr, Row, CoreState}

module _ (actor : ℕ) (buf : List ℕ) (old new : CoreState) where
  row_fits : (step : StepValue) (answer : Answer) → Row step actor (Ok answer) buf old new → IsAnswerTo step answer
  row_fits asked.Begin answers.Begun row = tt
  row_fits (asked.Claim seg) answers.Held row = tt
  row_fits (asked.Claim seg) answers.Absent row = tt
  row_fits (asked.Seal offered) (answers.Sealed id count) row = (row.some, row.few)
  row_fits (asked.Commit name root) (answers.Committed sequence) row = tt
  row_fits asked.Abort answers.Aborted row = tt
  row_fits (asked.OpenRead name) (answers.Opened count) row = tt
  row_fits asked.ReadNext (answers.Bytes count) row = tt
  row_fits asked.ReadNext answers.End row = tt
  row_fits asked.EndRead answers.Dropped row = tt
  row_fits (asked.Delete name) (answers.Deleted sequence) row = tt
  row_fits asked.ListNames (answers.Listed files) row = tt
  row_fits (asked.GcStart percent) (answers.Started snapshot) row = tt
  row_fits asked.GcStep (answers.Did phase) row = tt
  row_fits asked.GcStep (answers.Done freed copied) row = tt
  row_fits asked.Stat answer row = tt
  row_fits asked.Unique (answers.Unique segments bytes) row = tt
  row_fits other answer row = absurd row

  step_fits : (stop : Option Stop) (step : StepValue) (answer : Result Answer Refusal)
      → StepsOr stop (record { actor = actor; step = step; answer = answer; buf = buf }) old new → IfOk answer (IsAnswerTo step)
  step_fits stop step (Err refusal) made = tt
  step_fits (Some at) step (Ok answer) made = absurd (let is = made.answer_is in cc)
  step_fits None step (Ok answer) made = row_fits step answer made.made.row

pub answers_fit : (C : Type 0) (state : C → CoreState) → AnswersFit C state
answers_fit C state e old new made = step_fits e.actor e.buf (state old) (state new) (state old).stop e.step e.answer made
