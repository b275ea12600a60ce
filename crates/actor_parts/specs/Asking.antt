-- What callers ask for, and what a step may answer.
use Rattle.std.specs.Prelude.{◌≡◌, ◌≤◌, ℕ, List, [], ◌∷◌, length, Result}
use Rattle.actor_parts.specs.declared.step.Answer.{Answer}
use Rattle.actor_parts.specs.declared.step.Answer.TheVariants as answers
use Rattle.actor_parts.specs.StepValue as asked
use Rattle.actor_parts.specs.StepValue.{StepValue}
use Rattle.refusals.specs.declared.refusal.Refusal.{Refusal}

-- a step that was asked for, what was answered, and what the buffer then held
pub record Ask : Type 0 where
  pub step : StepValue
  pub answer : Result Answer Refusal
  pub buf : List ℕ

-- what a caller's steps do, as `asks` of StoreCalls
abbrev pub Asks : Type 0 → Type 1
Asks S = S → StepValue → Result Answer Refusal → List ℕ → S → Type 0

-- these were asked for, the first of them first
abbrev pub AsksAll : {S : Type 0} → Asks S → S → List Ask → S → Type 0
AsksAll asks old [] new = new ≡ old
AsksAll {S} asks old (a ∷ rest) new = (mid : S) × (asks old a.step a.answer a.buf mid × AsksAll asks mid rest new)

-- What a step answers where it isn't refused: of what is offered to a seal, one container or more are sealed.
abbrev pub IsAnswerTo : StepValue → Answer → Type 0
IsAnswerTo asked.Begin answers.Begun = Unit {0}
IsAnswerTo (asked.Claim seg) answers.Held = Unit {0}
IsAnswerTo (asked.Claim seg) answers.Absent = Unit {0}
IsAnswerTo (asked.Seal offered) (answers.Sealed id count) = (1 ≤ count) × (count ≤ length offered)
IsAnswerTo (asked.Commit name root) (answers.Committed sequence) = Unit {0}
IsAnswerTo asked.Abort answers.Aborted = Unit {0}
IsAnswerTo (asked.OpenRead name) (answers.Opened count) = Unit {0}
IsAnswerTo asked.ReadNext (answers.Bytes count) = Unit {0}
IsAnswerTo asked.ReadNext answers.End = Unit {0}
IsAnswerTo asked.EndRead answers.Dropped = Unit {0}
IsAnswerTo (asked.Delete name) (answers.Deleted sequence) = Unit {0}
IsAnswerTo asked.ListNames (answers.Listed files) = Unit {0}
IsAnswerTo (asked.GcStart percent) (answers.Started snapshot) = Unit {0}
IsAnswerTo asked.GcStep (answers.Did phase) = Unit {0}
IsAnswerTo asked.GcStep (answers.Done freed copied) = Unit {0}
IsAnswerTo asked.Stat answer = Unit {0}
IsAnswerTo asked.Unique (answers.Unique segments bytes) = Unit {0}
IsAnswerTo step answer = ⊥
