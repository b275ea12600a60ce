-- Counts of what was answered.
use Rattle.std.specs.Prelude.{◌≡◌, ◌≤◌, ℕ, ◌==◌, Bool, true, false, Result, Ok, Err}
use Rattle.base_model.specs.Fault.{Rose}
use Rattle.refusals.specs.declared.refusal.Refusal.{Refusal}
use Rattle.refusals.specs.Numbers.{number_of}
use Rattle.actor_parts.specs.declared.step.Answer.{Answer}
use Rattle.actor_parts.specs.declared.step.Answer.TheVariants.{End}

-- the answer is the refusal of this number
abbrev pub is_refused_by : ℕ → Result Answer Refusal → Bool
is_refused_by number (Ok answer) = false
is_refused_by number (Err refusal) = number_of refusal == number

-- the answer is that the file has ended
abbrev pub is_end : Result Answer Refusal → Bool
is_end (Ok End) = true
is_end other = false

-- A count never falls. It rises where that was answered, and stays as it was where it wasn't.
pub record Counts (answered : Bool) (before now : ℕ) : Type 0 where
  pub later : before ≤ now
  pub rose : answered ≡ true → Rose before now
  pub stays : answered ≡ false → now ≡ before
