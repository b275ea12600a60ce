-- What an actor is at, by its own steps, whatever others do (docs/MODEL.md, 'Turns').
use Rattle.std.specs.Prelude.{◌≡◌, ◌≢◌, ◌<◌, ℕ, length, Option, Some, None, Result, Ok, Err}
use Rattle.actor_parts.specs.declared.step.Answer.{Answer}
use Rattle.actor_parts.specs.Kinds.{kind_of}
use Rattle.actor_parts.specs.Parts.{part_of}
use Rattle.actor_parts.specs.StepValue as asked
use Rattle.actor_parts.specs.StepValue.{StepValue}
use Rattle.refusals.specs.declared.refusal.PartKind.{PartKind}
use Rattle.refusals.specs.declared.refusal.PartKind.TheVariants as kinds
use Rattle.refusals.specs.declared.refusal.Refusal.{Refusal}
use Rattle.refusals.specs.declared.refusal.Refusal.TheVariants.{Stopped}
use Rattle.store_core.specs.Core.{CoreStep}
use Rattle.store_core.specs.State.{CoreState, Event}

-- after a step of its own, by what it was at before
abbrev pub kind_after : StepValue → Result Answer Refusal → PartKind → PartKind
kind_after asked.Begin (Ok answer) kind = kinds.Writing
kind_after (asked.Commit name root) (Ok answer) kind = kinds.Idle
kind_after asked.Abort (Ok answer) kind = kinds.Idle
kind_after (asked.OpenRead name) (Ok answer) kind = kinds.Reading
kind_after asked.EndRead (Ok answer) kind = kinds.Idle
kind_after step answer kind = kind

-- what is given up by a step
abbrev pub given_up_by : StepValue → Option PartKind
given_up_by asked.Abort = Some kinds.Writing
given_up_by asked.EndRead = Some kinds.Reading
given_up_by step = None

module _ (C : Type 0) (state : C → CoreState) where
  abbrev pub kind_at : C → ℕ → PartKind
  kind_at c actor = kind_of (part_of (state c).parts actor)

  -- A step leaves all others at what they were at.
  abbrev pub OthersStay : Type 0
  OthersStay = (e : Event) (old new : C) (other : ℕ) → CoreStep (state old) e (state new) → other ≢ e.actor
      → part_of (state new).parts other ≡ part_of (state old).parts other

  abbrev pub KindsFollow : Type 0
  KindsFollow = (e : Event) (old new : C) → CoreStep (state old) e (state new) → e.actor < length (state old).parts
      → kind_at new e.actor ≡ kind_after e.step e.answer (kind_at old e.actor)

  -- Who is at what a step gives up is refused it by a store alone that is stopped.
  abbrev pub GivingUpIsDone : Type 0
  GivingUpIsDone = (e : Event) (old new : C) (refusal : Refusal) → CoreStep (state old) e (state new)
      → given_up_by e.step ≡ Some (kind_at old e.actor) → e.answer ≡ Err refusal → (at : ℕ) × (refusal ≡ Stopped at)
