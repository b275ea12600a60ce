-- How many steps a collection takes, whatever comes between them (docs/MODEL.md, 'The core').
use Rattle.std.specs.Prelude.{◌≡◌, ℕ, ◌+◌, ◌*◌, ◌≤◌, List, [], ◌∷◌, length, None, Some, Result, Ok}
use Rattle.std.specs.List.{AllByRecursion}
use Rattle.actor_parts.specs.declared.step.Answer.{Answer}
use Rattle.actor_parts.specs.declared.step.Answer.TheVariants as answers
use Rattle.actor_parts.specs.StepValue as asked
use Rattle.actor_parts.specs.StepValue.{StepValue}
use Rattle.gc_steps.specs.StepsToCome.{old_from, trees_from}
use Rattle.gc_steps.specs.declared.collection.Collection.{Collection}
use Rattle.refusals.specs.declared.refusal.Refusal.{Refusal}
use Rattle.store_core.specs.Core.{CoreStep}
use Rattle.store_core.specs.Runs.{CoreRun}
use Rattle.store_core.specs.State.{CoreState, Event, IsRunning}

abbrev pub starts : ℕ → ℕ → ℕ → List ℕ → Event
starts actor percent snapshot buf =
    record { actor = actor; step = asked.GcStart percent; answer = Ok (answers.Started snapshot); buf = buf }

-- how many steps of a collection were made
abbrev pub made_by : StepValue → Result Answer Refusal → ℕ
made_by asked.GcStep (Ok answer) = 1
made_by step answer = 0

abbrev pub made_in : List Event → ℕ
made_in [] = 0
made_in (e ∷ es) = made_by e.step e.answer + made_in es

-- none of them ended it
abbrev pub IsNoEnd : Result Answer Refusal → Type 0
IsNoEnd (Ok (answers.Done freed copied)) = ⊥
IsNoEnd answer = Unit {0}

abbrev pub NoneEnds : List Event → Type 0
NoneEnds events = AllByRecursion (λ e. IsNoEnd e.answer) events

-- Once a collection began, and until it ends, so many of its steps are made at most, whatever steps come between them and whatever the disk
-- holds: for each of six levels one for each tree container, one for each container, the choice, and four for each source. The one that
-- ends it comes after these. Counted are the containers below the snapshot, as it began, and the sources that are chosen by then.
abbrev pub BoundsSteps : (C : Type 0) → (C → CoreState) → Type 0
BoundsSteps C state = (actor percent snapshot : ℕ) (buf : List ℕ) (events : List Event) (old mid new : C) (c : Collection)
    → IsRunning (state old) → (state old).stop ≡ None → CoreStep (state old) (starts actor percent snapshot buf) (state mid)
    → CoreRun C state events mid new → NoneEnds events → (state new).collection ≡ Some c
    → made_in events ≤ 6 * trees_from snapshot (state old).tables.held 0 + old_from snapshot (state old).tables.held 0 + 1
    + 4 * length c.sweep.sources.items
