-- Turns of a history that are steps, each by one actor (docs/MODEL.md, 'Shared stores').
use Rattle.std.specs.Prelude.{◌≡◌, ℕ, List, [], ◌∷◌}
use Rattle.actor_parts.specs.StepValue.{IsStep}
use Rattle.turn_lock.specs.declared.history.Turn.{Turn}
use Rattle.turn_lock.specs.History.{IsHistory}
use Rattle.store_core.specs.Core.{CoreStep}
use Rattle.store_core.specs.State.{CoreState, Event}

-- E are steps of some kind, each of an actor, and Makes says what they make of what.
module _ {C E : Type 0} (actor : E → ℕ) (Makes : E → C → C → Type 0) where
  -- a step of this actor made the one of the other
  abbrev pub MadeByOne : ℕ → C → C → Type 0
  MadeByOne by old new = (e : E) × (actor e ≡ by) × Makes e old new

  -- the steps that the turns of a history are
  abbrev pub steps_in : (o : C) (log : List (Turn C)) → IsHistory MadeByOne o log → List E
  steps_in o [] history = []
  steps_in o (t ∷ log) (made, history) = made.0 ∷ steps_in t.value log history

abbrev pub actor_in : Event → ℕ
actor_in e = e.actor

-- a step of a core
abbrev pub MakesStep : {C : Type 0} → (C → CoreState) → Event → C → C → Type 0
MakesStep state e old new = IsStep e.step × CoreStep (state old) e (state new)

-- a step of this actor made the one core of the other
abbrev pub MadeBy : {C : Type 0} → (C → CoreState) → ℕ → C → C → Type 0
MadeBy state = MadeByOne actor_in (MakesStep state)
