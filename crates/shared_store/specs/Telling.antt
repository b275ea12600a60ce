-- What the turns of a number in a history are (docs/MODEL.md, 'Shared stores').
use Rattle.std.specs.Prelude.{◌≡◌, ◌≤◌, ℕ, ◌==◌, if◌then◌else◌, MatchBool, List, [], ◌∷◌, ◌++◌, length, map, Some}
use Rattle.actor_parts.specs.declared.answered.Answered.{Answered}
use Rattle.actor_parts.specs.Asking.{Ask, Asks, AsksAll}
use Rattle.turn_lock.specs.declared.history.Turn.{Turn}
use Rattle.turn_lock.specs.declared.history.View.{View}
use Rattle.turn_lock.specs.History.{IsHistory, times, turns_by}
use Rattle.turn_lock.specs.Rule.{Follows}
use Rattle.store_core.specs.State.{CoreState, Event}
use Rattle.shared_store.specs.Calls.{Calls}
use Rattle.shared_store.specs.Events.{event_of}
use Rattle.shared_store.specs.Made.{MadeByOne, MakesStep, actor_in, steps_in}
use Rattle.shared_store.specs.Passes.{PassValue, actor_of}

module _ {C E : Type 0} (actor : E → ℕ) (Makes : E → C → C → Type 0) where
  -- the turns of x are these steps, in order, each made of just what stood there
  abbrev pub Tells : ℕ → C → List (Turn C) → List E → Type 0
  Tells x o [] steps = steps ≡ []
  Tells x o (t ∷ log) steps = MatchBool (t.by == x)
      ((first : E) × (rest : List E) × (steps ≡ first ∷ rest) × (actor first ≡ x) × Makes first o t.value × Tells x t.value log rest)
      (Tells x t.value log steps)

  -- those of one actor
  abbrev pub steps_by : ℕ → List E → List E
  steps_by x [] = []
  steps_by x (e ∷ es) = if actor e == x then e ∷ steps_by x es else steps_by x es

  -- What the turns of x were told to be in what was seen they are in what follows, where none of x is among the others.
  abbrev pub TellsOn : Type 0
  TellsOn = (x : ℕ) (o : C) (numbers : List ℕ) (seen log : List (Turn C)) (steps : List E) → Follows numbers seen log → 1 ≤ times x numbers
      → Tells x o seen steps → Tells x o log steps

  abbrev pub TellsNone : Type 0
  TellsNone = (x : ℕ) (o : C) (log : List (Turn C)) → turns_by x log ≡ 0 → Tells x o log []

  -- Where the turns of each number are told, the history is just these steps, each once.
  abbrev pub AreTold : Type 0
  AreTold = (o : C) (log : List (Turn C)) (per : ℕ → List E) → ((x : ℕ) → Tells x o log (per x))
      → (history : IsHistory (MadeByOne actor Makes) o log) × ((x : ℕ) → steps_by x (steps_in actor Makes o log history) ≡ per x)

-- ---- what a caller asks for

module _ {C : Type 0} (state : C → CoreState) where
  -- what a `Caller` asks for
  abbrev pub asks_of : Asks (PassValue C × Answered)
  asks_of old step answer buf new =
      Calls state (record { actor = actor_of old.0; step = step; answer = answer; buf = buf }) old.0 new.0

  -- What a pass knows after it has asked for some steps: they are its next turns.
  pub record Did (x : ℕ) (v : View C) (all : List Ask) (w : View C) : Type 0 where
    pub opening_is : w.opening ≡ v.opening
    pub numbers_are : w.numbers ≡ v.numbers
    pub told : (o : C) (events : List Event) → v.opening ≡ Some o → Tells actor_in (MakesStep state) x o v.seen events
        → Tells actor_in (MakesStep state) x o w.seen (events ++ map (event_of x) all)

  -- So it is of all that a caller asks for.
  abbrev pub AsksAreTold : Type 0
  AsksAreTold = (all : List Ask) (old new : PassValue C × Answered) → 1 ≤ length old.0.view.numbers → AsksAll asks_of old all new
      → Did (actor_of old.0) old.0.view all new.0.view
