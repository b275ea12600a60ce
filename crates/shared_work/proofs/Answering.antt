-- A core that runs never answers that it is stopped.
use Rattle.std.proofs.Common.{◌≡◌, ℕ, false, List, [], ◌∷◌, Option, Some, None, Result, Err, refl, subst}
use Rattle.disk_format.specs.Cells.{Root}
use Rattle.merkle_file.specs.declared.top.Top.{Top}
use Rattle.actor_parts.specs.declared.step.Answer.{Answer}
use Rattle.actor_parts.specs.StepValue as steps
use Rattle.actor_parts.specs.StepValue.{StepValue}
use Rattle.refusals.specs.declared.refusal.Refusal.{Refusal}
use Rattle.refusals.specs.declared.refusal.Refusal.TheVariants as refusals
use Rattle.store_core.specs.declared.stop.Stop.{Stop}
use Rattle.store_core.specs.Runs.{CoreRun, RunsOn}
use Rattle.store_core.specs.State.{CoreState, Event, IsRunning}
use Rattle.store_machine.specs.Legal.{ByState, LegalBy, Refuses}
use Rattle.store_machine.specs.Machine.{RunState, Running, Stopped}
use Rattle.store_machine.specs.Remembering.{RootMachine}
use Rattle.store_machine.specs.Values.{IsStuck, of_roots}
use Rattle.core_machine.specs.Refines.{CoreRefines, IsMachine, SameStop, answered_by, asked_by}
use Rattle.ingest_workers.specs.Leaving.{AnswersAsItRuns}

never_stuck : (at : ℕ) (rest : List Top) → IsStuck rest (refusals.Stopped at) → ⊥
never_stuck at [] h = h
never_stuck at (t ∷ ts) h = h

never_refused : (step : StepValue) (actor at : ℕ) (m n : RootMachine) → Refuses of_roots actor (asked_by step) (refusals.Stopped at) m n → ⊥
never_refused steps.ReadNext actor at m n (right, (value, rest, after, part, stays, is)) = never_stuck at after stays.1
never_refused other actor at m n h = h.1

by_state : (step : StepValue) (actor at : ℕ) (m n : RootMachine) → LegalBy of_roots (asked_by step) actor (Err (refusals.Stopped at)) m n
    → ByState of_roots m.state actor (asked_by step) (Err (refusals.Stopped at)) m n
by_state steps.Begin actor at m n h = h
by_state other actor at m n h = h

never_while : (step : StepValue) (actor at count : ℕ) (m n : RootMachine) (s : RunState Root) (stop : Option Stop) → SameStop count s stop → stop ≡ None
    → ByState of_roots s actor (asked_by step) (Err (refusals.Stopped at)) m n → ⊥
never_while step actor at count m n Running stop same runs h = never_refused step actor at m n h
never_while step actor at count m n (Stopped other stores) None same runs h = same
never_while step actor at count m n (Stopped other stores) (Some stop) same runs h = cc

module _ {C : Type 0} (state : C → CoreState) (runs_on : RunsOn C state) (refines : CoreRefines C state) where
  pub answers_as_it_runs : (es : List Event) (old new : C) (m : RootMachine) → IsRunning (state old) → IsMachine false m (state old)
      → (run : CoreRun C state es old new) → AnswersAsItRuns C state es old new run
  answers_as_it_runs [] old new m up is run = tt
  answers_as_it_runs (e ∷ es) old new m up is (mid, (made, rest)) =
      let one = refines false e old mid m up is (λ told. absurd (cc)) made in (
        λ at goes answered.
            never_while e.step e.actor at m.acknowledged m one.0 m.state (state old).stop is.state goes
            (by_state e.step e.actor at m one.0
            (subst (λ (r : Result Answer Refusal). LegalBy of_roots (asked_by e.step) e.actor (answered_by r e.buf) m one.0) answered one.1.0)),
        answers_as_it_runs es mid new one.0 (runs_on (e ∷ []) old mid (mid, (made, refl)) up) one.1.1 rest,
      )
