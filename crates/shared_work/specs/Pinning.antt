-- Where no two different nodes have one digest, nothing that workers claim, seal or name lacks a pin (docs/MODEL.md, 'Workers').
use Rattle.std.specs.Prelude.{◌≡◌, ◌<◌, ℕ, List, Result, Err}
use Rattle.std.specs.List.{AllByRecursion}
use Rattle.actor_parts.specs.declared.actor.TheConstants.{ACTORS}
use Rattle.actor_parts.specs.declared.step.Answer.{Answer}
use Rattle.actor_parts.specs.StepValue.{IsStep}
use Rattle.load_stream.specs.Load.{LoadState}
use Rattle.refusals.specs.declared.refusal.Refusal.{Refusal}
use Rattle.refusals.specs.declared.refusal.Refusal.TheVariants.{Unpinned}
use Rattle.store_model.specs.Collisions.{ByteSet, HasNoCollisions, IsIn}
use Rattle.store_core.specs.Runs.{CoreRun}
use Rattle.store_core.specs.State.{CoreState, Event, IsRunning}
use Rattle.store_machine.specs.ByMap.{FileMachine}
use Rattle.store_machine.specs.Machine.{Running}
use Rattle.core_machine.specs.Files.{IsFileMachine}
use Rattle.ingest_workers.specs.Owing.{AreAllOwed}
use Rattle.shared_work.specs.Clashing.{IsNodeOf}
use Rattle.shared_work.specs.Streams.{HasAllSegments}

-- it is not answered that something lacks a pin
abbrev pub IsPinned : Result Answer Refusal → Type 0
IsPinned (Err (Unpinned key)) = ⊥
IsPinned answer = Unit {0}

-- Steps by any actors that are due by what each asked for before, of a core that runs and is at files, over data without collisions: where
-- no two different nodes of the trees of the files have one digest, none lacks a pin.
abbrev pub NoneLacksPin : (C : Type 0) → (C → CoreState) → Type 0
NoneLacksPin C state = (among : ByteSet) (own : ℕ → List LoadState) (es : List Event) (m : FileMachine) (old new : C)
    → HasNoCollisions (IsIn among) → HasAllSegments own (IsIn among) → IsRunning (state old) → IsFileMachine (IsIn among) m (state old)
    → m.state ≡ Running → AllByRecursion (λ e. IsStep e.step × (e.actor < ACTORS)) es → CoreRun C state es old new → AreAllOwed own es
    → HasNoCollisions (IsNodeOf own) → AllByRecursion (λ e. IsPinned e.answer) es
