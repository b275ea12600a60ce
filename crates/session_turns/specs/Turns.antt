-- Turns of a session that a core makes (docs/MODEL.md, 'Turns').
use Rattle.std.specs.Prelude.{ℕ, List, Option, Result}
use Rattle.actor_parts.specs.declared.step.Answer.{Answer}
use Rattle.refusals.specs.declared.refusal.Refusal.{Refusal}
use Rattle.ingest_session.specs.declared.due.Due.{Due}
use Rattle.ingest_session.specs.State.{SessionState}
use Rattle.store_core.specs.Core.{CoreStep}
use Rattle.store_core.specs.State.{CoreState, IsRunning}
use Rattle.session_turns.specs.Turning.{AllForRoom, AskedFor, Doing, FeedsBy, Maker, RunBy, StoppedBy, StoppedForRoom, TakesTurnBy, TakesTurnsBy, Turn, TurnRefused}
pub use Rattle.session_turns.specs.Turning.{IsCrowded, IsPaused, SessionMoment, session_at}

-- a step of a core, by an actor
abbrev pub core_does : ℕ → CoreState → CoreState → Doing
core_does actor old new step answer buf = CoreStep old (record { actor = actor; step = step; answer = answer; buf = buf }) new

-- what makes steps as a core does: it is anything that has a state
abbrev pub core_maker : (C : Type 0) → (C → CoreState) → Maker C
core_maker C state = record {
  runs = λ core. IsRunning (state core);
  makes = λ old actor step answer buf new. core_does actor (state old) (state new) step answer buf;
}

abbrev pub Asks : ℕ → Due → SessionState → Result Answer Refusal → CoreState → CoreState → Type 0
Asks actor due s answer old new = AskedFor (core_does actor old new) due s answer

abbrev pub IsTurn : ℕ → Answer → SessionState → SessionState → CoreState → CoreState → Type 0
IsTurn actor answer s t old new = Turn (IsRunning new) (core_does actor old new) answer s t

abbrev pub IsRefusedTurn : ℕ → Refusal → SessionState → SessionState → CoreState → CoreState → Type 0
IsRefusedTurn actor refusal s t old new = TurnRefused (core_does actor old new) refusal s t

module _ (C : Type 0) (state : C → CoreState) (actor : ℕ) where
  abbrev pub TurnRun : List Answer → SessionState → SessionState → C → C → Type 0
  TurnRun = RunBy (core_maker C state) actor

  abbrev pub TurnsStopped : Refusal → SessionState → SessionState → C → C → Type 0
  TurnsStopped = StoppedBy (core_maker C state) actor

  abbrev pub TakesTurn : Result (Option Answer) Refusal → SessionState → SessionState → C → C → Type 0
  TakesTurn = TakesTurnBy (core_maker C state) actor

  abbrev pub AreForRoom : (answers : List Answer) (old new : SessionMoment C)
      → TurnRun answers old.session new.session old.core new.core → Type 0
  AreForRoom = AllForRoom (core_maker C state) actor

  abbrev pub StopForRoom : (refusal : Refusal) (old new : SessionMoment C)
      → TurnsStopped refusal old.session new.session old.core new.core → Type 0
  StopForRoom = StoppedForRoom (core_maker C state) actor

  abbrev pub Feeds : Result (Unit {0}) Refusal → List ℕ → SessionMoment C → SessionMoment C → Type 0
  Feeds = FeedsBy (core_maker C state) actor

abbrev pub TakesTurns : {T : Type 0} (C : Type 0) → (C → CoreState) → ℕ → Result T Refusal → SessionState → SessionState → C → C → Type 0
TakesTurns C state actor result s t old new = TakesTurnsBy (core_maker C state) actor result s t old new
