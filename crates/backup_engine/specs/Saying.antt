-- The lines that single commands are, run over a core, on the way (docs/MODEL.md, 'Commands').
use Rattle.std.specs.Prelude.{◌≡◌, ℕ, true, List, replicate, Some, None, Result, Ok, Err}
use Rattle.actor_parts.specs.declared.actor.TheConstants.{ACTORS}
use Rattle.actor_parts.specs.declared.step.Answer.{Answer}
use Rattle.actor_parts.specs.StepValue as asked
use Rattle.dd_io.specs.Flow.{SourceView}
use Rattle.disk_format.specs.Cells.{Root}
use Rattle.ingest_session.specs.State.{SessionState}
use Rattle.store_machine.specs.Commands.{Replied}
use Rattle.refusals.specs.declared.refusal.Refusal.{Refusal}
use Rattle.reply_text.specs.declared.ending.Ending.{Ending}
use Rattle.reply_text.specs.declared.ending.Ending.TheVariants.{Source, Refused}
use Rattle.script_runner.specs.Acts.{DoesStep, RefusesStep, RunnerState}
use Rattle.script_runner.specs.Runner.{runner_of}
use Rattle.script_runner.specs.Scripts.{RunsLines}
use Rattle.script_runner.specs.Sessions.{Sessions, with_session}
use Rattle.session_turns.specs.Turns.{SessionMoment, TurnRun}
use Rattle.store_core.specs.State.{CoreState}
use Rattle.backup_engine.specs.Singles.{Digits, GaveFirst, StopsAt, finish_lines, push_lines, pushed}

abbrev pub no_sessions : Sessions
no_sessions = replicate ACTORS None

-- no actor gives a file
abbrev pub idle : {C : Type 0} → C → RunnerState C
idle core = runner_of core no_sessions

-- the first actor gives a file, and no other one does
abbrev pub giving : {C : Type 0} → C → SessionState → RunnerState C
giving core s = runner_of core (with_session no_sessions 0 (Some s))

-- Lines of which P holds were run, from where no actor gave a file.
abbrev pub RunsSingle : (C : Type 0) → (C → CoreState) → (List Replied → Type 0) → C → C → Type 0
RunsSingle C state P old new =
    (rs : List Replied) × (P rs × ((last : RunnerState C) × ((last.core ≡ new) × RunsLines C state rs (idle old) last)))

-- ---- while a file is given

-- these lines were run, and its session is another then
abbrev pub Says : (C : Type 0) → (C → CoreState) → List Replied → SessionState → SessionState → C → C → Type 0
Says C state rs s t old new = RunsLines C state rs (giving old s) (giving new t)

-- the source failed, after pushes of all that it gave, or a line was refused
abbrev pub SaysStop : (C : Type 0) → (C → CoreState) → Ending → List ℕ → SourceView → SourceView → SessionMoment C → SessionMoment C
    → Type 0
SaysStop C state Source given source source_now old new =
    (pushes : List Digits) × (GaveFirst (pushed pushes) given source source_now
    × Says C state (push_lines 0 pushes) old.session new.session old.core new.core)
SaysStop C state (Refused refusal) given source source_now old new =
    (name : List ℕ) → (rs : List Replied) × (StopsAt name given source source_now refusal rs
    × Says C state rs old.session new.session old.core new.core)
SaysStop C state ending given source source_now old new = ⊥

-- the pushes of all of these bytes
abbrev pub SaysPushed : (C : Type 0) → (C → CoreState) → List ℕ → SessionState → SessionState → C → C → Type 0
SaysPushed C state given s t old new =
    (pushes : List Digits) × ((pushed pushes ≡ given) × Says C state (push_lines 0 pushes) s t old new)

abbrev pub SaysPushes : (C : Type 0) → (C → CoreState) → Result Unit Ending → List ℕ → SourceView → SourceView → SessionMoment C
    → SessionMoment C → Type 0
SaysPushes C state (Ok u) given source source_now old new = SaysPushed C state given old.session new.session old.core new.core
SaysPushes C state (Err ending) given source source_now old new = SaysStop C state ending given source source_now old new

-- The file ended, and all turns that were due were made: these belong to the commit that is to come.
pub record SaysAll (C : Type 0) (state : C → CoreState) (given : List ℕ) (s t : SessionState) (old new : C) : Type 0 where
  pub pushes : List Digits
  pub all : pushed pushes ≡ given
  pub mid : C
  pub before : SessionState
  pub on : before.ended ≡ true
  pub runs : (state mid).stop ≡ None
  pub says : Says C state (finish_lines pushes) s before old mid
  pub answers_are : List Answer
  pub turns : TurnRun C state 0 answers_are before t mid new

abbrev pub SaysEnd : (C : Type 0) → (C → CoreState) → Result Unit Ending → List ℕ → SourceView → SourceView → SessionMoment C
    → SessionMoment C → Type 0
SaysEnd C state (Ok u) given source source_now old new = SaysAll C state given old.session new.session old.core new.core
SaysEnd C state (Err ending) given source source_now old new = SaysStop C state ending given source source_now old new

-- the name was asked to be put
abbrev pub AsksPut : (C : Type 0) → (C → CoreState) → List ℕ → Root → Result Unit Refusal → C → C → Type 0
AsksPut C state name root (Ok u) old new = (answer : Answer) × DoesStep 0 (asked.Commit name root) answer (state old) (state new)
AsksPut C state name root (Err refusal) old new = RefusesStep 0 (asked.Commit name root) refusal (state old) (state new)
