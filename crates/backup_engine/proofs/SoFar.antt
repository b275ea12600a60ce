-- What is so on the way of a command: of a file that is given back, and of a script.
use Rattle.std.specs.Prelude.{◌≡◌, ℕ, false, List, None}
use Rattle.std.specs.List.{AllByRecursion, concat}
use Rattle.base_model.specs.Known.{Appended}
use Rattle.dd_io.specs.Flow.{SinkView}
use Rattle.actor_parts.specs.declared.part.Part.{Part}
use Rattle.actor_parts.specs.declared.part.Part.TheVariants.{Reading}
use Rattle.actor_parts.specs.Parts.{part_of}
use Rattle.read_steps.specs.Walking.{bytes_ahead}
use Rattle.script_lines.specs.Reader.{HasRead, ReaderState}
use Rattle.script_runner.specs.Acts.{RunnerState}
use Rattle.script_runner.specs.Scripts.{AreOfActors, RunsLines}
use Rattle.store_core.specs.Core.{CoreStep}
use Rattle.store_core.specs.Runs.{CoreRun, opens, given_to}
use Rattle.store_core.specs.State.{CoreState, Event, IsUp}
use Rattle.store_machine.specs.Commands.{Replied, ends}
use Rattle.backup_engine.specs.Lines.{lines_of, printed}
use Rattle.backup_engine.specs.Running.{IsRead, IsGiven}
use Rattle.backup_engine.specs.Seen.{Streaming}

-- ---- a file

-- The name was opened, and each segment that was read since then was written.
pub record GivenSoFar (C : Type 0) (state : C → CoreState) (name : List ℕ) (old now : C) (sink sink_now : SinkView) : Type 0 where
  pub count : ℕ
  pub buf : List ℕ
  pub mid : C
  pub opened : CoreStep (state old) (opens 0 name count buf) (state mid)
  pub reads : List Event
  pub ran : CoreRun C state reads mid now
  pub each : AllByRecursion IsRead reads
  pub given : AllByRecursion (λ e. IsGiven e.answer) reads
  pub wrote : Appended sink.written sink_now.written (concat (given_to 0 reads))
  pub faults_are : sink_now.faults ≡ sink.faults
  pub up : IsUp (state now)
  pub runs : (state now).stop ≡ None

-- how many bytes of the file are to come to the first actor
abbrev pub bytes_of_part : Part → ℕ
bytes_of_part (Reading reader) = bytes_ahead reader.cursor
bytes_of_part part = 0

abbrev pub bytes_to_come : CoreState → ℕ
bytes_to_come c = bytes_of_part (part_of c.parts 0)

-- ---- a script

-- none of them ends a script
abbrev pub NoneEnds : List Replied → Type 0
NoneEnds rs = AllByRecursion (λ one. ends one.line one.reply ≡ false) rs

-- these were read, run and replied to, so far
pub record ScriptSoFar (C : Type 0) (state : C → CoreState) (rs : List Replied) (reader : ReaderState)
    (old new : Streaming (RunnerState C)) : Type 0 where
  pub runs : RunsLines C state rs old.runner new.runner
  pub actors : AreOfActors rs
  pub none_ends : NoneEnds rs
  pub read : HasRead old.source.left (lines_of rs) reader new.source.left
  pub wrote : Appended old.sink.written new.sink.written (printed rs)
  pub heard : new.source.faults ≡ old.source.faults
  pub sent : new.sink.faults ≡ old.sink.faults
