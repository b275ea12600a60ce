-- The lines of a script that a runner runs, and what is so on the way (docs/MODEL.md, 'Commands').
use Rattle.std.specs.Prelude.{◌≡◌, ◌⊎◌, ℕ, Bool, true, false, List, [], Some, Result, Ok, Err}
use Rattle.base_model.specs.Fault.{Rose}
use Rattle.store_machine.specs.Commands.{Replied, ends}
use Rattle.refusals.specs.declared.refusal.Refusal.{Refusal}
use Rattle.reply_text.specs.declared.ending.Ending.{Ending}
use Rattle.reply_text.specs.declared.ending.Ending.TheVariants.{Source, Sink, Line, Script}
use Rattle.script_lines.specs.declared.reader.NextLine.{NextLine}
use Rattle.script_lines.specs.declared.reader.NextLine.TheVariants as next
use Rattle.script_lines.specs.Grammar as lines
use Rattle.script_lines.specs.Reader.{Given, IsNext, IsPart, ReaderState, TakesOff}
use Rattle.script_lines.specs.ReplyValue as replies
use Rattle.script_lines.specs.Script.{Begins}
use Rattle.script_runner.specs.Acts.{RunnerState}
use Rattle.script_runner.specs.Runner.{RunsBytes}
use Rattle.script_runner.specs.Scripts.{AreOfActors, RunsLines}
use Rattle.script_runner.specs.declared.runner.Halt.{Halt}
use Rattle.script_runner.specs.declared.runner.Halt.TheVariants.{NoLine, Ended}
use Rattle.store_core.specs.State.{CoreState}
use Rattle.backup_engine.specs.Lines.{lines_of}
use Rattle.backup_engine.specs.Script.{HasLast, IsScriptEnd, StopsAtReopen, WroteReplies}
use Rattle.backup_engine.specs.Seen.{Streaming}
use Rattle.backup_engine.specs.TopCall.{ending_in}

-- ---- one line

-- whether the script goes on after a line of this number, or how it ends
abbrev pub goes_on : ℕ → Result Unit Halt → Result Bool Ending
goes_on number (Ok u) = Ok true
goes_on number (Err NoLine) = Err (Line number)
goes_on number (Err (Ended ending)) = Err ending

-- nothing was run
abbrev pub RunsNothing : {C : Type 0} → Streaming (RunnerState C) → Streaming (RunnerState C) → Type 0
RunsNothing old new = (new.runner ≡ old.runner) × (new.sink ≡ old.sink)

-- what comes of what the reader says
abbrev pub RunsBy : (C : Type 0) → (C → CoreState) → NextLine → ℕ → Result Bool Ending → List ℕ → Streaming (RunnerState C)
    → Streaming (RunnerState C) → Type 0
RunsBy C state next.Line number result line old new =
    (halt : Result Unit Halt) × ((result ≡ goes_on number halt) × RunsBytes C state line halt old.runner new.runner old.sink new.sink)
RunsBy C state next.End number result line old new = (result ≡ Ok false) × RunsNothing old new
RunsBy C state next.Wrong number result line old new = (result ≡ Err (Line number)) × RunsNothing old new
RunsBy C state next.TooMany number result line old new = (result ≡ Err Script) × RunsNothing old new

-- the reader took what comes next, and it was run
pub record ReadsOn (C : Type 0) (state : C → CoreState) (number : ℕ) (result : Result Bool Ending) (reader reader_now : ReaderState)
    (old new : Streaming (RunnerState C)) : Type 0 where
  pub next : NextLine
  pub is_next : IsNext next reader reader_now old.source.left new.source.left
  pub part : IsPart reader_now.line
  pub heard : new.source.faults ≡ old.source.faults
  pub runs : RunsBy C state next number result reader_now.line old new

-- or the source failed
pub record ReadsNone (C : Type 0) (result : Result Bool Ending) (reader reader_now : ReaderState) (old new : Streaming (RunnerState C))
    : Type 0 where
  pub result_is : result ≡ Err Source
  pub takes : TakesOff reader_now.line reader reader_now old.source.left new.source.left
  pub part : IsPart reader_now.line
  pub drained : reader_now.ready ≡ []
  pub rose : Rose old.source.faults new.source.faults
  pub none : RunsNothing old new

abbrev pub RunsNext : (C : Type 0) → (C → CoreState) → ℕ → Result Bool Ending → ReaderState → ReaderState → Streaming (RunnerState C)
    → Streaming (RunnerState C) → Type 0
RunsNext C state number result reader reader_now old new =
    ReadsOn C state number result reader reader_now old new ⊎ ReadsNone C result reader reader_now old new

-- ---- all lines

-- the last line was a `reopen` that was refused so
abbrev pub EndsReopening : List Replied → Refusal → Type 0
EndsReopening rs refusal = (before : List Replied) × HasLast rs before (record { line = lines.Reopen; reply = replies.Refused refusal })

-- These are all that were run of a script, and so it ended.
pub record ScriptRun (C : Type 0) (state : C → CoreState) (result : Result Unit Ending) (old new : Streaming (RunnerState C)) : Type 0 where
  pub rs : List Replied
  pub runs : RunsLines C state rs old.runner new.runner
  pub actors : AreOfActors rs
  pub begins : Given old.source.left (λ bytes. (rest : List ℕ) × Begins bytes (lines_of rs) rest)
  pub stops : StopsAtReopen (ending_in result) rs
  pub caused : IsScriptEnd (EndsReopening rs) (ending_in result) rs old.source new.source old.sink new.sink
  pub wrote : WroteReplies (ending_in result) rs old.sink new.sink
  pub source_faults : ¬ (ending_in result ≡ Some Source) → new.source.faults ≡ old.source.faults
  pub sink_faults : ¬ (ending_in result ≡ Some Sink) → new.sink.faults ≡ old.sink.faults
