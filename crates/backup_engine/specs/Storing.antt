-- Taking a source in, and storing it (docs/MODEL.md, 'Commands').
use Rattle.std.specs.Prelude.{◌≡◌, ◌⊎◌, ◌<◌, ◌≤◌, List, [], ℕ, length, Option, Some, Result, Ok, Err, IfErr, OnOk}
use Rattle.base_model.specs.Fault.{Rose}
use Rattle.disk_format.specs.declared.numbers.TheConstants.{MOST_FILE}
use Rattle.base_model.specs.Known.{Known}
use Rattle.dd_io.specs.Flow.{SourceView, SinkView}
use Rattle.refusals.specs.declared.refusal.Refusal.{Refusal}
use Rattle.refusals.specs.declared.refusal.Refusal.TheVariants.{Memory, TooLong}
use Rattle.reply_text.specs.declared.ending.Ending.{Ending}
use Rattle.reply_text.specs.declared.ending.Ending.TheVariants.{Source, Sink, Refused}
use Rattle.reply_text.specs.Text.{stored_line}
use Rattle.script_runner.specs.Runner.{Sent}
use Rattle.store_model.specs.Trees.{root_of}
use Rattle.store_core.specs.State.{CoreState}
use Rattle.backup_engine.specs.Running.{PutRun, HoldsPieces, IsPutRefusal}
use Rattle.backup_engine.specs.Saying.{RunsSingle}
use Rattle.backup_engine.specs.Singles.{IsIngest}
use Rattle.backup_engine.specs.Seen.{Streaming}
use Rattle.backup_engine.specs.TopCall.{ending_in}

-- ---- the source

-- why a source is not taken in
abbrev pub IsSourceFault : SourceView → SourceView → Ending → Type 0
IsSourceFault source source_now Source = Rose source.faults source_now.faults
IsSourceFault source source_now (Refused Memory) = Unit {0}
IsSourceFault source source_now (Refused TooLong) = Known source.left (λ bytes. MOST_FILE < length bytes)
IsSourceFault source source_now _ = ⊥

-- the count of its faults stays, but where a fault of it ended the call
abbrev pub IsHeardAt : SourceView → SourceView → Ending → Type 0
IsHeardAt source source_now Source = Unit {0}
IsHeardAt source source_now ending = source_now.faults ≡ source.faults

abbrev pub IsHeard : Result Unit Ending → SourceView → SourceView → Type 0
IsHeard (Ok u) source source_now = source_now.faults ≡ source.faults
IsHeard (Err ending) source source_now = IsHeardAt source source_now ending

-- it was read to its end, where the file was stored
abbrev pub IsReadOut : Result Unit Ending → Option (List ℕ) → Option (List ℕ) → Type 0
IsReadOut (Ok u) left now = Known left (λ all. now ≡ Some [])
IsReadOut (Err Sink) left now = Known left (λ all. now ≡ Some [])
IsReadOut (Err ending) left now = Unit {0}

-- a reply, once a file was stored, or not
abbrev pub Replies : List ℕ → Result Unit Refusal → Result Unit Ending → SinkView → SinkView → Type 0
Replies reply (Ok u) result sink sink_now = Sent reply result sink sink_now
Replies reply (Err refusal) result sink sink_now = (result ≡ Err (Refused refusal)) × (sink_now ≡ sink)

-- ---- both

-- No more was asked of the core: the source failed, or had too much, or there was no memory. So it is as where there was none.
pub record IsStopped (C : Type 0) (state : C → CoreState) (name given : List ℕ) (result : Result Unit Ending) (old new : Streaming C)
    : Type 0 where
  pub ending : Ending
  pub result_is : result ≡ Err ending
  pub cause : IsSourceFault old.source new.source ending
  pub long : ending ≡ Refused TooLong → MOST_FILE < length given
  pub ran : PutRun C state name given (Err Memory) old.runner new.runner
  pub sink_is : new.sink ≡ old.sink

-- the file was put in, or refused by a step
pub record IsTaken (C : Type 0) (state : C → CoreState) (name given : List ℕ) (result : Result Unit Ending) (old new : Streaming C)
    : Type 0 where
  pub put : Result Unit Refusal
  pub ran : PutRun C state name given put old.runner new.runner
  pub few : OnOk put (length given ≤ MOST_FILE)
  pub held : OnOk put (HoldsPieces name given (state new.runner))
  pub refused : IfErr put (IsPutRefusal name given (state old.runner).disk (state new.runner))
  pub replies : Replies (stored_line name (root_of given)) put result old.sink new.sink

-- What the source gave was stored under the name, or not.
pub record IngestRun (C : Type 0) (state : C → CoreState) (name : List ℕ) (result : Result Unit Ending) (old new : Streaming C)
    : Type 0 where
  pub given : List ℕ
  pub took : Known old.source.left (λ all. given ≡ all)
  pub to_end : IsReadOut result old.source.left new.source.left
  pub heard : IsHeard result old.source new.source
  pub lines_are : RunsSingle C state (IsIngest name given (ending_in result) old.source new.source) old.runner new.runner
  pub way : IsStopped C state name given result old new ⊎ IsTaken C state name given result old new
