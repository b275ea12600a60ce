-- What a runner does with a line, and what it sends.
use Rattle.std.specs.Prelude.{◌≡◌, ◌⊎◌, ◌≤◌, ◌*◌, length, ℕ, false, List, Result, Ok, Err}
use Rattle.dd_io.specs.Flow.{SinkView, AppendedPart}
use Rattle.base_model.specs.Fault.{Rose}
use Rattle.base_model.specs.Known.{Appended}
use Rattle.refusals.specs.declared.refusal.Refusal.TheVariants.{Memory}
use Rattle.reply_text.specs.Table.{status_of}
use Rattle.reply_text.specs.declared.ending.Ending.{Ending}
use Rattle.reply_text.specs.declared.ending.Ending.TheVariants.{Sink, Refused}
use Rattle.script_lines.specs.Grammar.{LineValue, IsHex}
use Rattle.script_lines.specs.Grammar as lines
use Rattle.script_lines.specs.ReplyText.{reply_line}
use Rattle.script_lines.specs.Script.{IsRightLine}
use Rattle.script_lines.specs.ReplyValue.{ReplyValue, reply_value}
use Rattle.script_lines.specs.ReplyValue as replies
use Rattle.store_core.specs.State.{CoreState}
use Rattle.store_machine.specs.Commands.{ends}
use Rattle.refusals.specs.declared.refusal.Refusal.{Refusal}
use Rattle.script_lines.specs.declared.reply.Reply.{Reply}
use Rattle.session_turns.specs.declared.turns.TheConstants.{MOST_PIECE}
use Rattle.script_runner.specs.Acts.{Acts, RunnerState, RunsLine}
use Rattle.script_runner.specs.declared.runner.Halt.{Halt}
use Rattle.script_runner.specs.declared.runner.Halt.TheVariants.{NoLine, Ended}
use Rattle.script_runner.specs.Sessions.{Sessions}

-- bytes were written, or the sink failed
abbrev pub Sent : List ℕ → Result Unit Ending → SinkView → SinkView → Type 0
Sent bytes (Ok u) sink sink_now = Appended sink.written sink_now.written bytes × (sink_now.faults ≡ sink.faults)
Sent bytes (Err Sink) sink sink_now = AppendedPart sink.written sink_now.written bytes × Rose sink.faults sink_now.faults
Sent bytes (Err ending) sink sink_now = ⊥

-- the reply was written, whole
abbrev pub Wrote : ReplyValue → SinkView → SinkView → Type 0
Wrote reply sink sink_now = Sent (reply_line reply) (Ok tt) sink sink_now

-- a reply was printed and written; or the sink failed, or there was no memory for it
abbrev pub Tells : ReplyValue → Result Unit Ending → SinkView → SinkView → Type 0
Tells reply (Ok u) sink sink_now = Wrote reply sink sink_now
Tells reply (Err Sink) sink sink_now = Sent (reply_line reply) (Err Sink) sink sink_now
Tells reply (Err (Refused Memory)) sink sink_now = sink_now ≡ sink
Tells reply (Err ending) sink sink_now = ⊥

-- the reply that a commit or a delete was done: its memory is taken before
abbrev pub IsAcknowledged : ReplyValue → Type 0
IsAcknowledged (replies.Committed actor sequence) = Unit {0}
IsAcknowledged (replies.Deleted sequence) = Unit {0}
IsAcknowledged reply = ⊥

-- a `reopen` that was refused ends the script, once its reply is written
abbrev pub EndsBy : LineValue → ReplyValue → Ending → Type 0
EndsBy lines.Reopen (replies.Refused refusal) ending = ending ≡ Refused refusal
EndsBy line reply ending = ⊥

-- What was sent, and how the line ended: it goes on; or the sink failed, the script ends, or there was no memory for the reply. The
-- line was run all the same, but never was a commit or a delete done without its reply for want of memory.
abbrev pub SendsReply : LineValue → ReplyValue → Result Unit Ending → SinkView → SinkView → Type 0
SendsReply line reply (Ok u) sink sink_now = (ends line reply ≡ false) × Wrote reply sink sink_now
SendsReply line reply (Err Sink) sink sink_now = Sent (reply_line reply) (Err Sink) sink sink_now
SendsReply line reply (Err ending) sink sink_now =
    ((ending ≡ Refused Memory) × ¬ (IsAcknowledged reply) × (sink_now ≡ sink)) ⊎ (EndsBy line reply ending × Wrote reply sink sink_now)

-- A line of the grammar was run, and its reply sent.
pub record Replies (C : Type 0) (state : C → CoreState) (line : LineValue) (result : Result Unit Ending) (r s : RunnerState C)
    (sink sink_now : SinkView)
    : Type 0 where
  pub reply : ReplyValue
  pub runs : RunsLine C state line reply r s
  pub sends : SendsReply line reply result sink sink_now

-- a reply was printed; or there was no memory for it, and it acknowledges no commit and no delete
abbrev pub Prints : {T E : Type 0} → (T → List ℕ) → Result T E → ReplyValue → Type 0
Prints items (Ok text) reply = items text ≡ reply_line reply
Prints items (Err e) reply = ¬ (IsAcknowledged reply)

-- A line was run, and what is told of its reply.
abbrev pub MakesReply : (C : Type 0) → (C → CoreState) → LineValue → (ReplyValue → Type 0) → RunnerState C → RunnerState C → Type 0
MakesReply C state line told r s = (reply : ReplyValue) × (RunsLine C state line reply r s × told reply)

-- ---- what makes it

-- the runner's state, of its parts
abbrev pub runner_of : {C : Type 0} → C → Sessions → RunnerState C
runner_of core sessions = record { core = core; sessions = sessions }

-- the reply that a line was done, or why it was refused
abbrev pub answer_of : Result Reply Refusal → ReplyValue
answer_of (Ok reply) = reply_value reply
answer_of (Err refusal) = replies.Refused refusal

-- the reply that a collection has ended
abbrev pub TellsCollected : ReplyValue → Type 0
TellsCollected (replies.Collected freed copied) = Unit {0}
TellsCollected reply = ⊥

-- a line that may be run: of an actor, and of digits that are some bytes, within the limit
abbrev pub IsRunnable : LineValue → Type 0
IsRunnable (lines.Push a digits) = IsHex digits × (length digits ≤ 2 * MOST_PIECE)
IsRunnable line = Unit {0}

-- a line whose reply is made once it was run, and lends nothing
abbrev pub IsPlain : LineValue → Type 0
IsPlain (lines.Commit a name) = ⊥
IsPlain (lines.Next a) = ⊥
IsPlain (lines.Delete name) = ⊥
IsPlain lines.ListNames = ⊥
IsPlain lines.Reopen = ⊥
IsPlain line = Unit {0}

-- A line that was taken was run, and what is told of its reply.
abbrev pub ActsWith : (C : Type 0) → (C → CoreState) → LineValue → (ReplyValue → Type 0) → RunnerState C → RunnerState C → Type 0
ActsWith C state line told r s = (reply : ReplyValue) × (Acts C state line reply r s × told reply)

-- ---- a line, as bytes

-- Bytes that are no line of a script; nothing is done.
pub record IsNoLine {C : Type 0} (bytes : List ℕ) (r s : RunnerState C) (sink sink_now : SinkView) : Type 0 where
  pub none : (line : LineValue) → ¬ (IsRightLine line bytes)
  pub same : s ≡ r
  pub sink_is : sink_now ≡ sink

-- Bytes that are a line were run as that line.
pub record IsRun (C : Type 0) (state : C → CoreState) (bytes : List ℕ) (result : Result Unit Ending) (r s : RunnerState C)
    (sink sink_now : SinkView)
    : Type 0 where
  pub line : LineValue
  pub right : IsRightLine line bytes
  pub replies : Replies C state line result r s sink sink_now

-- What a runner does with bytes.
abbrev pub RunsBytes : (C : Type 0) → (C → CoreState) → List ℕ → Result Unit Halt → RunnerState C → RunnerState C → SinkView → SinkView →
    Type 0
RunsBytes C state bytes (Ok u) r s sink sink_now = IsRun C state bytes (Ok u) r s sink sink_now
RunsBytes C state bytes (Err NoLine) r s sink sink_now = IsNoLine bytes r s sink sink_now
RunsBytes C state bytes (Err (Ended ending)) r s sink sink_now = IsRun C state bytes (Err ending) r s sink sink_now

-- the status that ends the run, or 0
abbrev pub status_in : Result Unit Halt → ℕ
status_in (Ok u) = 0
status_in (Err NoLine) = 2
status_in (Err (Ended ending)) = status_of ending

-- the status of a line, whatever it was
abbrev pub RunsWith : (C : Type 0) → (C → CoreState) → List ℕ → ℕ → RunnerState C → RunnerState C → SinkView → SinkView → Type 0
RunsWith C state bytes status r s sink sink_now =
    (result : Result Unit Halt) × (RunsBytes C state bytes result r s sink sink_now × (status ≡ status_in result))
