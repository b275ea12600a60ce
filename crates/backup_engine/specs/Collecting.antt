-- What `collect` has a core do, on the way (docs/MODEL.md, 'Commands').
use Rattle.std.specs.Prelude.{◌≡◌, ◌⊎◌, ℕ, Result, Ok, Err}
use Rattle.actor_parts.specs.declared.step.Answer.TheVariants as answers
use Rattle.dd_io.specs.Flow.{SinkView}
use Rattle.refusals.specs.declared.refusal.Refusal.{Refusal}
use Rattle.refusals.specs.declared.refusal.Refusal.TheVariants.{Memory}
use Rattle.reply_text.specs.declared.ending.Ending.{Ending}
use Rattle.reply_text.specs.declared.ending.Ending.TheVariants.{Refused}
use Rattle.script_lines.specs.ReplyText.{reply_line}
use Rattle.script_lines.specs.ReplyValue as replies
use Rattle.script_runner.specs.Acts.{Starts, Sweeps}
use Rattle.script_runner.specs.Runner.{Sent}
use Rattle.store_core.specs.State.{CoreState}

-- it was refused by a step, and nothing was written
abbrev pub IsStopped : Refusal → Result Unit Ending → SinkView → SinkView → Type 0
IsStopped refusal result sink sink_now = (result ≡ Err (Refused refusal)) × (sink_now ≡ sink)

-- the reply was written, or there was no memory for it
abbrev pub WritesCollected : ℕ → ℕ → Result Unit Ending → SinkView → SinkView → Type 0
WritesCollected freed copied result sink sink_now =
    Sent (reply_line (replies.Collected freed copied)) result sink sink_now ⊎ IsStopped Memory result sink sink_now

-- a collection that runs went on to its end, and that was replied; or a step of it was refused
abbrev pub FinishRun : (C : Type 0) → (C → CoreState) → Result Unit Ending → C → C → SinkView → SinkView → Type 0
FinishRun C state result old new sink sink_now =
    ((refusal : Refusal) × (Sweeps C state (Err refusal) old new × IsStopped refusal result sink sink_now))
    ⊎ ((freed copied : ℕ) × (Sweeps C state (Ok (answers.Done freed copied)) old new × WritesCollected freed copied result sink sink_now))

-- A collection was begun, and went on; or none was begun.
abbrev pub CollectRun : (C : Type 0) → (C → CoreState) → ℕ → Result Unit Ending → C → C → SinkView → SinkView → Type 0
CollectRun C state percent result old new sink sink_now =
    ((refusal : Refusal) × (Starts C state percent (Err refusal) old new × IsStopped refusal result sink sink_now))
    ⊎ ((snapshot : ℕ) × ((mid : C) × (Starts C state percent (Ok snapshot) old mid × FinishRun C state result mid new sink sink_now)))
