-- A command that was done up to its reply, and what became of that.
use Rattle.backup_engine.proofs.Prelude.{◌≡◌, refl, Option, Some, None, Result, Ok, Err, List, ℕ, Rose, SinkView, Sink, WroteReply, Sent, ending_in}
use Rattle.reply_text.specs.declared.ending.Ending.{Ending}

-- it was written whole, or the sink failed
abbrev pub IsReplied : Option Ending → SinkView → SinkView → Type 0
IsReplied None sink sink_now = sink_now.faults ≡ sink.faults
IsReplied (Some Sink) sink sink_now = Rose sink.faults sink_now.faults
IsReplied (Some ending) sink sink_now = ⊥

pub replied_faults : (ending : Option Ending) (sink sink_now : SinkView) → IsReplied ending sink sink_now → ¬ (ending ≡ Some Sink) → sink_now.faults ≡ sink.faults
replied_faults None sink sink_now replied other = replied
replied_faults (Some Sink) sink sink_now replied other = absurd (other refl)
replied_faults (Some ending) sink sink_now replied other = absurd replied

pub replied_sent : (reply : List ℕ) (result : Result Unit Ending) (sink sink_now : SinkView) → Sent reply result sink sink_now → IsReplied (ending_in result) sink sink_now
replied_sent reply (Ok u) sink sink_now sent = sent.1
replied_sent reply (Err Sink) sink sink_now sent = sent.1
replied_sent reply (Err ending) sink sink_now sent = absurd sent

pub wrote_sent : (reply : List ℕ) (result : Result Unit Ending) (sink sink_now : SinkView) → Sent reply result sink sink_now → WroteReply reply (ending_in result) sink sink_now
wrote_sent reply (Ok u) sink sink_now sent = sent.0
wrote_sent reply (Err Sink) sink sink_now sent = sent.0
wrote_sent reply (Err ending) sink sink_now sent = absurd sent
