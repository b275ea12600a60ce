-- What a reply to a line of a script says.
use Rattle.std.specs.Prelude.{ℕ, List}
use Rattle.namespace.specs.Listing.{NamedRoot}
use Rattle.refusals.specs.declared.refusal.Phase.{Phase}
use Rattle.refusals.specs.declared.refusal.Refusal.{Refusal}
use Rattle.script_lines.specs.declared.reply.Holdings.{Holdings}
use Rattle.script_lines.specs.declared.reply.Turned.{Turned}
use Rattle.script_lines.specs.declared.reply.Reply.{Reply}
use Rattle.script_lines.specs.declared.reply.Reply.TheVariants as given

pub data ReplyValue : Type 0 where
  Begun : (actor : ℕ) → ReplyValue
  Pushed : (actor bytes : ℕ) → ReplyValue
  Finished : (actor bytes : ℕ) → ReplyValue
  Turn : (actor : ℕ) (turned : Turned) → ReplyValue
  Committed : (actor sequence : ℕ) → ReplyValue
  Aborted : (actor : ℕ) → ReplyValue
  Reading : (actor length : ℕ) → ReplyValue
  Bytes : (actor : ℕ) (bytes : List ℕ) → ReplyValue
  End : (actor : ℕ) → ReplyValue
  Dropped : (actor : ℕ) → ReplyValue
  Deleted : (sequence : ℕ) → ReplyValue
  Listed : (files : List NamedRoot) → ReplyValue
  Collecting : (snapshot : ℕ) → ReplyValue
  Step : (phase : Phase) → ReplyValue
  Collected : (freed copied : ℕ) → ReplyValue
  Stat : (counted : Holdings) → ReplyValue
  Unique : (segments bytes : ℕ) → ReplyValue
  Opened : (files : ℕ) → ReplyValue
  Refused : (refusal : Refusal) → ReplyValue

abbrev pub reply_value : Reply → ReplyValue
reply_value (given.Begun actor) = Begun actor
reply_value (given.Pushed actor bytes) = Pushed actor bytes
reply_value (given.Finished actor bytes) = Finished actor bytes
reply_value (given.Turn actor turned) = Turn actor turned
reply_value (given.Committed actor sequence) = Committed actor sequence
reply_value (given.Aborted actor) = Aborted actor
reply_value (given.Reading actor length) = Reading actor length
reply_value (given.Bytes actor bytes) = Bytes actor bytes.now
reply_value (given.End actor) = End actor
reply_value (given.Dropped actor) = Dropped actor
reply_value (given.Deleted sequence) = Deleted sequence
reply_value (given.Listed files) = Listed files.now
reply_value (given.Collecting snapshot) = Collecting snapshot
reply_value (given.Step phase) = Step phase
reply_value (given.Collected freed copied) = Collected freed copied
reply_value (given.Stat holdings) = Stat holdings
reply_value (given.Unique segments bytes) = Unique segments bytes
reply_value (given.Opened files) = Opened files
reply_value (given.Refused refusal) = Refused refusal
