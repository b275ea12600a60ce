-- What is sent of a reply.
use Rattle.script_runner.proofs.Prelude.{◌≡◌, inl, false, Result, Ok, Err, refl, Memory, LineValue, ReplyValue, ends, IsAcknowledged}
use Rattle.dd_io.specs.Flow.{SinkView}
use Rattle.reply_text.specs.declared.ending.Ending.{Ending}
use Rattle.reply_text.specs.declared.ending.Ending.TheVariants as endings
use Rattle.script_runner.specs.Runner.{SendsReply, Tells}

pub told_so : (line : LineValue) (reply : ReplyValue) (result : Result (Unit {0}) Ending) (sink sink_now : SinkView) → ends line reply ≡ false → ¬ (IsAcknowledged reply) →
    Tells reply result sink sink_now → SendsReply line reply result sink sink_now
told_so line reply (Ok u) sink sink_now on none tells = (on, tells)
told_so line reply (Err endings.Sink) sink sink_now on none tells = tells
told_so line reply (Err (endings.Refused Memory)) sink sink_now on none tells = inl (refl, none, tells)
told_so line reply (Err e) sink sink_now on none tells = absurd tells

-- a reply that could not be sent ends the script, whatever the line
pub untold_so : (line : LineValue) (reply : ReplyValue) (e : Ending) (sink sink_now : SinkView) → ¬ (IsAcknowledged reply) → Tells reply (Err e) sink sink_now →
    SendsReply line reply (Err e) sink sink_now
untold_so line reply endings.Sink sink sink_now none tells = tells
untold_so line reply (endings.Refused Memory) sink sink_now none tells = inl (refl, none, tells)
untold_so line reply e sink sink_now none tells = absurd tells
