-- A collection that was swept, by what its line did.
use Rattle.backup_engine.proofs.Prelude.{◌≡◌, ℕ, Result, Ok, Err, refl, subst, Refusal, reply_line, ReplyValue, Sweeps, runner_of, CoreState, no_sessions}
use Rattle.std.specs.Prelude.{IfOk}
use Rattle.actor_parts.specs.declared.step.Answer.TheVariants as answers
use Rattle.script_lines.specs.Grammar as lines
use Rattle.script_lines.specs.ReplyValue.{reply_value}
use Rattle.script_lines.specs.ReplyValue as replies
use Rattle.script_lines.specs.declared.reply.Reply.{Reply}
use Rattle.script_runner.specs.Acts.{Acts}
use Rattle.script_runner.specs.Runner.{TellsCollected, answer_of}

module _ (C : Type 0) (state : C → CoreState) (old new : C) where
  abbrev SweptBy : ReplyValue → Type 0
  SweptBy reply = Acts C state lines.Sweep reply (runner_of old no_sessions) (runner_of new no_sessions)

  -- what its reply tells
  pub record HasSwept (reply : ReplyValue) : Type 0 where
    pub freed : ℕ
    pub copied : ℕ
    pub reply_is : reply_line reply ≡ reply_line (replies.Collected freed copied)
    pub sweeps : Sweeps C state (Ok (answers.Done freed copied)) old new

  by_reply : (reply : ReplyValue) → TellsCollected reply → SweptBy reply → HasSwept reply
  by_reply (replies.Collected freed copied) tells acts = record { freed = freed; copied = copied; reply_is = refl; sweeps = acts.0 }
  by_reply reply tells acts = absurd tells

  -- it came to its end
  pub swept_ok : (result : Result Reply Refusal) (reply : Reply) → result ≡ Ok reply → IfOk result (λ reply. TellsCollected (reply_value reply)) → SweptBy (answer_of result) →
      HasSwept (reply_value reply)
  swept_ok result reply is tells acts =
      by_reply (reply_value reply) (subst (λ (r : Result Reply Refusal). IfOk r (λ reply. TellsCollected (reply_value reply))) is tells)
      (subst (λ (r : Result Reply Refusal). SweptBy (answer_of r)) is acts)

  -- or a step was refused
  pub swept_err : (result : Result Reply Refusal) (refusal : Refusal) → result ≡ Err refusal → SweptBy (answer_of result) → Sweeps C state (Err refusal) old new
  swept_err result refusal is acts =
      let so : SweptBy (answer_of (Err refusal)) = subst (λ (r : Result Reply Refusal). SweptBy (answer_of r)) is acts in
      so.0
