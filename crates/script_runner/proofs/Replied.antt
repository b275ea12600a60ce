-- A line but `reopen` is taken or not, and replied to.
use Rattle.script_runner.proofs.Prelude.{◌≡◌, ◌≢◌, inl, inr, ℕ, List, Result, Ok, Err, IfOk, refl, Refusal, LineValue, reply_line, ReplyValue, CoreState, ActsOrNot, RunnerState, RunsLine, ActsWith, IsAcknowledged, Prints}
use Rattle.script_lines.specs.Grammar as lines
use Rattle.script_lines.specs.ReplyValue as replies
use Rattle.script_runner.specs.Acts.{Acts, Admits, Bars}
use Rattle.script_runner.specs.Runner.{IsPlain, MakesReply}

-- what was printed of a reply that acknowledges nothing
pub printed : {T E : Type 0} (items : T → List ℕ) (result : Result T E) (reply : ReplyValue) → ¬ (IsAcknowledged reply) → IfOk result (λ t. items t ≡ reply_line reply) →
    Prints items result reply
printed items (Ok t) reply none is = is
printed items (Err e) reply none is = none

module _ (C : Type 0) (state : C → CoreState) where
  -- a line but a commit or a delete acknowledges none
  none_done : (line : LineValue) (actor sequence number : ℕ) (r s : RunnerState C) → IsPlain line
      → ¬ (Acts C state line (replies.Committed actor sequence) r s) × ¬ (Acts C state line (replies.Deleted number) r s)
  none_done (lines.Commit a name) actor sequence number r s plain = absurd plain
  none_done (lines.Next a) actor sequence number r s plain = absurd plain
  none_done (lines.Delete name) actor sequence number r s plain = absurd plain
  none_done lines.ListNames actor sequence number r s plain = absurd plain
  none_done lines.Reopen actor sequence number r s plain = absurd plain
  none_done line actor sequence number r s plain = (λ acts. acts, λ acts. acts)

  pub plain_reply : (line : LineValue) (reply : ReplyValue) (r s : RunnerState C) → IsPlain line → Acts C state line reply r s → ¬ (IsAcknowledged reply)
  plain_reply line (replies.Committed actor sequence) r s plain acts ack = (none_done line actor sequence 0 r s plain).0 acts
  plain_reply line (replies.Deleted number) r s plain acts ack = (none_done line 0 0 number r s plain).1 acts
  plain_reply line reply r s plain acts ack = ack

  runs_so : (line : LineValue) (reply : ReplyValue) (r s : RunnerState C) → line ≢ lines.Reopen → ActsOrNot C state line reply r s → RunsLine C state line reply r s
  runs_so lines.Reopen reply r s other so = absurd (other refl)
  runs_so it reply r s other so = so

  -- it was taken
  pub taken : (line : LineValue) (told : ReplyValue → Type 0) (r s : RunnerState C) → line ≢ lines.Reopen → Admits line r.sessions (state r.core) →
      ActsWith C state line told r s → MakesReply C state line told r s
  taken line told r s other admits acts = (acts.0, (runs_so line acts.0 r s other (inl (admits, acts.1.0)), acts.1.1))

  -- or barred
  pub barred : (line : LineValue) (told : ReplyValue → Type 0) (r : RunnerState C) → line ≢ lines.Reopen → (refusal : Refusal) → Bars line r.sessions (state r.core) refusal →
      told (replies.Refused refusal)
      → MakesReply C state line told r r
  barred line told r other refusal bars is = (replies.Refused refusal, (runs_so line (replies.Refused refusal) r r other (inr (refusal, refl, bars, refl)), is))
