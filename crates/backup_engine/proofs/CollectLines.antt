-- The lines that `collect` is, run over a core.
use Rattle.backup_engine.proofs.Prelude.{◌≡◌, inl, inr, ℕ, List, [], ◌∷◌, None, Result, Ok, Err, refl, sym, ◌∙◌, subst, SinkView, actor_of, Replied, Refusal, Sink, LineValue, Admits, Sweeps, Sent, RunsLines, CoreState, collected_line, WritesCollected, RunsSingle, no_sessions, IsCollect, collecting, refused, said, ending_in}
use Rattle.actor_parts.specs.declared.step.Answer.TheVariants as answers
use Rattle.reply_text.specs.declared.ending.Ending.{Ending}
use Rattle.script_lines.specs.Grammar as lines
use Rattle.script_lines.specs.ReplyValue as replies
use Rattle.script_runner.specs.Acts.{Starts}
use Rattle.backup_engine.specs.Collecting.{IsStopped}
use Rattle.backup_engine.specs.Saying.{idle}
use Rattle.backup_engine.proofs.Saying.{line_then}

module _ (C : Type 0) (state : C → CoreState) (percent : ℕ) where
  admits : (c : C) (line : LineValue) → (state c).stop ≡ None → actor_of line ≡ None → Admits line no_sessions (state c)
  admits c line runs none = record { runs = runs; taken = λ actor is. absurd (let both = sym none ∙ is in cc) }

  module _ (old new : C) (runs : (state old).stop ≡ None) where
    unbegun_line : (refusal : Refusal) → Starts C state percent (Err refusal) old new → RunsLines C state (refused (lines.Gc percent) refusal ∷ []) (idle old) (idle new)
    unbegun_line refusal start =
        line_then C state (refused (lines.Gc percent) refusal) [] (idle old) (idle new) (idle new) refl (inl (admits old (lines.Gc percent) runs refl, (start, refl))) refl

    module _ (snapshot : ℕ) (mid : C) (start : Starts C state percent (Ok snapshot) old mid) (on : (state mid).stop ≡ None) where
      stopped_lines : (refusal : Refusal) → Sweeps C state (Err refusal) mid new → RunsLines C state (collecting percent snapshot ∷ refused lines.Sweep refusal ∷ []) (idle old)
          (idle new)
      stopped_lines refusal sweeps =
          line_then C state (collecting percent snapshot) (refused lines.Sweep refusal ∷ []) (idle old) (idle mid) (idle new) refl
          (inl (admits old (lines.Gc percent) runs refl, (start, refl)))
          (line_then C state (refused lines.Sweep refusal) [] (idle mid) (idle new) (idle new) refl (inl (admits mid lines.Sweep on refl, (sweeps, refl))) refl)

      swept_lines : (freed copied : ℕ) → Sweeps C state (Ok (answers.Done freed copied)) mid new →
          RunsLines C state (collecting percent snapshot ∷ said lines.Sweep (replies.Collected freed copied) ∷ []) (idle old) (idle new)
      swept_lines freed copied sweeps =
          line_then C state (collecting percent snapshot) (said lines.Sweep (replies.Collected freed copied) ∷ []) (idle old) (idle mid) (idle new) refl
          (inl (admits old (lines.Gc percent) runs refl, (start, refl)))
          (line_then C state (said lines.Sweep (replies.Collected freed copied)) [] (idle mid) (idle new) (idle new) refl (inl (admits mid lines.Sweep on refl, (sweeps, refl)))
          refl)

      module _ (freed copied : ℕ) where
        abbrev lines_swept : List Replied
        lines_swept = collecting percent snapshot ∷ said lines.Sweep (replies.Collected freed copied) ∷ []

        replied : (result : Result Unit Ending) (sink sink_now : SinkView) → Sent (collected_line freed copied) result sink sink_now →
            IsCollect percent (ending_in result) sink sink_now lines_swept
        replied (Ok u) sink sink_now sent = (freed, copied, ((snapshot, refl), sent.0))
        replied (Err Sink) sink sink_now sent = (freed, copied, ((snapshot, refl), sent.0))
        replied (Err ending) sink sink_now sent = absurd sent

        told : (result : Result Unit Ending) (sink sink_now : SinkView) → WritesCollected freed copied result sink sink_now →
            IsCollect percent (ending_in result) sink sink_now lines_swept
        told result sink sink_now (inl sent) = replied result sink sink_now sent
        told result sink sink_now (inr (is, same)) =
            subst (λ (r : Result Unit Ending). IsCollect percent (ending_in r) sink sink_now lines_swept) (sym is)
            (inl (refl, inr (freed, copied, (snapshot, refl))), subst (λ (s : SinkView). s.written ≡ sink.written) (sym same) refl)

        pub swept_run : Sweeps C state (Ok (answers.Done freed copied)) mid new → (result : Result Unit Ending) (sink sink_now : SinkView) →
            WritesCollected freed copied result sink sink_now
            → RunsSingle C state (IsCollect percent (ending_in result) sink sink_now) old new
        swept_run sweeps result sink sink_now writes = (lines_swept, (told result sink sink_now writes, (idle new, (refl, swept_lines freed copied sweeps))))

      pub stopped_run : (refusal : Refusal) → Sweeps C state (Err refusal) mid new → (result : Result Unit Ending) (sink sink_now : SinkView) →
          IsStopped refusal result sink sink_now
          → RunsSingle C state (IsCollect percent (ending_in result) sink sink_now) old new
      stopped_run refusal sweeps result sink sink_now (is, same) =
          subst (λ (r : Result Unit Ending). RunsSingle C state (IsCollect percent (ending_in r) sink sink_now) old new) (sym is) (
            collecting percent snapshot ∷ refused lines.Sweep refusal ∷ [],
            ((inr (inr (snapshot, refl)), subst (λ (s : SinkView). s.written ≡ sink.written) (sym same) refl), (idle new, (refl, stopped_lines refusal sweeps))),
          )

    pub unbegun_run : (refusal : Refusal) → Starts C state percent (Err refusal) old new → (result : Result Unit Ending) (sink sink_now : SinkView) →
        IsStopped refusal result sink sink_now
        → RunsSingle C state (IsCollect percent (ending_in result) sink sink_now) old new
    unbegun_run refusal start result sink sink_now (is, same) =
        subst (λ (r : Result Unit Ending). RunsSingle C state (IsCollect percent (ending_in r) sink sink_now) old new) (sym is) (
          refused (lines.Gc percent) refusal ∷ [],
          ((inr (inl refl), subst (λ (s : SinkView). s.written ≡ sink.written) (sym same) refl), (idle new, (refl, unbegun_line refusal start))),
        )
