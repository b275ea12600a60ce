-- The lines that `delete` and `list` are, run over a core.
use Rattle.backup_engine.proofs.Prelude.{◌≡◌, inl, inr, ◌+◌, ◌-◌, ◌^◌, min, ℕ, List, [], ◌∷◌, None, Some, Result, Ok, Err, refl, sym, ◌∙◌, subst, SinkView, Answer, NamedRoot, actor_of, Refusal, Memory, Sink, Refused, deleted_line, listing_text, LineValue, Admits, DoesStep, Lists, RefusesStep, Sent, RunsLines, CoreState, DeleteRun, ListRun, WritesNames, RunsSingle, no_sessions, IsDelete, IsListing, refused, said, ending_in}
use Rattle.actor_parts.specs.StepValue as asked
use Rattle.reply_text.specs.declared.ending.Ending.{Ending}
use Rattle.script_lines.specs.Grammar as lines
use Rattle.script_lines.specs.ReplyValue as replies
use Rattle.backup_engine.specs.Saying.{idle}
use Rattle.backup_engine.proofs.Saying.{line_then}
use Rattle.backup_engine.specs.Storing.{Replies}

module _ (C : Type 0) (state : C → CoreState) (old new : C) (runs : (state old).stop ≡ None) where
  admits_all : (line : LineValue) → actor_of line ≡ None → Admits line no_sessions (state old)
  admits_all line none = record { runs = runs; taken = λ actor is. absurd (let both = sym none ∙ is in cc) }

  -- ---- a name is deleted

  abbrev pub next_sequence : ℕ
  next_sequence = min ((state old).tables.journal.last + 1) (2 ^ 64 - 1)

  module _ (name : List ℕ) where
    pub deleted_line_run : (answer : Answer) → DoesStep 0 (asked.Delete name) answer (state old) (state new) →
        RunsLines C state (said (lines.Delete name) (replies.Deleted next_sequence) ∷ []) (idle old) (idle new)
    deleted_line_run answer step =
        line_then C state (said (lines.Delete name) (replies.Deleted next_sequence)) [] (idle old) (idle new) (idle new) refl
        (inl (admits_all (lines.Delete name) refl, (record { answer = answer; deleted = step; sequence_is = refl }, refl))) refl

    pub undeleted_line_run : (refusal : Refusal) → RefusesStep 0 (asked.Delete name) refusal (state old) (state new) →
        RunsLines C state (refused (lines.Delete name) refusal ∷ []) (idle old) (idle new)
    undeleted_line_run refusal step =
        line_then C state (refused (lines.Delete name) refusal) [] (idle old) (idle new) (idle new) refl (inl (admits_all (lines.Delete name) refl, (inr step, refl))) refl

    replied : (result : Result Unit Ending) (sink sink_now : SinkView) → Sent (deleted_line name) result sink sink_now →
        IsDelete name (ending_in result) sink sink_now (said (lines.Delete name) (replies.Deleted next_sequence) ∷ [])
    replied (Ok u) sink sink_now sent = ((next_sequence, refl), sent.0)
    replied (Err Sink) sink sink_now sent = ((next_sequence, refl), sent.0)
    replied (Err ending) sink sink_now sent = absurd sent

    pub delete_lines : (result : Result Unit Ending) (sink sink_now : SinkView)
        → DeleteRun C state name (λ deleted. Replies (deleted_line name) deleted result sink sink_now) old new →
        RunsSingle C state (IsDelete name (ending_in result) sink sink_now) old new
    delete_lines result sink sink_now (Ok u, (asks, sent)) =
        (said (lines.Delete name) (replies.Deleted next_sequence) ∷ [], (replied result sink sink_now sent, (idle new, (refl, deleted_line_run asks.0 asks.1))))
    delete_lines result sink sink_now (Err refusal, (asks, (is, same))) =
        subst (λ (r : Result Unit Ending). RunsSingle C state (IsDelete name (ending_in r) sink sink_now) old new) (sym is) (
          refused (lines.Delete name) refusal ∷ [],
          ((inr refl, subst (λ (s : SinkView). s.written ≡ sink.written) (sym same) refl), (idle new, (refl, undeleted_line_run refusal asks))),
        )

  -- ---- the names are listed

  pub listed_line_run : (files : List NamedRoot) → Lists C state (Ok files) old new → RunsLines C state (said lines.ListNames (replies.Listed files) ∷ []) (idle old) (idle new)
  listed_line_run files listed =
      line_then C state (said lines.ListNames (replies.Listed files)) [] (idle old) (idle new) (idle new) refl (inl (admits_all lines.ListNames refl, (listed, refl))) refl

  pub unlisted_line_run : (refusal : Refusal) → Lists C state (Err refusal) old new → RunsLines C state (refused lines.ListNames refusal ∷ []) (idle old) (idle new)
  unlisted_line_run refusal listed =
      line_then C state (refused lines.ListNames refusal) [] (idle old) (idle new) (idle new) refl (inl (admits_all lines.ListNames refl, (listed, refl))) refl

  wrote_names : (files : List NamedRoot) (result : Result Unit Ending) (sink sink_now : SinkView) → Sent (listing_text files) result sink sink_now →
      IsListing (ending_in result) sink sink_now (said lines.ListNames (replies.Listed files) ∷ [])
  wrote_names files (Ok u) sink sink_now sent = (files, (refl, sent.0))
  wrote_names files (Err Sink) sink sink_now sent = (files, (refl, sent.0))
  wrote_names files (Err ending) sink sink_now sent = absurd sent

  wrote_none : (files : List NamedRoot) (sink sink_now : SinkView) → sink_now ≡ sink →
      IsListing (Some (Refused Memory)) sink sink_now (said lines.ListNames (replies.Listed files) ∷ [])
  wrote_none files sink sink_now same = (inl (refl, inr (files, refl)), subst (λ (s : SinkView). s.written ≡ sink.written) (sym same) refl)

  listing : (files : List NamedRoot) (result : Result Unit Ending) (sink sink_now : SinkView) → WritesNames (Ok files) result sink sink_now →
      IsListing (ending_in result) sink sink_now (said lines.ListNames (replies.Listed files) ∷ [])
  listing files result sink sink_now (inl sent) = wrote_names files result sink sink_now sent
  listing files result sink sink_now (inr (is, same)) =
      subst (λ (r : Result Unit Ending). IsListing (ending_in r) sink sink_now (said lines.ListNames (replies.Listed files) ∷ [])) (sym is) (wrote_none files sink sink_now same)

  pub list_lines : (result : Result Unit Ending) (sink sink_now : SinkView) → ListRun C state result old new sink sink_now →
      RunsSingle C state (IsListing (ending_in result) sink sink_now) old new
  list_lines result sink sink_now (Ok files, (listed, wrote)) =
      (said lines.ListNames (replies.Listed files) ∷ [], (listing files result sink sink_now wrote, (idle new, (refl, listed_line_run files listed))))
  list_lines result sink sink_now (Err refusal, (listed, (is, same))) =
      subst (λ (r : Result Unit Ending). RunsSingle C state (IsListing (ending_in r) sink sink_now) old new) (sym is)
      (refused lines.ListNames refusal ∷ [], ((inr refl, subst (λ (s : SinkView). s.written ≡ sink.written) (sym same) refl), (idle new, (refl, unlisted_line_run refusal listed))))
