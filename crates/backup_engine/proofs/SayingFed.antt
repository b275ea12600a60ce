-- Lines by which a session is fed a file, by what was so of it.
use Rattle.backup_engine.proofs.Prelude.{◌≡◌, inr, ◌∙◌, ℕ, false, List, ◌++◌, length, Ok, Err, sym, ap, subst, Refusal, pushed_bytes, IsEnding, BytesAreCounted, History, HasHistory, SessionState, RunsLine, Feeds, TakesTurns, CoreState, IsFed, SaysPushed, giving, Digits}
use Rattle.script_lines.specs.Grammar as lines
use Rattle.script_lines.specs.ReplyValue as replies
use Rattle.backup_engine.proofs.SayingEnds.{EndsSaying, HasEnded, StopsSaying, says_more}
use Rattle.backup_engine.proofs.SayingSteps.{finish_line, push_line, push_refused}
use Rattle.session_turns.specs.Turns.{session_at}

module _ (C : Type 0) (state : C → CoreState) (counted : BytesAreCounted) (start : C) where
  -- the session counts what it was given
  counts : (given : List ℕ) (s : SessionState) (core : C) → IsFed C state given s start core → length given ≡ s.count
  counts given s core fed = sym ((counted s fed.history fed.has).0 ∙ ap length fed.given_is)

  module _ (actor : ℕ) (first : actor ≡ 0) (taken piece : List ℕ) (digits : Digits) (same : pushed_bytes digits.digits ≡ piece) where
    pub push_says : (s t u : SessionState) (old mid new : C) → t.ended ≡ false → IsFed C state taken t start mid → IsFed C state (taken ++ piece) u start new →
        Feeds C state actor (Ok tt) piece (session_at t mid) (session_at u new)
        → SaysPushed C state taken s t old mid → SaysPushed C state (taken ++ piece) s u old new
    push_says s t u old mid new off fed after feeds says =
        says_more C state s t u old mid new taken piece digits same says
        (push_line C state mid new t u fed.way.runs off actor first digits.digits piece same (length (taken ++ piece)) feeds (counts (taken ++ piece) u new after))

    pub push_stops : (t u : SessionState) (mid new : C) → t.ended ≡ false → IsFed C state taken t start mid → (refusal : Refusal) →
        Feeds C state actor (Err refusal) piece (session_at t mid) (session_at u new)
        → RunsLine C state (lines.Push 0 digits.digits) (replies.Refused refusal) (giving mid t) (giving new u)
    push_stops t u mid new off fed refusal feeds = push_refused C state mid new t u fed.way.runs off actor first digits.digits piece same refusal feeds

  module _ (given : List ℕ) (t before u : SessionState) (mid new : C) (ending : IsEnding t before) (history : (h : History) → HasHistory t h → HasHistory before h)
      (fed : IsFed C state given t start mid) where
    abbrev has_ended : HasEnded C state t mid given
    has_ended = record {
      before = before;
      on = ending.ended;
      runs = fed.way.runs;
      line = finish_line C state mid mid t before fed.way.runs (length given) ending history
          (sym ((counted before fed.history (history fed.history fed.has)).0 ∙ ap length fed.given_is));
    }

    module _ (actor : ℕ) (first : actor ≡ 0) where
      pub turns_made : TakesTurns {T = Unit {0}} C state actor (Ok tt) before u mid new → EndsSaying C state t u mid new given
      turns_made turns = (has_ended, subst (λ (a : ℕ). TakesTurns {T = Unit {0}} C state a (Ok tt) before u mid new) first turns)

      pub turns_stop : (refusal : Refusal) → TakesTurns {T = Unit {0}} C state actor (Err refusal) before u mid new → StopsSaying C state t u mid new given refusal
      turns_stop refusal stopped = inr (has_ended, subst (λ (a : ℕ). TakesTurns {T = Unit {0}} C state a (Err refusal) before u mid new) first stopped)
