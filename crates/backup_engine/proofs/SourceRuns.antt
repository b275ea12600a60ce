-- A source that is taken in and stored, or not.
use Rattle.backup_engine.proofs.Prelude.{◌≡◌, inl, inr, ◌<◌, ◌≤◌, ℕ, List, [], length, Option, Some, None, Result, Ok, Err, refl, subst, Known, MOST_FILE, SourceView, SinkView, Refusal, Memory, TooLong, Sink, Refused, stored_line, root_of, CoreState, Sent, HoldsPieces, PutRun, IsPutRefusal, RunsSingle, IsIngest, StoresFile, IsSourceFault, IsHeard, IsReadOut, IngestRun, ending_in}
use Rattle.reply_text.specs.declared.ending.Ending.{Ending}
use Rattle.reply_text.specs.declared.ending.Ending.TheVariants.{Source}
use Rattle.backup_engine.specs.Storing.{IsHeardAt}
use Rattle.backup_engine.specs.Seen.{streaming}

-- What a source had to give that was not read: what it had left; where it doesn't tell that, nothing.
pub given_of : Option (List ℕ) → List ℕ
given_of None = []
given_of (Some bytes) = bytes

pub given_told : (left : Option (List ℕ)) → Known left (λ all. given_of left ≡ all)
unfolding given_of
given_told None all is = absurd cc
given_told (Some bytes) all is = cc

module _ (C : Type 0) (state : C → CoreState) (name : List ℕ) (source source_now : SourceView) where
  -- for want of memory nothing was asked
  pub nothing_put : (given : List ℕ) (c : C) → PutRun C state name given (Err Memory) c c
  nothing_put given c = record { steps = []; ran = refl; each = tt; ends = refl; whole = tt; adds = record { store_has = λ store represents valid free whole. tt } }

  heard_sent : (reply : List ℕ) (result : Result Unit Ending) (sink sink_now : SinkView) → source_now.faults ≡ source.faults → Sent reply result sink sink_now →
      IsHeard result source source_now
  heard_sent reply (Ok u) sink sink_now same sent = same
  heard_sent reply (Err Sink) sink sink_now same sent = same
  heard_sent reply (Err ending) sink sink_now same sent = absurd sent

  failed_out : (ending : Ending) → IsSourceFault source source_now ending → IsReadOut (Err ending) source.left source_now.left
  failed_out Source cause = tt
  failed_out (Refused refusal) cause = tt
  failed_out ending cause = absurd cause

  sent_out : (reply : List ℕ) (result : Result Unit Ending) (sink sink_now : SinkView) → Known source.left (λ all. source_now.left ≡ Some []) → Sent reply result sink sink_now →
      IsReadOut result source.left source_now.left
  sent_out reply (Ok u) sink sink_now out sent = out
  sent_out reply (Err Sink) sink sink_now out sent = out
  sent_out reply (Err ending) sink sink_now out sent = absurd sent

  -- but perhaps for the reply, all lines were run
  sent_lines : (given reply : List ℕ) (result : Result Unit Ending) (sink sink_now : SinkView) (old new : C) → Sent reply result sink sink_now →
      RunsSingle C state (StoresFile name given) old new
      → RunsSingle C state (IsIngest name given (ending_in result) source source_now) old new
  sent_lines given reply (Ok u) sink sink_now old new sent said = said
  sent_lines given reply (Err Sink) sink sink_now old new sent said = said
  sent_lines given reply (Err ending) sink sink_now old new sent said = absurd sent

  module _ (given : List ℕ) (took : Known source.left (λ all. given ≡ all)) (old new : C) where
    -- a file that is too long came from a source that had too much
    pub too_long : MOST_FILE < length given → IsSourceFault source source_now (Refused TooLong)
    too_long long = λ all told. subst (λ (b : List ℕ). MOST_FILE < length b) (took all told) long

    -- no more was asked
    pub stopped : (ending : Ending) (sink : SinkView) → IsSourceFault source source_now ending → IsHeardAt source source_now ending →
        (ending ≡ Refused TooLong → MOST_FILE < length given) → PutRun C state name given (Err Memory) old new
        → RunsSingle C state (IsIngest name given (Some ending) source source_now) old new
        → IngestRun C state name (Err ending) (streaming old source sink) (streaming new source_now sink)
    stopped ending sink cause heard long ran said = record {
      given = given;
      took = took;
      to_end = failed_out ending cause;
      heard = heard;
      lines_are = said;
      way = inl (record { ending = ending; result_is = refl; cause = cause; long = long; ran = ran; sink_is = refl });
    }

    -- a step was refused
    pub not_stored : (refusal : Refusal) (sink : SinkView) → source_now.faults ≡ source.faults → PutRun C state name given (Err refusal) old new →
        IsPutRefusal name given (state old).disk (state new) refusal
        → RunsSingle C state (IsIngest name given (Some (Refused refusal)) source source_now) old new
        → IngestRun C state name (Err (Refused refusal)) (streaming old source sink) (streaming new source_now sink)
    not_stored refusal sink same ran refused said = record {
      given = given;
      took = took;
      to_end = tt;
      heard = same;
      lines_are = said;
      way = inr (record { put = Err refusal; ran = ran; few = tt; held = tt; refused = refused; replies = (refl, refl) });
    }

    -- all of it was stored
    pub stored : (result : Result Unit Ending) (sink sink_now : SinkView) → Known source.left (λ all. source_now.left ≡ Some []) → source_now.faults ≡ source.faults →
        PutRun C state name given (Ok tt) old new
        → length given ≤ MOST_FILE → HoldsPieces name given (state new) → Sent (stored_line name (root_of given)) result sink sink_now →
        RunsSingle C state (StoresFile name given) old new → IngestRun C state name result (streaming old source sink) (streaming new source_now sink_now)
    stored result sink sink_now out same ran few held sent said = record {
      given = given;
      took = took;
      to_end = sent_out (stored_line name (root_of given)) result sink sink_now out sent;
      heard = heard_sent (stored_line name (root_of given)) result sink sink_now same sent;
      lines_are = sent_lines given (stored_line name (root_of given)) result sink sink_now old new sent said;
      way = inr (record { put = Ok tt; ran = ran; few = few; held = held; refused = tt; replies = sent });
    }
