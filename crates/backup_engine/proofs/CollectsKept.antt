-- What `collect` keeps, by what it had a core do, and its lines.
use Rattle.backup_engine.proofs.Prelude.{None, ◌≡◌, inl, inr, ℕ, [], Some, Result, Ok, Err, sym, subst, DiskView, IsLater, later_on, SourceView, SinkView, Refusal, Memory, Refused, Sweeps, Sent, CoreState, collected_line, CollectRun, WritesCollected, Collect, RunsSingle, IsCollect, Keeps, ending_in}
use Rattle.actor_parts.specs.declared.step.Answer.TheVariants as answers
use Rattle.reply_text.specs.declared.ending.Ending.{Ending}
use Rattle.script_runner.specs.Acts.{Starts}
use Rattle.backup_engine.specs.Collecting.{FinishRun, IsStopped}
use Rattle.backup_engine.proofs.Called.{Called}
use Rattle.backup_engine.proofs.CollectKept.{done_any, ends_found, ends_frame, stopped_any, unbegun_any, unbegun_found, unbegun_frame, untold_any}
use Rattle.backup_engine.proofs.CollectLines.{stopped_run, swept_run, unbegun_run}
use Rattle.backup_engine.proofs.CollectSteps.{collection_later}
use Rattle.backup_engine.proofs.Replied.{replied_sent, wrote_sent}
use Rattle.backup_engine.proofs.Returned.{one_later}
use Rattle.backup_engine.proofs.ReadSteps.{steps_of}
use Rattle.backup_engine.specs.Seen.{devices}

module _ (C : Type 0) (state : C → CoreState) (v w : DiskView) (old new : C) (called : Called C state v w old new) (percent : ℕ) where
  abbrev KeepsSo : Result Unit Ending → SourceView → SinkView → SinkView → Type 0
  KeepsSo result source sink sink_now = Keeps (Collect percent) [] (ending_in result) (devices v w source source sink sink_now)

  -- it was refused, and wrote nothing
  stopped_so : (refusal : Refusal) (result : Result Unit Ending) (source : SourceView) (sink sink_now : SinkView) →
      Keeps (Collect percent) [] (Some (Refused refusal)) (devices v w source source sink sink) → IsStopped refusal result sink sink_now
      → KeepsSo result source sink sink_now
  stopped_so refusal result source sink sink_now keeps (is, same) =
      subst (λ (r : Result Unit Ending). KeepsSo r source sink sink_now) (sym is)
      (subst (λ (s : SinkView). Keeps (Collect percent) [] (Some (Refused refusal)) (devices v w source source sink s)) (sym same) keeps)

  unbegun : (refusal : Refusal) → Starts C state percent (Err refusal) old new → (source : SourceView) (sink : SinkView) →
      Keeps (Collect percent) [] (Some (Refused refusal)) (devices v w source source sink sink)
  unbegun refusal start source sink = record {
    any = unbegun_any C state v w old new called percent refusal start source sink;
    frame = unbegun_frame C state v w old new called percent refusal start;
    found = unbegun_found C state v w old new called percent refusal start;
    blank = tt;
    untouched = tt;
  }

  module _ (snapshot : ℕ) (mid : C) (start : Starts C state percent (Ok snapshot) old mid) where
    stopped : (refusal : Refusal) → Sweeps C state (Err refusal) mid new → (source : SourceView) (sink : SinkView) →
        Keeps (Collect percent) [] (Some (Refused refusal)) (devices v w source source sink sink)
    stopped refusal sweeps source sink = record {
      any = stopped_any C state v w old new called percent snapshot mid start refusal sweeps source sink;
      frame = ends_frame C state v w old new called percent snapshot mid start (Err refusal) sweeps (Some (Refused refusal));
      found = ends_found C state v w old new called percent snapshot mid start (Err refusal) sweeps;
      blank = tt;
      untouched = tt;
    }

    module _ (freed copied : ℕ) (sweeps : Sweeps C state (Ok (answers.Done freed copied)) mid new) where
      collected : (result : Result Unit Ending) (source : SourceView) (sink sink_now : SinkView) → Sent (collected_line freed copied) result sink sink_now →
          KeepsSo result source sink sink_now
      collected result source sink sink_now sent =
          let ending = ending_in result in
          let replied = replied_sent (collected_line freed copied) result sink sink_now sent in
          let wrote = wrote_sent (collected_line freed copied) result sink sink_now sent in
          record {
            any = done_any C state v w old new called percent snapshot mid start freed copied sweeps ending source sink sink_now replied wrote;
            frame = ends_frame C state v w old new called percent snapshot mid start (Ok (answers.Done freed copied)) sweeps ending;
            found = ends_found C state v w old new called percent snapshot mid start (Ok (answers.Done freed copied)) sweeps;
            blank = tt;
            untouched = tt;
          }

      untold : (source : SourceView) (sink : SinkView) → Keeps (Collect percent) [] (Some (Refused Memory)) (devices v w source source sink sink)
      untold source sink = record {
        any = untold_any C state v w old new called percent snapshot mid start freed copied sweeps source sink;
        frame = ends_frame C state v w old new called percent snapshot mid start (Ok (answers.Done freed copied)) sweeps (Some (Refused Memory));
        found = ends_found C state v w old new called percent snapshot mid start (Ok (answers.Done freed copied)) sweeps;
        blank = tt;
        untouched = tt;
      }

      ended : (result : Result Unit Ending) (source : SourceView) (sink sink_now : SinkView) → WritesCollected freed copied result sink sink_now →
          KeepsSo result source sink sink_now
      ended result source sink sink_now (inl sent) = collected result source sink sink_now sent
      ended result source sink sink_now (inr none) = stopped_so Memory result source sink sink_now (untold source sink) none

    finished : (result : Result Unit Ending) (source : SourceView) (sink sink_now : SinkView) → FinishRun C state result mid new sink sink_now → KeepsSo result source sink sink_now
    finished result source sink sink_now (inl (refusal, (sweeps, is))) = stopped_so refusal result source sink sink_now (stopped refusal sweeps source sink) is
    finished result source sink sink_now (inr (freed, copied, (sweeps, writes))) =
        ended freed copied sweeps result source sink sink_now writes

  pub collect_keeps : (result : Result Unit Ending) (source : SourceView) (sink sink_now : SinkView) → CollectRun C state percent result old new sink sink_now →
      KeepsSo result source sink sink_now
  collect_keeps result source sink sink_now (inl (refusal, (start, is))) = stopped_so refusal result source sink sink_now (unbegun refusal start source sink) is
  collect_keeps result source sink sink_now (inr (snapshot, (mid, (start, finish)))) = finished snapshot mid start result source sink sink_now finish

-- ---- its lines

module _ (C : Type 0) (state : C → CoreState) (percent : ℕ) (old new : C) (runs : (state old).stop ≡ None) where
  -- a core that began to collect is not stopped
  runs_then : (snapshot : ℕ) (mid : C) → Starts C state percent (Ok snapshot) old mid → (state mid).stop ≡ None
  runs_then snapshot mid start = (steps_of _ (state old) (state mid) runs start.1).stops

  finished_lines : (snapshot : ℕ) (mid : C) → Starts C state percent (Ok snapshot) old mid → (result : Result Unit Ending) (sink sink_now : SinkView) →
      FinishRun C state result mid new sink sink_now
      → RunsSingle C state (IsCollect percent (ending_in result) sink sink_now) old new
  finished_lines snapshot mid start result sink sink_now (inl (refusal, (sweeps, is))) =
      stopped_run C state percent old new runs snapshot mid start (runs_then snapshot mid start) refusal sweeps result sink sink_now is
  finished_lines snapshot mid start result sink sink_now (inr (freed, copied, (sweeps, writes))) =
      swept_run C state percent old new runs snapshot mid start (runs_then snapshot mid start) freed copied sweeps result sink sink_now writes

  pub collect_lines : (result : Result Unit Ending) (sink sink_now : SinkView) → CollectRun C state percent result old new sink sink_now →
      RunsSingle C state (IsCollect percent (ending_in result) sink sink_now) old new
  collect_lines result sink sink_now (inl (refusal, (start, is))) = unbegun_run C state percent old new runs refusal start result sink sink_now is
  collect_lines result sink sink_now (inr (snapshot, (mid, (start, finish)))) = finished_lines snapshot mid start result sink sink_now finish

-- ---- the disk, later

module _ (C : Type 0) (state : C → CoreState) (percent : ℕ) (old new : C) where
  finish_later : (result : Result Unit Ending) (mid : C) (sink sink_now : SinkView) → FinishRun C state result mid new sink sink_now → IsLater (state mid).disk (state new).disk
  finish_later result mid sink sink_now (inl (refusal, (sweeps, is))) =
      later_on (state mid).disk (state sweeps.1.0).disk (state new).disk (collection_later C state sweeps.0 mid sweeps.1.0 sweeps.1.1.0)
      (one_later C state _ sweeps.1.0 new sweeps.1.1.1.1)
  finish_later result mid sink sink_now (inr (freed, copied, (sweeps, writes))) =
      later_on (state mid).disk (state sweeps.1.0).disk (state new).disk (collection_later C state sweeps.0 mid sweeps.1.0 sweeps.1.1.0)
      (one_later C state _ sweeps.1.0 new sweeps.1.1.1.1)

  pub collect_later : (result : Result Unit Ending) (sink sink_now : SinkView) → CollectRun C state percent result old new sink sink_now → IsLater (state old).disk (state new).disk
  collect_later result sink sink_now (inl (refusal, (start, is))) = one_later C state _ old new start.1
  collect_later result sink sink_now (inr (snapshot, (mid, (start, finish)))) =
      later_on (state old).disk (state mid).disk (state new).disk (one_later C state _ old mid start.1) (finish_later result mid sink sink_now finish)
