-- What `ingest` keeps: over any disk, and of the rest.
use Rattle.backup_engine.proofs.Prelude.{◌≡◌, List, ℕ, Some, Result, Ok, Err, refl, DiskView, SourceView, SinkView, CoreState, Ingest, IsHeard, IngestRun, Keeps, ending_in}
use Rattle.reply_text.specs.declared.ending.Ending.{Ending}
use Rattle.reply_text.specs.declared.ending.Ending.TheVariants.{Source}
use Rattle.backup_engine.proofs.Called.{Called}
use Rattle.backup_engine.proofs.IngestFrame.{ingest_frame}
use Rattle.backup_engine.proofs.PutCauses.{ingest_any}
use Rattle.backup_engine.specs.Seen.{devices, streaming}

-- the count of the source's faults stays, but at a fault of it
heard_in : (result : Result Unit Ending) (source source_now : SourceView) → IsHeard result source source_now → ¬ (ending_in result ≡ Some Source) →
    source_now.faults ≡ source.faults
heard_in (Ok u) source source_now heard other = heard
heard_in (Err Source) source source_now heard other = absurd (other refl)
heard_in (Err ending) source source_now heard other = heard

module _ (C : Type 0) (state : C → CoreState) (v w : DiskView) (old new : C) (called : Called C state v w old new) (name : List ℕ) where
  -- what the source gave was stored, or not
  pub ingest_keeps : (result : Result Unit Ending) (source source_now : SourceView) (sink sink_now : SinkView)
      (run : IngestRun C state name result (streaming old source sink) (streaming new source_now sink_now))
      → Keeps (Ingest name) run.given (ending_in result) (devices v w source source_now sink sink_now)
  ingest_keeps result source source_now sink sink_now run = record {
    any = ingest_any C state v w old new called name result source source_now sink sink_now run (heard_in result source source_now run.heard);
    frame = ingest_frame C state v w old new called name result source source_now sink sink_now run;
    found = tt;
    blank = tt;
    untouched = tt;
  }
