-- All that the promise says of a `restore` whose store was opened.
use Rattle.backup_engine.proofs.Prelude.{inl, inr, ℕ, List, [], Result, DiskView, SourceView, SinkView, CoreState, Restore, IsGivenOut, GiveRun, Keeps, ending_in}
use Rattle.reply_text.specs.declared.ending.Ending.{Ending}
use Rattle.backup_engine.proofs.Called.{Called}
use Rattle.backup_engine.proofs.GivenOut.{given_on_any, of_call}
use Rattle.backup_engine.proofs.NotOpened.{not_opened}
use Rattle.backup_engine.proofs.Reading.{reads_frame}
use Rattle.backup_engine.specs.Seen.{devices}

module _ (C : Type 0) (state : C → CoreState) (v w : DiskView) (old new : C) (was : Called C state v w old new) (name : List ℕ) (source : SourceView) (sink sink_now : SinkView)
    (result : Result Unit Ending) (out : IsGivenOut C state name result old new sink sink_now) where
  given_out : Keeps (Restore name) [] (ending_in result) (devices v w source source sink sink_now)
  given_out =
      let reads = of_call C state v w old new was name source sink sink_now result out in
      record {
        any = given_on_any C state v w old new was name source sink sink_now result out;
        frame = reads_frame (Restore name) (ending_in result) v w reads.only;
        found = tt;
        blank = tt;
        untouched = tt;
      }

-- What a `restore` keeps, from the steps that it made of a core that was opened.
pub gives : (C : Type 0) (state : C → CoreState) (v w : DiskView) (old new : C) → Called C state v w old new →
    (name : List ℕ) (result : Result Unit Ending) (sink sink_now : SinkView)
    → GiveRun C state name result old new sink sink_now → (source : SourceView) → Keeps (Restore name) [] (ending_in result) (devices v w source source sink sink_now)
gives C state v w old new was name result sink sink_now (inl not) source = not_opened C state v w old new was name result source sink sink_now not
gives C state v w old new was name result sink sink_now (inr out) source = given_out C state v w old new was name source sink sink_now result out
