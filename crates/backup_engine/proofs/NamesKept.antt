-- What `delete` and `list` keep, by what they had a core do, and their lines.
use Rattle.backup_engine.proofs.Prelude.{ℕ, List, [], Some, Result, Ok, Err, sym, subst, DiskView, IsLater, SourceView, SinkView, Answer, NamedRoot, Refusal, Refused, deleted_line, DoesStep, Lists, RefusesStep, Sent, CoreState, DeleteRun, ListRun, Keeps, ending_in}
use Rattle.actor_parts.specs.StepValue as asked
use Rattle.reply_text.specs.declared.ending.Ending.{Ending}
use Rattle.backup_engine.specs.Line.{Delete}
use Rattle.backup_engine.specs.Line as table
use Rattle.backup_engine.specs.Naming.{AsksDelete}
use Rattle.backup_engine.proofs.Called.{Called}
use Rattle.backup_engine.proofs.DeleteKept.{done_any, done_frame, undone_any, undone_frame}
use Rattle.backup_engine.proofs.ListKept.{not_listed, told_names}
use Rattle.backup_engine.proofs.Replied.{replied_sent, wrote_sent}
use Rattle.backup_engine.proofs.Returned.{one_later}
use Rattle.backup_engine.specs.Seen.{devices}
use Rattle.backup_engine.specs.Storing.{Replies}

module _ (C : Type 0) (state : C → CoreState) (v w : DiskView) (old new : C) (called : Called C state v w old new) where
  -- ---- delete

  module _ (name : List ℕ) (source : SourceView) (sink : SinkView) where
    -- it was done
    deleted : (answer : Answer) → DoesStep 0 (asked.Delete name) answer (state old) (state new) → (result : Result Unit Ending) (sink_now : SinkView)
        → Sent (deleted_line name) result sink sink_now → Keeps (Delete name) [] (ending_in result) (devices v w source source sink sink_now)
    deleted answer step result sink_now sent =
        let ending = ending_in result in
        let replied = replied_sent (deleted_line name) result sink sink_now sent in
        let wrote = wrote_sent (deleted_line name) result sink sink_now sent in
        record {
          any = done_any C state v w old new called name answer step.0 step.1 ending source sink sink_now replied wrote;
          frame = done_frame C state v w old new called name answer step.0 step.1 ending sink sink_now replied;
          found = tt;
          blank = tt;
          untouched = tt;
        }

    -- it was refused
    undeleted : (refusal : Refusal) → RefusesStep 0 (asked.Delete name) refusal (state old) (state new) →
        Keeps (Delete name) [] (Some (Refused refusal)) (devices v w source source sink sink)
    undeleted refusal step = record {
      any = undone_any C state v w old new called name refusal step.0 step.1 source sink;
      frame = undone_frame C state v w old new called name refusal step.0 step.1;
      found = tt;
      blank = tt;
      untouched = tt;
    }

    pub delete_keeps : (result : Result Unit Ending) (sink_now : SinkView) → DeleteRun C state name (λ deleted. Replies (deleted_line name) deleted result sink sink_now) old new →
        Keeps (Delete name) [] (ending_in result) (devices v w source source sink sink_now)
    delete_keeps result sink_now (Ok u, (asks, sent)) = deleted asks.0 asks.1 result sink_now sent
    delete_keeps result sink_now (Err refusal, (asks, (is, same))) =
        subst (λ (r : Result Unit Ending). Keeps (Delete name) [] (ending_in r) (devices v w source source sink sink_now)) (sym is)
        (subst (λ (s : SinkView). Keeps (Delete name) [] (Some (Refused refusal)) (devices v w source source sink s)) (sym same) (undeleted refusal asks))

  -- ---- list

  pub list_keeps : (result : Result Unit Ending) (source : SourceView) (sink sink_now : SinkView) → ListRun C state result old new sink sink_now →
      Keeps table.List [] (ending_in result) (devices v w source source sink sink_now)
  list_keeps result source sink sink_now (Ok files, (listed, wrote)) = told_names C state v w old new called files listed result source sink sink_now wrote
  list_keeps result source sink sink_now (Err refusal, (listed, (is, same))) =
      subst (λ (r : Result Unit Ending). Keeps table.List [] (ending_in r) (devices v w source source sink sink_now)) (sym is)
      (subst (λ (s : SinkView). Keeps table.List [] (Some (Refused refusal)) (devices v w source source sink s)) (sym same)
      (not_listed C state v w old new called refusal listed source sink))

-- ---- the disk, later

module _ (C : Type 0) (state : C → CoreState) (old new : C) where
  asked_later : (name : List ℕ) (deleted : Result Unit Refusal) → AsksDelete C state name deleted old new → IsLater (state old).disk (state new).disk
  asked_later name (Ok u) asks = one_later C state _ old new asks.1.1
  asked_later name (Err refusal) asks = one_later C state _ old new asks.1

  pub delete_later : (name reply : List ℕ) (result : Result Unit Ending) (sink sink_now : SinkView)
      → DeleteRun C state name (λ deleted. Replies reply deleted result sink sink_now) old new →
      IsLater (state old).disk (state new).disk
  delete_later name reply result sink sink_now run = asked_later name run.0 run.1.0

  listed_later : (listed : Result (List NamedRoot) Refusal) → Lists C state listed old new → IsLater (state old).disk (state new).disk
  listed_later (Ok files) lists = one_later C state _ old new lists.1
  listed_later (Err refusal) lists = one_later C state _ old new lists.1

  pub list_later : (result : Result Unit Ending) (sink sink_now : SinkView) → ListRun C state result old new sink sink_now → IsLater (state old).disk (state new).disk
  list_later result sink sink_now run = listed_later run.0 run.1.0
