-- What a `list` keeps: names are listed, and no more than read.
use Rattle.backup_engine.proofs.Prelude.{◌≡◌, inl, inr, ℕ, List, [], Option, None, Some, Result, Ok, Err, refl, sym, ◌∙◌, ap, subst, CountsFault, Reads, NoFault, DiskView, SourceView, SinkView, Answer, NamedRoot, Refusal, Memory, Sink, Refused, listing_text, Lists, CoreStep, Steps, CoreState, Event, IsCaused, WroteOnAny, disk_ending, WritesNames, WroteReply, Keeps, ending_in}
use Rattle.dd_disk.specs.Ending as device
use Rattle.actor_parts.specs.declared.step.Answer.TheVariants as answers
use Rattle.actor_parts.specs.StepValue as asked
use Rattle.namespace.specs.Listing.{listing_of}
use Rattle.reply_text.specs.declared.ending.Ending.{Ending}
use Rattle.store_core.specs.Core.{ListRow}
use Rattle.store_model.specs.Image.{names_of}
use Rattle.backup_engine.specs.AnyDisk.{ListsNames}
use Rattle.backup_engine.specs.Line as table
use Rattle.backup_engine.proofs.Called.{Called}
use Rattle.backup_engine.proofs.NotDone.{holds, without_memory}
use Rattle.backup_engine.proofs.ReadSteps.{steps_of}
use Rattle.backup_engine.proofs.Reading.{reads_frame}
use Rattle.backup_engine.proofs.Replied.{IsReplied, replied_faults, replied_sent, wrote_sent}
use Rattle.backup_engine.proofs.WholeCall.{all_counted, all_reads, to_end}
use Rattle.backup_engine.specs.Seen.{devices}

-- ---- over any disk

module _ (C : Type 0) (state : C → CoreState) (v w : DiskView) (old new : C) (called : Called C state v w old new) where
  abbrev asks : Result Answer Refusal → List ℕ → Event
  asks answer buf = record { actor = 0; step = asked.ListNames; answer = answer; buf = buf }

  made : (answer : Result Answer Refusal) (buf : List ℕ) → CoreStep (state old) (asks answer buf) (state new) → Steps (asks answer buf) (state old) (state new)
  made answer buf step = steps_of (asks answer buf) (state old) (state new) called.opened.stop_is step

  module _ (files : List NamedRoot) (listed : Lists C state (Ok files) old new) where
    steps : Steps (asks (Ok (answers.Listed files)) listed.0) (state old) (state new)
    steps = made (Ok (answers.Listed files)) listed.0 listed.1

    reads : Reads device.Done (state old).disk (state new).disk
    reads = steps.made.effect.disk

    files_are : files ≡ listing_of (names_of called.opened.store)
    files_are = steps.made.row.0 ∙ ap listing_of called.opened.represents.names_are.names_are

    lists : (ending : Option Ending) (sink sink_now : SinkView) → WroteReply (listing_text files) ending sink sink_now → ListsNames ending v w sink sink_now
    lists ending sink sink_now wrote = (
      holds C state v w old new called (to_end C state v w old new called reads.only.later),
      subst (λ (l : List NamedRoot). WroteReply (listing_text l) ending sink sink_now)
          files_are wrote,
    )

    wrote_any : (ending : Option Ending) (sink sink_now : SinkView) → IsReplied ending sink sink_now → WroteReply (listing_text files) ending sink sink_now →
        WroteOnAny table.List [] ending v w sink sink_now
    wrote_any None sink sink_now replied wrote = lists None sink sink_now wrote
    wrote_any (Some Sink) sink sink_now replied wrote = lists (Some Sink) sink sink_now wrote
    wrote_any (Some ending) sink sink_now replied wrote = absurd replied

    caused : (ending : Option Ending) (source : SourceView) (sink sink_now : SinkView) → IsReplied ending sink sink_now →
        IsCaused table.List [] (devices v w source source sink sink_now) ending
    caused None source sink sink_now replied = tt
    caused (Some Sink) source sink sink_now replied = (tt, replied)
    caused (Some ending) source sink sink_now replied = absurd replied

    faults : (ending : Option Ending) (sink sink_now : SinkView) → IsReplied ending sink sink_now → CountsFault (disk_ending ending) v.faults w.faults
    faults None sink sink_now replied = all_counted C state v w old new called device.Done reads.faults_are
    faults (Some Sink) sink sink_now replied = all_counted C state v w old new called device.Done reads.faults_are
    faults (Some ending) sink sink_now replied = absurd replied

    -- they were written, or the sink failed
    were_listed : (ending : Option Ending) (source : SourceView) (sink sink_now : SinkView) → IsReplied ending sink sink_now → WroteReply (listing_text files) ending sink sink_now
        → Keeps table.List [] ending (devices v w source source sink sink_now)
    were_listed ending source sink sink_now replied wrote = record {
      any = record {
        took = (refl, refl);
        caused = caused ending source sink sink_now replied;
        wrote = wrote_any ending sink sink_now replied wrote;
        faults_are = faults ending sink sink_now replied;
        durable = tt;
        source_faults = λ other. refl;
        sink_faults = replied_faults ending sink sink_now replied;
      };
      frame = reads_frame table.List ending v w (all_reads C state v w old new called reads.only);
      found = tt;
      blank = tt;
      untouched = tt;
    }

    -- there was no memory for their text
    untold : (source : SourceView) (sink : SinkView) → Keeps table.List [] (Some (Refused Memory)) (devices v w source source sink sink)
    untold source sink =
        without_memory table.List [] v w source source sink
        (record { only = all_reads C state v w old new called reads.only; faults_are = all_counted C state v w old new called NoFault reads.faults_are }) (refl, refl) refl

    pub told_names : (result : Result Unit Ending) (source : SourceView) (sink sink_now : SinkView) → WritesNames (Ok files) result sink sink_now
        → Keeps table.List [] (ending_in result) (devices v w source source sink sink_now)
    told_names result source sink sink_now (inl sent) =
        were_listed (ending_in result) source sink sink_now (replied_sent (listing_text files) result sink sink_now sent)
        (wrote_sent (listing_text files) result sink sink_now sent)
    told_names result source sink sink_now (inr (is, stays)) =
        subst (λ (r : Result Unit Ending). Keeps table.List [] (ending_in r) (devices v w source source sink sink_now)) (sym is)
        (subst (λ (s : SinkView). Keeps table.List [] (Some (Refused Memory)) (devices v w source source sink s)) (sym stays) (untold source sink))

  -- there was no memory for the list
  by_refusal : (r : Refusal) (buf : List ℕ) → CoreStep (state old) (asks (Err r) buf) (state new) → ListRow (Err r) (state old) (state new) →
      (source : SourceView) (sink : SinkView)
      → Keeps table.List [] (Some (Refused r)) (devices v w source source sink sink)
  by_refusal Memory buf step row source sink =
      let effect = (made (Err Memory) buf step).made.effect in
      without_memory table.List [] v w source source sink
      (record { only = all_reads C state v w old new called effect.disk.only; faults_are = all_counted C state v w old new called NoFault effect.disk.faults_are })
      (refl, refl) refl
  by_refusal r buf step row source sink = absurd row

  pub not_listed : (refusal : Refusal) → Lists C state (Err refusal) old new → (source : SourceView) (sink : SinkView) →
      Keeps table.List [] (Some (Refused refusal)) (devices v w source source sink sink)
  not_listed refusal listed source sink = by_refusal refusal listed.0 listed.1 (made (Err refusal) listed.0 listed.1).made.row source sink
