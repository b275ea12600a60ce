-- A name that was deleted, or not: what the promise says of any disk, and what is never changed.
use Rattle.backup_engine.proofs.Prelude.{◌≡◌, inl, inr, ◌-◌, ℕ, Bool, List, [], length, true, false, Option, None, Some, Result, Ok, Err, refl, sym, ◌∙◌, ap, subst, arith, IsSome, ltb-false, SameOutside, Gone, CELL_BYTES, half_cells, cell_at, CountsFault, ending_of, StandsFor, DiskView, IsDurable, IsLater, durable_reads, stands_reads, shown_content, SourceView, SinkView, Answer, ChangesBytes, SameButRecordBy, JournalValue, NameMap, Refusal, Memory, NoFile, BadName, Numbers, DiskRead, DiskWrite, Sink, Refused, deleted_line, Store, Encodes, HasJournal, has_journal, CanChangeName, with_change, blames, CoreStep, NamesOne, Steps, CoreState, Event, EndsDurable, IsCaused, IsDeleted, OnAnyDisk, disk_ending, room_in, KeepsOthers, KeepsRest, LacksNumbers, MayChange, WroteReply}
use Rattle.std.proofs.Common.{is_some}
use Rattle.std.specs.FinMap as finite
use Rattle.dd_disk.specs.Ending as device
use Rattle.dd_disk.specs.Moves.{Acts}
use Rattle.dd_disk.proofs.Moves.{stands_durable}
use Rattle.actor_parts.specs.StepValue as asked
use Rattle.ingest_steps.specs.Naming.{ChangesJournalAlone, IsDeleteRefusal}
use Rattle.ingest_steps.specs.Naming as naming
use Rattle.ingest_steps.specs.Recording.{has_cell}
use Rattle.ingest_steps.proofs.Recorded.{count_of_cell}
use Rattle.journal_cells.specs.Checkpoints.{SameButHalf}
use Rattle.reply_text.specs.declared.ending.Ending.{Ending}
use Rattle.store_model.specs.Image.{names_of}
use Rattle.backup_engine.specs.Frame.{KeepsButRecord, SameButRecordOf}
use Rattle.backup_engine.specs.Line.{Delete}
use Rattle.backup_engine.proofs.Called.{Called}
use Rattle.backup_engine.proofs.NotDone.{holds}
use Rattle.backup_engine.proofs.PutNames.{opened_on}
use Rattle.backup_engine.proofs.ReadSteps.{steps_of}
use Rattle.backup_engine.proofs.Reading.{reads_frame}
use Rattle.backup_engine.proofs.Replied.{IsReplied, replied_faults}
use Rattle.backup_engine.proofs.WholeCall.{all_counted, all_reads, leaves_more, leaves_of, to_end}
use Rattle.backup_engine.specs.Seen.{devices}

is_none : {A : Type 0} (o : Option A) → o ≡ None → is_some o ≡ false
is_none o is = ap is_some is

-- a name has what its entry says
is_some_of : {A : Type 0} (o : Option A) → IsSome o → is_some o ≡ true
is_some_of o some = some

module _ (C : Type 0) (state : C → CoreState) (v w : DiskView) (old new : C) (called : Called C state v w old new) where
  module _ (name : List ℕ) where
    abbrev store : Store
    store = called.opened.store

    abbrev asks : Result Answer Refusal → List ℕ → Event
    asks answer buf = record { actor = 0; step = asked.Delete name; answer = answer; buf = buf }

    made : (answer : Result Answer Refusal) (buf : List ℕ) → CoreStep (state old) (asks answer buf) (state new) → Steps (asks answer buf) (state old) (state new)
    made answer buf step = steps_of (asks answer buf) (state old) (state new) called.opened.stop_is step

    opened_so : (base : List ℕ) → v.content ≡ Some base → Encodes base store
    opened_so base known = shown_content v (state old).disk (λ image. Encodes image store) base called.opened.right known

    -- ---- the bytes

    module _ (ending : Option Ending) (may : MayChange ending) where
      abbrev journal : JournalValue
      journal = (state old).tables.journal

      abbrev Changes : List ℕ → List ℕ → Type 0
      Changes base = ChangesBytes (state old).tables name Gone base base

      of_store : (base c : List ℕ) (free : Bool) → has_cell journal ≡ free → SameButRecordBy free journal base c → SameButRecordOf store base c
      of_store base c true is same =
          let names = called.opened.represents.names_are in
          inl (
            omega (arith, count_of_cell journal is, names.count),
            subst (λ (half : ℕ). SameOutside (cell_at half (length store.records)) CELL_BYTES base c) names.half
                (subst (λ (count : ℕ). SameOutside (cell_at journal.half count) CELL_BYTES base c) names.count same),
          )
      of_store base c false is same =
          let names = called.opened.represents.names_are in
          inr (omega (arith, ltb-false journal.count half_cells is, names.count), subst (λ (half : ℕ). SameButHalf (1 - half) base c) names.half same)

      but_record : (base : List ℕ) → v.content ≡ Some base → (c : List ℕ) → Changes base c → KeepsButRecord name ending base c
      but_record base known c changes = record {
        may = may;
        store = store;
        right = opened_so base known;
        reserve = called.opened.reserve;
        same = of_store base c (has_cell journal) refl changes.same;
        names = let has = has_journal store base (opened_so base known) in changes.journal store called.opened.represents.names_are has has;
      }

      -- nothing but the bytes of a record changed
      cell_frame : ChangesJournalAlone (state old).tables name Gone (state old).disk (state new).disk → IsLater (state old).disk (state new).disk →
          KeepsOthers (Delete name) ending v w
      cell_frame alone later = record {
        content = λ base known.
            let now = (alone.synced called.durable base (called.first.only.content_is ∙ known)).0 in
            (now.0, called.last.only.content_is ∙ now.1, inr (but_record base known now.0 now.2));
        crash = λ base known.
            leaves_more (Changes base) (KeepsRest (Delete name) ending base) v w (λ c same. inr (but_record base known c same))
            (leaves_of C state v w old new called (Changes base) later (alone.synced called.durable base (called.first.only.content_is ∙ known)).1);
      }

    -- ---- it was done

    module _ (answer : Answer) (buf : List ℕ) (step : CoreStep (state old) (asks (Ok answer) buf) (state new)) where
      effect : NamesOne name Gone (Ok answer) (state old) (state new)
      effect = (made (Ok answer) buf step).made.effect

      can : CanChangeName name Gone store
      can =
          let on = opened_on C state v w old new called in
          (effect.made.can.store_has store on.represents on.valid on.has_free).0.0

      -- the journal of the disk now is that without the name
      names_without : (base : List ℕ) → v.content ≡ Some base → StandsFor (HasJournal (with_change name Gone store)) w
      names_without base known =
          let has = has_journal store base (opened_so base known) in
          let told : (state old).disk.content ≡ Some base = called.first.only.content_is ∙ known in
          let moved = effect.moves.journal store called.opened.represents.names_are (stands_durable (HasJournal store) (state old).disk base called.durable told has) in
          stands_reads (HasJournal (with_change name Gone store)) (state new).disk w moved.arrives called.last.only

      was_deleted : IsDeleted name v w
      was_deleted = record {
        holds = holds C state v w old new called (to_end C state v w old new called effect.disk.later);
        may = record { named = can.named; knows = is_some_of (finite.get (names_of store) name) can.place };
        numbers = record { sequence = can.number; generation = can.rise };
        names = λ base known. names_without base known;
      }

      done_caused : (ending : Option Ending) (source : SourceView) (sink sink_now : SinkView) → IsReplied ending sink sink_now →
          IsCaused (Delete name) [] (devices v w source source sink sink_now) ending
      done_caused None source sink sink_now replied = was_deleted
      done_caused (Some Sink) source sink sink_now replied = (was_deleted, replied)
      done_caused (Some ending) source sink sink_now replied = absurd replied

      done_faults : (ending : Option Ending) (sink sink_now : SinkView) → IsReplied ending sink sink_now → CountsFault (disk_ending ending) v.faults w.faults
      done_faults None sink sink_now replied = all_counted C state v w old new called device.Done effect.disk.faults_are
      done_faults (Some Sink) sink sink_now replied = all_counted C state v w old new called device.Done effect.disk.faults_are
      done_faults (Some ending) sink sink_now replied = absurd replied

      is_durable : IsDurable w
      is_durable = durable_reads (state new).disk w effect.durable called.last.only

      done_durable : (ending : Option Ending) (sink sink_now : SinkView) → IsReplied ending sink sink_now → EndsDurable (Delete name) ending w
      done_durable None sink sink_now replied = is_durable
      done_durable (Some Sink) sink sink_now replied = is_durable
      done_durable (Some ending) sink sink_now replied = absurd replied

      pub done_any : (ending : Option Ending) (source : SourceView) (sink sink_now : SinkView) → IsReplied ending sink sink_now →
          WroteReply (deleted_line name) ending sink sink_now → OnAnyDisk (Delete name) [] ending (devices v w source source sink sink_now)
      done_any ending source sink sink_now replied wrote = record {
        took = (refl, refl);
        caused = done_caused ending source sink sink_now replied;
        wrote = wrote;
        faults_are = done_faults ending sink sink_now replied;
        durable = done_durable ending sink sink_now replied;
        source_faults = λ other. refl;
        sink_faults = replied_faults ending sink sink_now replied;
      }

      done_changes : (ending : Option Ending) (sink sink_now : SinkView) → IsReplied ending sink sink_now → MayChange ending
      done_changes None sink sink_now replied = tt
      done_changes (Some Sink) sink sink_now replied = tt
      done_changes (Some ending) sink sink_now replied = absurd replied

      pub done_frame : (ending : Option Ending) (sink sink_now : SinkView) → IsReplied ending sink sink_now → KeepsOthers (Delete name) ending v w
      done_frame ending sink sink_now replied = cell_frame ending (done_changes ending sink sink_now replied) effect.frame effect.disk.later

    -- ---- it was refused

    module _ (refusal : Refusal) (buf : List ℕ) (step : CoreStep (state old) (asks (Err refusal) buf) (state new)) where
      undone : NamesOne name Gone (Err refusal) (state old) (state new)
      undone = (made (Err refusal) buf step).made.effect

      why : IsDeleteRefusal (state old).tables name refusal
      why = (made (Err refusal) buf step).made.row.0

      abbrev names_are : (state old).tables.names ≡ names_of store
      names_are = called.opened.represents.names_are.names_are

      there : IsSome (finite.get (state old).tables.names name) → is_some (finite.get (names_of store) name) ≡ true
      there some = is_some_of (finite.get (names_of store) name) (subst (λ (names : NameMap). IsSome (finite.get names name)) names_are some)

      no_numbers : naming.LacksNumbers (state old).tables → LacksNumbers (room_in (Delete name) store)
      no_numbers (inl most) = inl (sym called.opened.represents.names_are.last_is ∙ most)
      no_numbers (inr full) = inr (omega (arith, full.0, called.opened.represents.names_are.count), sym called.opened.represents.names_are.generation ∙ full.1)

      caused_by : (r : Refusal) (source : SourceView) (sink : SinkView) → IsDeleteRefusal (state old).tables name r →
          IsCaused (Delete name) [] (devices v w source source sink sink) (Some (Refused r))
      caused_by Memory source sink cause = tt
      caused_by DiskRead source sink cause = tt
      caused_by DiskWrite source sink cause = tt
      caused_by BadName source sink cause = inr (holds C state v w old new called (to_end C state v w old new called undone.disk.later), cause)
      caused_by NoFile source sink cause =
          inr (
            holds C state v w old new called (to_end C state v w old new called undone.disk.later),
            (cause.0, is_none (finite.get (names_of store) name) (ap (λ (names : NameMap). finite.get names name) (sym names_are) ∙ cause.1)),
          )
      caused_by Numbers source sink cause =
          inr (
            holds C state v w old new called (to_end C state v w old new called undone.disk.later),
            (
              record { named = cause.0.named; knows = there cause.0.there },
              no_numbers cause.1,
            ),
          )
      caused_by r source sink cause = absurd cause

      pub undone_any : (source : SourceView) (sink : SinkView) → OnAnyDisk (Delete name) [] (Some (Refused refusal)) (devices v w source source sink sink)
      undone_any source sink = record {
        took = (refl, refl);
        caused = caused_by refusal source sink why;
        wrote = refl;
        faults_are = all_counted C state v w old new called (ending_of (blames refusal)) undone.disk.faults_are;
        durable = tt;
        source_faults = λ other. refl;
        sink_faults = λ other. refl;
      }

      frame_by : (r : Refusal) → IsDeleteRefusal (state old).tables name r → Acts (ending_of (blames r)) (state old).disk (state new).disk →
          KeepsOthers (Delete name) (Some (Refused r)) v w
      frame_by DiskWrite cause acts = cell_frame (Some (Refused DiskWrite)) tt undone.frame acts.later
      frame_by DiskRead cause acts = absurd cause
      frame_by r cause acts = reads_frame (Delete name) (Some (Refused r)) v w (all_reads C state v w old new called acts.ends)

      pub undone_frame : KeepsOthers (Delete name) (Some (Refused refusal)) v w
      undone_frame = frame_by refusal why undone.disk
