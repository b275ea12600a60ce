-- What a `collect` keeps, whatever the disk holds.
use Rattle.backup_engine.proofs.Prelude.{◌≡◌, ◌⊎◌, inl, inr, ◌+◌, ◌≤◌, ℕ, List, [], ◌∷◌, length, Option, None, Some, Result, Ok, Err, refl, sym, ◌∙◌, ap, subst, arith, Answer, PlaceMap, CountsFault, ending, ending_of, CrashLeaves, DiskView, IsLater, OnlyReads, counts_on, later_on, leaves_on, shown_content, since, until, SourceView, SinkView, size_of, LAST_ID, Collection, HasStage, HasMarkedAll, Phase, Refusal, Sink, Refused, CollectionRun, Collects, Sweeps, Encodes, Store, last_id, blames, Tables, GcRow, IsNotMade, StartRow, TouchesBy, at_moment, CoreStep, Rests, Steps, CoreRun, CoreState, Event, copied_in, freed_in, end_reads, step_runs, alone, EndsDurable, FindsNames, HasSwept, Holds, IsCaused, IsUnwritten, OnAnyDisk, FindsBeforeWriting, WroteOnAny, disk_ending, collected_line, written_in, KeepsOthers, KeepsRest, SameButSlotsOf, Collect, WroteReply}
use Rattle.actor_parts.specs.declared.part.Part.{Part}
use Rattle.actor_parts.specs.declared.step.Answer.TheVariants as answers
use Rattle.actor_parts.specs.Parts.{part_of}
use Rattle.actor_parts.specs.StepValue as asked
use Rattle.dd_disk.specs.Ending.{Done}
use Rattle.dd_disk.proofs.Later.{reads_leave, reads_on}
use Rattle.gc_steps.specs.Finding.{FindsAll, HeadersAreApart}
use Rattle.gc_steps.specs.Roots.{keys_of_names, roots_of}
use Rattle.gc_steps.specs.Starting.{StopsAt}
use Rattle.gc_steps.proofs.RootKeys.{names_alone}
use Rattle.refusals.specs.declared.refusal.Refusal.TheVariants as refusals
use Rattle.reply_text.specs.declared.ending.Ending as reply
use Rattle.script_runner.specs.Acts.{Starts}
use Rattle.script_runner.proofs.Lists.{idle_part}
use Rattle.store_model.specs.Image.{names_of}
use Rattle.store_model.proofs.Free.{as_many as as_many_ids}
use Rattle.store_state.specs.Settled.{IsSettled}
use Rattle.store_core.specs.Collecting.{Begins, HasEnded}
use Rattle.store_core.specs.Finding.{AreItsSteps, IsIndexed}
use Rattle.store_core.proofs.FindingKeys.{finds_keys, reads_or_finds}
use Rattle.store_core.proofs.CoreRuns.{running_step}
use Rattle.backup_engine.specs.AnyDisk.{IsSettledDisk}
use Rattle.backup_engine.specs.Frame.{KeepsButSweep}
use Rattle.backup_engine.proofs.Called.{Called, settled}
use Rattle.backup_engine.proofs.CollectCauses.{stage_cause}
use Rattle.backup_engine.proofs.CollectFrame.{IsBut, all_leave, but_here, step_leaves}
use Rattle.backup_engine.proofs.NewContainers.{none_new}
use Rattle.backup_engine.proofs.CollectSteps.{CollectedSoFar, IsMarking, all_steps, collection_later, ended, few_so, gc_event, none_counted, reads_settled, same_collection, under_way}
use Rattle.backup_engine.proofs.OtherHeaders.{CameTo}
use Rattle.backup_engine.proofs.SweptBytes.{IsFramed, framed_reads, same_slots}
use Rattle.backup_engine.proofs.SweptSlots.{no_slots}
use Rattle.backup_engine.proofs.FirstActor.{represents_still}
use Rattle.backup_engine.proofs.NotDone.{holds}
use Rattle.backup_engine.proofs.Reading.{reads_frame, unchanged}
use Rattle.backup_engine.proofs.Replied.{IsReplied, replied_faults}
use Rattle.backup_engine.proofs.WholeCall.{all_counted, all_reads, leaves_more, leaves_of, to_end}
use Rattle.backup_engine.specs.Seen.{devices}

abbrev pub start_event : ℕ → Result Answer Refusal → List ℕ → Event
start_event percent answer buf = record { actor = 0; step = asked.GcStart percent; answer = answer; buf = buf }

-- the steps of a collection, one after the other
record OwnRun (C : Type 0) (state : C → CoreState) (mid last : C) : Type 0 where
  events : List Event
  run : CoreRun C state events mid last
  its : AreItsSteps events

own_run : (C : Type 0) (state : C → CoreState) (phases : List Phase) (mid last : C) → CollectionRun C state phases mid last → OwnRun C state mid last
own_run C state [] mid last run = record { events = []; run = run; its = tt }
own_run C state (phase ∷ phases) mid last run =
    let rest = own_run C state phases run.0 last run.1.1 in
    record { events = gc_event (Ok (answers.Did phase)) run.1.0.0 ∷ rest.events; run = (run.0, (run.1.0.1, rest.run)); its = (refl, rest.its) }

-- and one more, however it is answered
own_last : (C : Type 0) (state : C → CoreState) (answer : Result Answer Refusal) (phases : List Phase) (mid last new : C) → CollectionRun C state phases mid last →
    Collects C state answer last new → OwnRun C state mid new
own_last C state answer [] mid last new run collects = record {
  events = gc_event answer collects.0 ∷ [];
  run = (new, (subst (λ (c : C). CoreStep (state c) (gc_event answer collects.0) (state new)) run collects.1, refl));
  its = (refl, tt);
}
own_last C state answer (phase ∷ phases) mid last new run collects =
    let rest = own_last C state answer phases run.0 last new run.1.1 collects in
    record { events = gc_event (Ok (answers.Did phase)) run.1.0.0 ∷ rest.events; run = (run.0, (run.1.0.1, rest.run)); its = (refl, rest.its) }

module _ (C : Type 0) (state : C → CoreState) (v w : DiskView) (old new : C) (called : Called C state v w old new) (percent : ℕ) where
  abbrev pub store : Store
  store = called.opened.store

  abbrev pub index : PlaceMap
  index = called.opened.told.0

  abbrev pub sized : v.size ≡ size_of store.slots
  sized = called.opened.valid.size_is

  started : (answer : Result Answer Refusal) (mid : C) (buf : List ℕ) → CoreStep (state old) (start_event percent answer buf) (state mid) →
      Steps (start_event percent answer buf) (state old) (state mid)
  started answer mid buf step = running_step (state old) (state mid) (start_event percent answer buf) called.opened.stop_is step

  -- no actor is at anything, so the roots are those of names
  names_only : roots_of (state old).tables.names (state old).parts ≡ keys_of_names (names_of store)
  names_only =
      names_alone (state old).tables.names (state old).parts (λ actor below. ap (λ (parts : List Part). part_of parts actor) called.opened.parts_are ∙ idle_part actor below)
      ∙ ap keys_of_names called.opened.represents.names_are.names_are

  -- ---- none was begun

  module _ (refusal : Refusal) (start : Starts C state percent (Err refusal) old new) where
    abbrev unbegun : Rests (Err refusal) (state old) (state new)
    unbegun = (started (Err refusal) new start.0 start.1).made.effect

    unrooted : (r : Refusal) → StopsAt (state old).known (state old).known (roots_of (state old).tables.names (state old).parts) r →
        StopsAt (Some index) (Some index) (keys_of_names (names_of store)) r
    unrooted r stops =
        subst (λ (known : Option PlaceMap). StopsAt known known (keys_of_names (names_of store)) r) called.opened.told.1
        (subst (λ roots. StopsAt (state old).known (state old).known roots r) names_only stops)

    not_begun_cause : (r : Refusal) → StartRow percent (Err r) (state old) (state new) → (source : SourceView) (sink : SinkView) →
        IsCaused (Collect percent) [] (devices v w source source sink sink) (Some (Refused r))
    not_begun_cause refusals.Memory row source sink = tt
    not_begun_cause (refusals.Collecting phase) row source sink = absurd (let wrong : None ≡ Some row.0.0 = sym called.opened.collection_is ∙ row.0.1.0 in cc)
    not_begun_cause refusals.DiskRead row source sink = tt
    not_begun_cause refusals.DiskWrite row source sink = tt
    not_begun_cause r row source sink = inr (
      holds C state v w old new called (later_on (state old).disk (state new).disk w unbegun.disk.only.later called.last.only.later),
      inr (inr (inr (inr (record { index = index; index_is = called.opened.whole index called.opened.told.1; stops = unrooted r row.cause })))),
    )

    pub unbegun_any : (source : SourceView) (sink : SinkView) → OnAnyDisk (Collect percent) [] (Some (Refused refusal)) (devices v w source source sink sink)
    unbegun_any source sink = record {
      took = (refl, refl);
      caused = not_begun_cause refusal (started (Err refusal) new start.0 start.1).made.row source sink;
      wrote = refl;
      faults_are = all_counted C state v w old new called (ending_of (blames refusal)) unbegun.disk.faults_are;
      durable = tt;
      source_faults = λ other. refl;
      sink_faults = λ other. refl;
    }

    pub unbegun_found : FindsBeforeWriting (Collect percent) v w
    unbegun_found = inl (unchanged v w (all_reads C state v w old new called unbegun.disk.only))

    pub unbegun_frame : KeepsOthers (Collect percent) (Some (Refused refusal)) v w
    unbegun_frame = reads_frame (Collect percent) (Some (Refused refusal)) v w (all_reads C state v w old new called unbegun.disk.only)

  -- ---- one was

  module _ (snapshot : ℕ) (mid : C) (start : Starts C state percent (Ok snapshot) old mid) where
    abbrev began : Result Answer Refusal
    began = Ok (answers.Started snapshot)

    abbrev first : Steps (start_event percent began start.0) (state old) (state mid)
    first = started began mid start.0 start.1

    abbrev begins : Begins percent snapshot (state old) (state mid)
    begins = first.made.row.0

    abbrev rested : Rests began (state old) (state mid)
    rested = first.made.effect

    first_framed : (base : List ℕ) → v.content ≡ Some base → IsFramed store [] [] base (state old).disk
    first_framed base told =
        let here : (state old).disk.content ≡ Some base = called.first.only.content_is ∙ told in
        record { told = (base, here); each = λ c image. subst (SameButSlotsOf store [] [] base) (sym (called.durable base here c image)) (same_slots store base) }

    pub so_begun : CollectedSoFar store index v (state mid)
    so_begun = record {
      stop_is = first.stops;
      running = step_runs (state old) (state mid) (start_event percent began start.0) start.1 called.running;
      changes = [];
      each = tt;
      after = store;
      chain = refl;
      represents = alone store (state mid).known (state mid).tables (represents_still (state old) (state mid) rested.tables store called.opened.represents);
      valid = called.opened.valid;
      slots_are = refl;
      freed = [];
      filled = [];
      slots = no_slots store;
      framed = λ base told. framed_reads store [] [] base (state old).disk (state mid).disk (first_framed base told) rested.disk.only;
      ids = omega (arith, called.opened.last_id_is, ap (λ (t : Tables). t.held.last_id) rested.tables.tables_are);
      written_new = none_new (last_id store.held) store.held (omega arith);
      frees_old = tt;
      collection = begins.collection;
      runs = begins.runs;
      began = omega (arith, begins.next_is, called.opened.last_id_is);
      counted = none_counted begins.collection.stage (state old).tables.held begins.collection.sweep begins.nothing_yet.1;
      marks = λ marking. rested.tables.index_is ∙ called.opened.told.1;
      tells = (index, rested.tables.index_is ∙ called.opened.told.1);
      faults_are = rested.disk.faults_are ∙ called.first.faults_are;
      later = later_on v (state old).disk (state mid).disk called.first.only.later rested.disk.only.later;
      settled = reads_settled store.slots (state old).disk (state mid).disk (settled C state v w old new called store.slots) rested.disk.only;
    }

    leaves_begun : (base : List ℕ) → v.content ≡ Some base → CrashLeaves (IsBut store base) (state old).disk (state mid).disk
    leaves_begun base told =
        let here : (state old).disk.content ≡ Some base = called.first.only.content_is ∙ told in
        reads_leave (IsBut store base) (state old).disk (state mid).disk (λ c image. subst (IsBut store base) (sym (called.durable base here c image)) (but_here store base))
        rested.disk.only

    begun_reads : OnlyReads v (state mid).disk
    begun_reads = reads_on v (state old).disk (state mid).disk called.first.only rested.disk.only

    -- what was shown since it began was shown in the call
    apart_to : (end : C) → v.clock ≤ (state end).disk.clock → IsLater (state end).disk w → HeadersAreApart store.held v w →
        HeadersAreApart store.held (state mid).disk (state end).disk
    apart_to end clock later apart = λ slot h g there shown digest.
        apart slot h g there (until v (state end).disk w (since v (state mid).disk (state end).disk begun_reads shown) clock later) digest

    indexed : IsIndexed store index (state old)
    indexed = record { headers = called.opened.valid.headers; represents = called.opened.represents; known_is = called.opened.told.1 }

    -- the roots as it began are those of names
    of_names : FindsAll index (roots_of (state old).tables.names (state old).parts) → FindsAll index (keys_of_names (names_of store))
    of_names found = subst (λ roots. FindsAll index roots) names_only found

    -- ---- its steps, and the last one

    module _ (answer : Result Answer Refusal) (sweeps : Sweeps C state answer mid new) where
      abbrev phases : List Phase
      phases = sweeps.0

      abbrev last : C
      last = sweeps.1.0

      abbrev collects : Collects C state answer last new
      collects = sweeps.1.1.1

      pub so_last : CollectedSoFar store index v (state last)
      so_last = all_steps store index v sized C state phases mid last so_begun sweeps.1.1.0

      pub ends : Steps (gc_event answer collects.0) (state last) (state new)
      ends = running_step (state last) (state new) (gc_event answer collects.0) so_last.stop_is collects.1

      pub since_old : IsLater (state old).disk (state new).disk
      since_old =
          later_on (state old).disk (state mid).disk (state new).disk rested.disk.only.later
          (later_on (state mid).disk (state last).disk (state new).disk (collection_later C state phases mid last sweeps.1.1.0) ends.made.effect.later)

      abbrev pub ends_holds : Holds v w
      ends_holds = holds C state v w old new called (to_end C state v w old new called since_old)

      -- where it had marked before the last step, it had found all keys
      pub marked_names : (c : Collection) → (state last).collection ≡ Some c → HasMarkedAll c.stage → FindsNames store v w
      marked_names c ran marked = record {
        index = index;
        index_is = called.opened.whole index called.opened.told.1;
        found = λ apart.
            let own = own_run C state phases mid last sweeps.1.1.0 in
            let later : IsLater (state last).disk w = later_on (state last).disk (state new).disk w ends.made.effect.later called.last.only.later in
            of_names (finds_keys C state 0 percent snapshot start.0 own.events store index old mid last c called.running called.opened.stop_is indexed start.1 own.run own.its
            (apart_to last so_last.later.clock_is later apart) ran marked);
      }

      -- it only read, or had found all keys
      pub ends_found : FindsBeforeWriting (Collect percent) v w
      ends_found = by_case (reads_or_finds C state 0 percent snapshot start.0 whole.events store index old mid new called.running called.opened.stop_is indexed start.1 whole.run
          whole.its)
        where
          whole : OwnRun C state mid new
          whole = own_last C state answer phases mid last new sweeps.1.1.0 collects

          later : IsLater v (state new).disk
          later = later_on v (state old).disk (state new).disk called.first.only.later since_old

          by_case : OnlyReads (state mid).disk (state new).disk
              ⊎ (HeadersAreApart store.held (state mid).disk (state new).disk → FindsAll index (roots_of (state old).tables.names (state old).parts)) →
              FindsBeforeWriting (Collect percent) v w
          by_case (inl reads) = inl (unchanged v w (reads_on v (state mid).disk w begun_reads (reads_on (state mid).disk (state new).disk w reads called.last.only)))
          by_case (inr found) = inr (
            ends_holds,
            record {
              index = index;
              index_is = called.opened.whole index called.opened.told.1;
              found = λ apart. of_names (found (apart_to new later.clock_is called.last.only.later apart));
            },
          )

      -- the disk's count of faults, by the last step
      pub ends_faults : CountsFault (ending blames answer) v.faults w.faults
      ends_faults =
          subst (λ (n : ℕ). CountsFault (ending blames answer) v.faults n) (sym called.last.faults_are)
          (counts_on (ending blames answer) v.faults (state last).disk.faults (state new).disk.faults so_last.faults_are ends.made.effect.faults_are)

      -- however the last one ends
      ends_leave : (base : List ℕ) → v.content ≡ Some base → CrashLeaves (IsBut store base) (state last).disk (state new).disk
      ends_leave base told = step_leaves store index v sized C state base told last new so_last answer collects

      run_leaves : (base : List ℕ) → v.content ≡ Some base → CrashLeaves (IsBut store base) (state old).disk (state new).disk
      run_leaves base told =
          let IsSo : List ℕ → Type 0 = IsBut store base in
          leaves_on IsSo IsSo IsSo (state old).disk (state mid).disk (state new).disk rested.disk.only.later.clock_is (leaves_begun base told)
          (leaves_on IsSo IsSo IsSo (state mid).disk (state last).disk (state new).disk (collection_later C state phases mid last sweeps.1.1.0).clock_is
          (all_leave store index v sized C state base told phases mid last so_begun sweeps.1.1.0)
          (ends_leave base told) (λ c but. but) (λ c but. but)) (λ c but. but) (λ c but. but)

      but_sweep : (base : List ℕ) → v.content ≡ Some base → (c : List ℕ) → IsBut store base c → KeepsButSweep base c
      but_sweep base told c but = record {
        store = store;
        right = shown_content v (state old).disk (λ image. Encodes image store) base called.opened.right told;
        reserve = called.opened.reserve;
        freed = but.freed;
        had = but.had;
        filled = but.filled;
        may = but.may;
        same = but.same;
      }

      -- what is left of the bytes
      pub ends_frame : (over : Option reply.Ending) → KeepsOthers (Collect percent) over v w
      ends_frame over = record {
        content = λ base told.
            let now = since_old.tells base (called.first.only.content_is ∙ told) in
            (now.0, called.last.only.content_is ∙ now.1, inr (but_sweep base told now.0 ((ends_leave base told).now now.0 ((state new).disk.as_read now.0 now.1))));
        crash = λ base told.
            leaves_more (IsBut store base) (KeepsRest (Collect percent) over base) v w (λ c but. inr (but_sweep base told c but))
            (leaves_of C state v w old new called (IsBut store base) since_old (run_leaves base told));
      }

    -- ---- it ended

    module _ (freed copied : ℕ) (sweeps : Sweeps C state (Ok (answers.Done freed copied)) mid new) where
      abbrev done : Result Answer Refusal
      done = Ok (answers.Done freed copied)

      abbrev pub so_done : CollectedSoFar store index v (state sweeps.1.0)
      so_done = so_last done sweeps

      pub as_many : HasEnded freed copied (state sweeps.1.0) (state new) × (freed ≡ freed_in so_done.changes) × (copied ≡ copied_in so_done.changes)
      as_many = ended store index v sized C state freed copied sweeps.1.0 new so_done sweeps.1.1.1

      swept : HasSwept freed copied v w
      swept = record {
        holds = ends_holds done sweeps;
        changes = so_done.changes;
        sweeps = record { each = so_done.each; after = so_done.after; chain = so_done.chain };
        freed_are = as_many.1;
        copied_are = as_many.2;
        names = marked_names done sweeps as_many.0.before as_many.0.ran (subst HasMarkedAll (sym as_many.0.at_end.0) tt);
      }

      -- the last step only read
      pub last_reads : OnlyReads (state sweeps.1.0).disk (state new).disk
      last_reads =
          let c : Collection = as_many.0.before in
          (end_reads c (state sweeps.1.0).tables Done (state sweeps.1.0).disk (state new).disk as_many.0.at_end.0 as_many.0.at_end.1
          (subst (λ (o : Option Collection). TouchesBy o done (state sweeps.1.0) (state new).disk) as_many.0.ran (ends done sweeps).made.effect.touches)).only

      is_settled : IsSettledDisk w
      is_settled slots is =
          let now : IsSettled store.slots w =
          reads_settled store.slots (state new).disk w (reads_settled store.slots (state sweeps.1.0).disk (state new).disk so_done.settled last_reads) called.last.only in
          let later : IsLater v w = later_on v (state old).disk w called.first.only.later (to_end C state v w old new called (since_old done sweeps)) in
          let same : store.slots ≡ slots = omega (arith, sized, later.size_is, is) in
          subst (λ (n : ℕ). IsSettled n w) same now

      done_wrote : (over : Option reply.Ending) (sink sink_now : SinkView) → IsReplied over sink sink_now → WroteReply (collected_line freed copied) over sink sink_now →
          WroteOnAny (Collect percent) [] over v w sink sink_now
      done_wrote None sink sink_now replied wrote = (freed, copied, (swept, wrote))
      done_wrote (Some Sink) sink sink_now replied wrote = (freed, copied, (swept, wrote))
      done_wrote (Some over) sink sink_now replied wrote = absurd replied

      done_caused : (over : Option reply.Ending) (source : SourceView) (sink sink_now : SinkView) → IsReplied over sink sink_now →
          IsCaused (Collect percent) [] (devices v w source source sink sink_now) over
      done_caused None source sink sink_now replied = tt
      done_caused (Some Sink) source sink sink_now replied = (tt, replied)
      done_caused (Some over) source sink sink_now replied = absurd replied

      done_durable : (over : Option reply.Ending) (sink sink_now : SinkView) → IsReplied over sink sink_now → EndsDurable (Collect percent) over w
      done_durable None sink sink_now replied = is_settled
      done_durable (Some Sink) sink sink_now replied = is_settled
      done_durable (Some over) sink sink_now replied = absurd replied

      done_faults : (over : Option reply.Ending) (sink sink_now : SinkView) → IsReplied over sink sink_now → CountsFault (disk_ending over) v.faults w.faults
      done_faults None sink sink_now replied = ends_faults done sweeps
      done_faults (Some Sink) sink sink_now replied = ends_faults done sweeps
      done_faults (Some over) sink sink_now replied = absurd replied

      pub done_any : (over : Option reply.Ending) (source : SourceView) (sink sink_now : SinkView) → IsReplied over sink sink_now →
          WroteReply (collected_line freed copied) over sink sink_now
          → OnAnyDisk (Collect percent) [] over (devices v w source source sink sink_now)
      done_any over source sink sink_now replied wrote = record {
        took = (refl, refl);
        caused = done_caused over source sink sink_now replied;
        wrote = done_wrote over sink sink_now replied wrote;
        faults_are = done_faults over sink sink_now replied;
        durable = done_durable over sink sink_now replied;
        source_faults = λ other. refl;
        sink_faults = replied_faults over sink sink_now replied;
      }

      -- there was no memory for its reply
      pub untold_any : (source : SourceView) (sink : SinkView) → OnAnyDisk (Collect percent) [] (Some (Refused refusals.Memory)) (devices v w source source sink sink)
      untold_any source sink = record {
        took = (refl, refl);
        caused = tt;
        wrote = refl;
        faults_are = ends_faults done sweeps;
        durable = tt;
        source_faults = λ other. refl;
        sink_faults = λ other. refl;
      }

    -- ---- a step was refused

    module _ (refusal : Refusal) (sweeps : Sweeps C state (Err refusal) mid new) where
      abbrev so_far : CollectedSoFar store index v (state sweeps.1.0)
      so_far = so_last (Err refusal) sweeps

      abbrev at : CoreState
      at = state sweeps.1.0

      abbrev err : Result Answer Refusal
      err = Err refusal

      -- no id is left by the tables, and so by the changes
      pub no_id : LAST_ID ≤ at.tables.held.last_id → LAST_ID ≤ last_id store.held + written_in so_far.changes
      no_id none = omega (arith, none, so_far.ids)

      unwritten : LAST_ID ≤ at.tables.held.last_id → IsUnwritten store
      unwritten none = record {
        changes = so_far.changes;
        sweeps = record { each = so_far.each; after = so_far.after; chain = so_far.chain };
        ids = no_id none;
        earlier =
            so_far.frees_old;
        few = few_so store index v sized C state sweeps.1.0 so_far called.opened.valid.many;
      }

      came_to : CameTo store at.tables.held
      came_to = record { changes = so_far.changes; sweeps = record { each = so_far.each; after = so_far.after; chain = so_far.chain }; slots = so_far.represents.slots_hold }

      slots_many : length at.tables.held.ids.items ≡ store.slots
      slots_many = omega (arith, ap (λ (ids : List ℕ). length ids) so_far.represents.slots_hold.ids_are, as_many_ids so_far.after.held, so_far.valid.many, so_far.slots_are)

      by_row : (r : Refusal) → IsNotMade r at (state new) → TouchesBy at.collection err at (state new).disk → (source : SourceView) (sink : SinkView) →
          IsCaused (Collect percent) [] (devices v w source source sink sink) (Some (Refused r))
      by_row r made touches source sink =
          let c = made.before in
          let so_is = same_collection so_far.collection c at.collection so_far.runs made.ran in
          stage_cause percent v w source sink (ends_holds err sweeps) (at_moment at c) (state new).disk so_far.later (ends err sweeps).made.effect.later called.last store.slots
          (so_far.later.size_is ∙ sized) slots_many
          index (called.opened.whole index called.opened.told.1) so_far.tells unwritten came_to c.stage c.sweep.next
          (subst (λ (x : Collection). HasStage at.tables.held x x.stage) so_is (under_way store index v sized C state sweeps.1.0 so_far).stage_is) refl
          (λ marks. so_far.marks (subst (λ (x : Collection). IsMarking x.stage) (sym so_is) marks))
          (λ marked. marked_names err sweeps c made.ran marked) (ending blames err) (subst (λ (o : Option Collection). TouchesBy o err at (state new).disk) made.ran touches) r
          made.cause

      cause_of : (r : Refusal) → GcRow (Err r) at (state new) → TouchesBy at.collection err at (state new).disk → (source : SourceView) (sink : SinkView)
          → IsCaused (Collect percent) [] (devices v w source source sink sink) (Some (Refused r))
      cause_of refusals.NotCollecting row touches source sink = absurd (let wrong : None ≡ Some so_far.collection = sym row.0.none_ran ∙ so_far.runs in cc)
      cause_of r row touches source sink = by_row r row.0 touches source sink

      pub stopped_any : (source : SourceView) (sink : SinkView) → OnAnyDisk (Collect percent) [] (Some (Refused refusal)) (devices v w source source sink sink)
      stopped_any source sink = record {
        took = (refl, refl);
        caused = cause_of refusal (ends (Err refusal) sweeps).made.row (ends (Err refusal) sweeps).made.effect.touches source sink;
        wrote = refl;
        faults_are = ends_faults (Err refusal) sweeps;
        durable = tt;
        source_faults = λ other. refl;
        sink_faults = λ other. refl;
      }
