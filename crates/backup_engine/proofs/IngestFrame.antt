-- What `ingest` never changes, whatever the disk holds: all of the call.
use Rattle.backup_engine.proofs.Prelude.{◌≡◌, inl, inr, ℕ, ◌≤◌, List, Option, Some, None, Result, Ok, Err, sym, ◌∙◌, subst, RESERVE, DiskView, IsLater, leaves_weaker, SourceView, SinkView, Refusal, Memory, TooLong, Sink, Refused, stored_line, Store, Encodes, free_slots, root_of, events_of, CoreState, KeepsRest, KeepsOthers, Ingest, LeavesMeanwhile, MayChange, PutRun, IsSourceFault, Replies, IngestRun, ending_in}
use Rattle.reply_text.specs.declared.ending.Ending.{Ending}
use Rattle.reply_text.specs.declared.ending.Ending.TheVariants.{Source}
use Rattle.backup_engine.specs.Frame.{KeepsOpen}
use Rattle.backup_engine.proofs.Called.{Called}
use Rattle.backup_engine.proofs.PutCauses.{run_later}
use Rattle.backup_engine.proofs.PutChanges.{EndsBy, ways_of}
use Rattle.backup_engine.proofs.PutFrame.{Leaves, IsFramed, framed_way, framed_open, last_put, last_refused}
use Rattle.backup_engine.proofs.PutNames.{opened_framed, opened_right}
use Rattle.backup_engine.proofs.WholeCall.{leaves_more, leaves_of}
use Rattle.backup_engine.specs.Seen.{streaming}

module _ (C : Type 0) (state : C → CoreState) (v w : DiskView) (old new : C) (called : Called C state v w old new) where
  abbrev store : Store
  store = called.opened.store

  abbrev Left : List ℕ → List ℕ → Option Ending → Type 0
  Left name base ending = Leaves (KeepsOpen name ending base) (state old).disk (state new).disk

  module _ (base : List ℕ) (known : v.content ≡ Some base) where
    encodes : Encodes base store
    encodes = opened_right C state v w old new called base known

    reserve : RESERVE ≤ free_slots store.held
    reserve = called.opened.reserve

    abbrev framed : IsFramed store base (state old).disk (state old)
    framed = opened_framed C state v w old new called base known

    put_left : (name bytes : List ℕ) (ending : Option Ending) → MayChange ending → PutRun C state name bytes (Ok tt) old new → Left name base ending
    put_left name bytes ending may run =
        let ways = ways_of C state name bytes (Ok tt) old new run in
        let there = framed_way store base name bytes (state old).disk C state ways.way old ways.mid framed ways.ran ways.each in
        last_put store base encodes reserve (state old).disk name bytes ending may (state ways.mid) (state new) there ways.last

    ended : (name bytes : List ℕ) (refusal : Refusal) (mid : C) → IsFramed store base (state old).disk (state mid) → EndsBy C state name bytes (Err refusal) mid new →
        Left name base (Some (Refused refusal))
    ended name bytes refusal mid there (inl none) =
        framed_open store base encodes reserve (state old).disk name (state new) (Some (Refused refusal))
        (subst (λ (c : C). IsFramed store base (state old).disk (state c)) (sym none.0) there)
    ended name bytes refusal mid there (inr last) = last_refused store base encodes reserve (state old).disk name bytes refusal (state mid) (state new) there last

    refused_left : (name bytes : List ℕ) (refusal : Refusal) → PutRun C state name bytes (Err refusal) old new → Left name base (Some (Refused refusal))
    refused_left name bytes refusal run =
        let ways = ways_of C state name bytes (Err refusal) old new run in
        ended name bytes refusal ways.mid (framed_way store base name bytes (state old).disk C state ways.way old ways.mid framed ways.ran ways.each) ways.last

    -- no write failed, so the map may not have changed
    never_changed : (name : List ℕ) (ending : Option Ending) → ¬ (MayChange ending) → (c : List ℕ) → KeepsOpen name (Some (Refused Memory)) base c → KeepsOpen name ending base c
    never_changed name ending never c open_there = record {
      store = open_there.store;
      right = open_there.right;
      reserve = open_there.reserve;
      size_is = open_there.size_is;
      format = open_there.format;
      journal = λ needs.
          let same = open_there.journal (λ may. absurd may) in
          record { head = same.head; cells = λ half cell low within other. same.cells half cell low within (λ is. absurd is.0) };
      containers = open_there.containers;
      names = elim open_there.names [ inl still ↦ inl still | inr put ↦ absurd put.0 ];
    }

    stopped_left : (name bytes : List ℕ) (ending : Option Ending) → ¬ (MayChange ending) → PutRun C state name bytes (Err Memory) old new → Left name base ending
    stopped_left name bytes ending never run =
        let left = refused_left name bytes Memory run in
        let keeps = never_changed name ending never in
        record {
          content = (left.content.0, left.content.1, keeps left.content.0 left.content.2);
          images = leaves_weaker (KeepsOpen name (Some (Refused Memory)) base) (KeepsOpen name ending base) (state old).disk (state new).disk keeps left.images;
        }

    -- so it is where a source ended
    source_changes : (source source_now : SourceView) (ending : Ending) → IsSourceFault source source_now ending → ¬ (MayChange (Some ending))
    source_changes source source_now Source cause may = may
    source_changes source source_now (Refused Memory) cause may = may
    source_changes source source_now (Refused TooLong) cause may = may
    source_changes source source_now ending cause may = absurd cause

    taken_left : (name bytes : List ℕ) (put : Result Unit Refusal) → PutRun C state name bytes put old new →
        (reply : List ℕ) (result : Result Unit Ending) (sink sink_now : SinkView)
        → Replies reply put result sink sink_now → Left name base (ending_in result)
    taken_left name bytes (Ok u) run reply (Ok done) sink sink_now sent = put_left name bytes None tt run
    taken_left name bytes (Ok u) run reply (Err Sink) sink sink_now sent = put_left name bytes (Some Sink) tt run
    taken_left name bytes (Ok u) run reply (Err ending) sink sink_now sent = absurd sent
    taken_left name bytes (Err refusal) run reply result sink sink_now replies =
        subst (λ (r : Result Unit Ending). Left name base (ending_in r)) (sym replies.0) (refused_left name bytes refusal run)

  -- what is so of the core's disk is so of the one that was handed in
  module _ (name : List ℕ) (ending : Option Ending) (left : (base : List ℕ) → v.content ≡ Some base → Left name base ending) where
    crashed : (base : List ℕ) → v.content ≡ Some base → IsLater (state old).disk (state new).disk → LeavesMeanwhile (KeepsRest (Ingest name) ending base) v w
    crashed base known later =
        leaves_more (KeepsOpen name ending base) (KeepsRest (Ingest name) ending base) v w (λ c kept. inr kept)
        (leaves_of C state v w old new called (KeepsOpen name ending base) later (left base known).images)

    pub others_kept : IsLater (state old).disk (state new).disk → KeepsOthers (Ingest name) ending v w
    others_kept later = record {
      content = λ base known. let there = (left base known).content in (there.0, called.last.only.content_is ∙ there.1, inr there.2);
      crash = λ base known. crashed base known later;
    }

-- Whatever the disk holds, `ingest` keeps what was open.
pub ingest_frame : (C : Type 0) (state : C → CoreState) (v w : DiskView) (old new : C) → Called C state v w old new → (name : List ℕ) (result : Result Unit Ending)
    (source source_now : SourceView) (sink sink_now : SinkView) (run : IngestRun C state name result (streaming old source sink) (streaming new source_now sink_now))
    → KeepsOthers (Ingest name) (ending_in result) v w
ingest_frame C state v w old new called name result source source_now sink sink_now run = elim run.way [
  | inl none ↦ others_kept C state v w old new called name (ending_in result)
      (λ base known. subst (λ (r : Result Unit Ending). Left C state v w old new called name base (ending_in r)) (sym none.result_is)
      (stopped_left C state v w old new called base known name run.given (Some none.ending)
      (source_changes C state v w old new called base known source source_now none.ending none.cause) none.ran))
      (run_later C state (events_of none.ran.steps) old new none.ran.ran)
  | inr taken ↦ others_kept C state v w old new called name (ending_in result)
      (λ base known. taken_left C state v w old new called base known name run.given taken.put taken.ran (stored_line name (root_of run.given)) result sink sink_now taken.replies)
      (run_later C state (events_of taken.ran.steps) old new taken.ran.ran)
]
