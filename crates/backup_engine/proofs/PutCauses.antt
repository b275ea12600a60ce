-- What the top call promises of `ingest` over any disk: each ending has its cause.
use Rattle.backup_engine.proofs.Prelude.{◌≡◌, ◌⊎◌, inl, inr, ℕ, ◌<◌, ◌≤◌, List, [], ◌∷◌, length, Option, Some, Result, Ok, Err, refl, sym, ◌∙◌, ap, subst, AllByRecursion, Known, MOST_FILE, DiskView, IsLater, CountsFault, ending, ending_of, counts_on, later_here, later_on, durable_reads, until, SourceView, SinkView, Answer, StepValue, Refusal, Memory, DiskRead, DiskWrite, TooLong, Sink, Refused, stored_line, Store, Root, Put, StoreChange, CanChangeName, with_change, root_of, blames, ChangesTo, CoreRun, FileEvent, events_of, CoreState, Event, step_later, AddsOnce, Holds, HasAdded, IsStored, IsCaused, IsUnlikeNode, OnAnyDisk, ReadsSince, room_in, Ingest, HasNoRoomForName, RefusesIngest, HoldsPieces, PutRun, IsPutRefusal, IsOk, IsLastPut, seals_of, Sent, IsReadOut, Replies, IsSourceFault, IngestRun, ending_in}
use Rattle.std.proofs.Common.{OnOk, IfErr}
use Rattle.dd_disk.specs.Ending.{Done}
use Rattle.reply_text.specs.declared.ending.Ending.{Ending}
use Rattle.reply_text.specs.declared.ending.Ending.TheVariants.{Source}
use Rattle.store_model.specs.Image.{names_of}
use Rattle.session_turns.proofs.StepFaults.{step_went}
use Rattle.backup_engine.specs.Storing.{IsStopped, IsTaken}
use Rattle.backup_engine.proofs.Called.{Called}
use Rattle.backup_engine.proofs.PutChanges.{IsOn, Puts, EndsBy, IsWayStep, AreUnless, last_is, ways_of, put_changes}
use Rattle.backup_engine.proofs.PutNames.{names_with, opened_on}
use Rattle.backup_engine.proofs.UnlikeNodes.{reads_wider, unlike_so}
use Rattle.backup_engine.proofs.WayCommits.{has_room}
use Rattle.backup_engine.specs.Seen.{devices, streaming}

-- ---- counts of faults

done_faults : (answer : Result Answer Refusal) (before now : ℕ) → IsOk answer → CountsFault (ending blames answer) before now → now ≡ before
done_faults (Err refusal) before now ok counts = absurd ok
done_faults (Ok answer) before now ok counts = counts

last_ok : (step : StepValue) (answer : Result Answer Refusal) → IsLastPut step answer → IsOk answer
last_ok = last_is (λ step answer. IsOk answer) (λ name root answer last. last)

module _ (C : Type 0) (state : C → CoreState) where
  abbrev faults : C → ℕ
  faults c = (state c).disk.faults

  -- the same disk, later
  pub run_later : (events : List Event) (old new : C) → CoreRun C state events old new → IsLater (state old).disk (state new).disk
  run_later [] old new run = subst (λ (c : C). IsLater (state old).disk (state c).disk) (sym run) (later_here (state old).disk)
  run_later (e ∷ es) old new run =
      later_on (state old).disk (state run.0).disk (state new).disk (step_later (state old) (state run.0) e (state old).stop run.1.0) (run_later es run.0 new run.1.1)

  way_faults : (name bytes : List ℕ) (way : List FileEvent) (old new : C) → CoreRun C state (events_of way) old new → AllByRecursion (IsWayStep name bytes) way →
      faults new ≡ faults old
  way_faults name bytes [] old new run each = ap faults run
  way_faults name bytes (f ∷ fs) old new run each =
      way_faults name bytes fs run.0 new run.1.1 each.1
      ∙ done_faults f.event.answer (faults old) (faults run.0) each.0.1.1 (step_went (state old) (state run.0) f.event run.1.0).faults

  last_faults : (name bytes : List ℕ) (result : Result Unit Refusal) (mid new : C) → EndsBy C state name bytes result mid new →
      CountsFault (ending blames result) (faults mid) (faults new)
  last_faults name bytes (Ok u) mid new last =
      let e = last.f.event in
      done_faults e.answer (faults mid) (faults new) (last_ok e.step e.answer last.last) (step_went (state mid) (state new) e last.made).faults
  last_faults name bytes (Err refusal) mid new (inl none) =
      subst (λ (r : Refusal). CountsFault (ending_of (blames r)) (faults mid) (faults new)) (sym none.1) (ap faults none.0)
  last_faults name bytes (Err refusal) mid new (inr last) =
      subst (λ (answer : Result Answer Refusal). CountsFault (ending blames answer) (faults mid) (faults new)) last.answer_is
      (step_went (state mid) (state new) last.f.event last.made).faults

  pub put_faults : (name bytes : List ℕ) (result : Result Unit Refusal) (old new : C) → PutRun C state name bytes result old new →
      CountsFault (ending blames result) (faults old) (faults new)
  put_faults name bytes result old new run =
      let ways = ways_of C state name bytes result old new run in
      counts_on (ending blames result) (faults old) (faults ways.mid) (faults new) (way_faults name bytes ways.way old ways.mid ways.ran ways.each)
      (last_faults name bytes result ways.mid new ways.last)

-- ---- the call

module _ (C : Type 0) (state : C → CoreState) (v w : DiskView) (old new : C) (called : Called C state v w old new) where
  abbrev store : Store
  store = called.opened.store

  abbrev on : IsOn store (state old)
  on = opened_on C state v w old new called

  abbrev pub holds : IsLater (state old).disk (state new).disk → Holds v w
  holds later = record {
    store = store;
    right = until v (state old).disk w called.opened.right called.first.only.later.clock_is (later_on (state old).disk (state new).disk w later called.last.only.later);
    reserve = called.opened.reserve;
  }

  abbrev has_added : (given : List ℕ) → IsLater (state old).disk (state new).disk → (changes : List StoreChange) (after : Store) → ChangesTo changes store after →
      AddsOnce given changes store
      → HasAdded given v w
  has_added given later changes after chain adds = record { holds = holds later; changes = changes; after = after; chain = chain; adds = adds }

  all_faults : (e : _) → CountsFault e (state old).disk.faults (state new).disk.faults → CountsFault e v.faults w.faults
  all_faults e counts =
      subst (λ (n : ℕ). CountsFault e v.faults n) (sym called.last.faults_are) (counts_on e v.faults (state old).disk.faults (state new).disk.faults called.first.faults_are counts)

  module _ (name given : List ℕ) (source source_now : SourceView) (sink sink_now : SinkView) where
    abbrev Any : Option Ending → Type 0
    Any ending = OnAnyDisk (Ingest name) given ending (devices v w source source_now sink sink_now)

    -- what reads of the core returned reads of the call did
    abbrev Since : (List ℕ → Type 0) → Type 0
    Since P = ReadsSince (state old).disk (state new).disk P

    wider : IsLater (state old).disk (state new).disk → (P : List ℕ → Type 0) → Since P → ReadsSince v w P
    wider later P since = reads_wider v (state old).disk (state new).disk w called.first.only.later later called.last.only.later called.last.only.content_is P since

    in_call : IsLater (state old).disk (state new).disk → (refusal : Refusal) (after : Store) → RefusesIngest name given (room_in (Ingest name) after) refusal
        ⊎ IsUnlikeNode given after Since refusal
        → RefusesIngest name given (room_in (Ingest name) after) refusal ⊎ IsUnlikeNode given after (ReadsSince v w) refusal
    in_call later refusal after (inl refuses) = inl refuses
    in_call later refusal after (inr unlike) = inr (unlike_so Since (ReadsSince v w) (wider later) given after refusal unlike)

    cause_of : (refusal : Refusal) (added : HasAdded given v w) → AreUnless refusal added.after (state new) → IsLater (state old).disk (state new).disk →
        IsPutRefusal name given (state old).disk (state new) refusal
        → IsCaused (Ingest name) given (devices v w source source_now sink sink_now) (Some (Refused refusal))
    cause_of Memory added are later refuses = tt
    cause_of DiskRead added are later refuses = tt
    cause_of DiskWrite added are later refuses = tt
    cause_of refusal added are later refuses = inr (added, in_call later refusal added.after (refuses.store_has added.after are.represents are.valid are.has_free are.whole))

    -- a name that can be put has room
    has_place : (after : Store) (root : Root) → CanChangeName name (Put root) after → HasNoRoomForName (room_in (Ingest name) after) → ⊥
    has_place after root can full = has_room (names_of after) name can.place full.0 full.1

    module _ (took : Known source.left (λ all. given ≡ all)) where
      refused_took : Known source.left (λ all. (given ≡ all) × Unit {0})
      refused_took all told = (took all told, tt)

      abbrev Heard : Option Ending → Type 0
      Heard ending = ¬ (ending ≡ Some Source) → source_now.faults ≡ source.faults

      module _ (result : Result Unit Refusal) (run : PutRun C state name given result old new) where
        abbrev puts : Puts name run.steps result store (state new)
        puts = put_changes C state name given store result old new on run

        abbrev later : IsLater (state old).disk (state new).disk
        later = run_later C state (events_of run.steps) old new run.ran

        abbrev added : HasAdded given v w
        added = has_added given later (seals_of run.steps) puts.after puts.chain (run.adds.store_has store called.opened.represents (on).valid (on).has_free called.opened.whole)

      stored : (run : PutRun C state name given (Ok tt) old new) → length given ≤ MOST_FILE → HoldsPieces name given (state new) → IsStored name given v w
      stored run few held =
          let ends = (puts (Ok tt) run).ends in
          record {
            added = added (Ok tt) run;
            all = record {
              few = few;
              pieces = held.store_has (with_change name (Put ends.root) (puts (Ok tt) run).after) ends.are.represents ends.are.valid ends.are.has_free;
              named = ends.can.named;
              place = has_place (puts (Ok tt) run).after ends.root ends.can;
            };
            numbers = record { sequence = ends.can.number; generation = ends.can.rise };
            names = λ base known. names_with C state v w old new called base known name given run;
          }

      -- the file was put in
      was_put : PutRun C state name given (Ok tt) old new → length given ≤ MOST_FILE → HoldsPieces name given (state new) → (result : Result Unit Ending)
          → Sent (stored_line name (root_of given)) result sink sink_now → IsReadOut result source.left source_now.left → Heard (ending_in result) → Any (ending_in result)
      was_put run few held (Ok u) sent out heard = record {
        took = λ all told. (took all told, out all told);
        caused = stored run few held;
        wrote = sent.0;
        faults_are = all_faults Done (put_faults C state name given (Ok tt) old new run);
        durable = durable_reads (state new).disk w (puts (Ok tt) run).ends.durable called.last.only;
        source_faults = heard;
        sink_faults = λ other. sent.1;
      }
      was_put run few held (Err Sink) sent out heard = record {
        took = λ all told. (took all told, out all told);
        caused = (stored run few held, sent.1);
        wrote = sent.0;
        faults_are = all_faults Done (put_faults C state name given (Ok tt) old new run);
        durable = durable_reads (state new).disk w (puts (Ok tt) run).ends.durable called.last.only;
        source_faults = heard;
        sink_faults = λ other. absurd (other refl);
      }
      was_put run few held (Err ending) sent out heard = absurd sent

      -- it was refused
      was_refused : (refusal : Refusal) → PutRun C state name given (Err refusal) old new → IsPutRefusal name given (state old).disk (state new) refusal → sink_now ≡ sink →
          Heard (Some (Refused refusal))
          → Any (Some (Refused refusal))
      was_refused refusal run refuses same heard = record {
        took = refused_took;
        caused = cause_of refusal (added (Err refusal) run) (puts (Err refusal) run).ends (later (Err refusal) run) refuses;
        wrote = ap (λ (k : SinkView). k.written) same;
        faults_are = all_faults (ending_of (blames refusal)) (put_faults C state name given (Err refusal) old new run);
        durable = tt;
        source_faults = heard;
        sink_faults = λ other. ap (λ (k : SinkView). k.faults) same;
      }

      by_put : (put : Result Unit Refusal) → PutRun C state name given put old new → OnOk put (length given ≤ MOST_FILE) → OnOk put (HoldsPieces name given (state new))
          → IfErr put (IsPutRefusal name given (state old).disk (state new)) → (result : Result Unit Ending) →
          Replies (stored_line name (root_of given)) put result sink sink_now → IsReadOut result source.left source_now.left → Heard (ending_in result)
          → Any (ending_in result)
      by_put (Ok u) run few held refused result replies out heard = was_put run few held result replies out heard
      by_put (Err refusal) run few held refused result replies out heard =
          subst (λ (r : Result Unit Ending). Any (ending_in r)) (sym replies.0)
          (was_refused refusal run refused replies.1 (subst (λ (r : Result Unit Ending). Heard (ending_in r)) replies.0 heard))

      pub taken_any : (result : Result Unit Ending) → IsTaken C state name given result (streaming old source sink) (streaming new source_now sink_now)
          → IsReadOut result source.left source_now.left →
          Heard (ending_in result)
          → Any (ending_in result)
      taken_any result taken out heard = by_put taken.put taken.ran taken.few taken.held taken.refused result taken.replies out heard

      module _ (run : PutRun C state name given (Err Memory) old new) (same : sink_now ≡ sink) where
        stopped_faults : w.faults ≡ v.faults
        stopped_faults = all_faults Done (put_faults C state name given (Err Memory) old new run)

        sink_still : sink_now.faults ≡ sink.faults
        sink_still = ap (λ (k : SinkView). k.faults) same

        -- the source ended before all of it was taken
        stopped : (ending : Ending) → IsSourceFault source source_now ending → (ending ≡ Refused TooLong → MOST_FILE < length given) → Heard (Some ending) → Any (Some ending)
        stopped Source cause long heard = record {
          took = refused_took;
          caused = ((name, refl), added (Err Memory) run, cause);
          wrote = ap (λ (k : SinkView). k.written) same;
          faults_are = stopped_faults;
          durable = tt;
          source_faults = heard;
          sink_faults = λ other. sink_still;
        }
        stopped (Refused Memory) cause long heard = record {
          took = refused_took;
          caused = tt;
          wrote = ap (λ (k : SinkView). k.written) same;
          faults_are = stopped_faults;
          durable = tt;
          source_faults = heard;
          sink_faults = λ other. sink_still;
        }
        stopped (Refused TooLong) cause long heard = record {
          took = refused_took;
          caused = inr (added (Err Memory) run, inl (long refl));
          wrote = ap (λ (k : SinkView). k.written) same;
          faults_are = stopped_faults;
          durable = tt;
          source_faults = heard;
          sink_faults = λ other. sink_still;
        }
        stopped ending cause long heard = absurd cause

      pub stopped_any : (result : Result Unit Ending) → IsStopped C state name given result (streaming old source sink) (streaming new source_now sink_now)
          → Heard (ending_in result) →
          Any (ending_in result)
      stopped_any result is heard =
          subst (λ (r : Result Unit Ending). Any (ending_in r)) (sym is.result_is)
          (stopped is.ran is.sink_is is.ending is.cause is.long (subst (λ (r : Result Unit Ending). Heard (ending_in r)) is.result_is heard))

-- Over any disk each ending of a run of `ingest` has its cause, where no fault of the source is passed over.
pub ingest_any : (C : Type 0) (state : C → CoreState) (v w : DiskView) (old new : C) → Called C state v w old new → (name : List ℕ) (result : Result Unit Ending)
    (source source_now : SourceView) (sink sink_now : SinkView) (run : IngestRun C state name result (streaming old source sink) (streaming new source_now sink_now))
    → (¬ (ending_in result ≡ Some Source) → source_now.faults ≡ source.faults)
    → OnAnyDisk (Ingest name) run.given (ending_in result) (devices v w source source_now sink sink_now)
ingest_any C state v w old new called name result source source_now sink sink_now run heard = elim run.way [
  | inl none ↦ stopped_any C state v w old new called name run.given source source_now sink sink_now run.took result none heard
  | inr taken ↦ taken_any C state v w old new called name run.given source source_now sink sink_now run.took result taken run.to_end heard
]
