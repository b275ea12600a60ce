-- What `run` keeps, from the lines that were run.
use Rattle.backup_engine.proofs.Prelude.{◌≡◌, ◌⊎◌, inl, inr, ℕ, List, [], ◌∷◌, ◌++◌, Option, Some, None, Result, refl, sym, ◌∙◌, subst, arith, CountsFault, ending_of, Shows, CrashLeaves, DiskView, IsLater, OnlyReads, later_on, reads_here, until, KnownWith, SourceView, SinkView, ACTORS, IsOpenRefusal, Refusal, Memory, DiskWrite, Refused, ReadsTellScripts, fresh_reader, RunnerState, RunsLine, Replied, CallsRunByFiles, RunsLines, OpensNone, CoreState, Store, Encodes, blames, all_then, ReadsSince, LeavesMeanwhile, HasNoRoom, IsScriptEnd, KeepsScript, WroteReplies, EndsReopening, ScriptRun, ending_in}
use Rattle.std.proofs.Common.{replicate}
use Rattle.reply_text.specs.declared.ending.Ending.{Ending}
use Rattle.script_lines.specs.Grammar as lines
use Rattle.script_lines.specs.ReplyValue as replies
use Rattle.script_runner.specs.Acts.{RefusesReopen}
use Rattle.script_runner.specs.AnyDisk.{CountFaults, LinesGoOn}
use Rattle.script_runner.specs.LinesAreRuns.{OpenedRunsByRoots, RunsByRoots, beside_roots}
use Rattle.script_runner.specs.Shown.{WasOpened, WasShown}
use Rattle.script_runner.proofs.DeskLines.{opened_so}
use Rattle.store_machine.specs.Commands.{desk}
use Rattle.store_machine.specs.Values.{of_roots}
use Rattle.script_runner.specs.Frame.{IsOnContent, LinesKeepWritten, NeverSweeps, OpenedIsOn}
use Rattle.script_runner.specs.Frame.{KeepsOver}
use Rattle.backup_engine.specs.Frame.{KeepsAll, LinesKeepOthers}
use Rattle.backup_engine.specs.Script as script
use Rattle.backup_engine.specs.Script.{CountsLines, HasLast, IsNotReopened, IsRunRefusal}
use Rattle.backup_engine.proofs.WholeCall.{leaves_more, leaves_of}
use Rattle.backup_engine.proofs.Called.{Called}
use Rattle.backup_engine.proofs.GiveRuns.{written_none}
use Rattle.backup_engine.proofs.FailsAlone.{EndsAlone}
use Rattle.backup_engine.proofs.NotDone.{IsUnopened}
use Rattle.backup_engine.proofs.Reading.{reads_leave}
use Rattle.backup_engine.proofs.UnlikeCopies.{shown_since}
use Rattle.backup_engine.proofs.Reopened.{room_cause, room_so}
use Rattle.backup_engine.proofs.Unlent.{open_refusal, reads, shows}
use Rattle.backup_engine.specs.Seen.{streaming}

-- ---- what was shown

-- what was shown of the one disk was shown of the other
module _ (old now other other_now : DiskView) (first : (store : Store) → WasOpened old now store → WasOpened other other_now store)
    (each : (store : Store) → WasShown old now store → WasShown other other_now store) where
  pub roots_so : (rs : List Replied) → RunsByRoots rs old now → RunsByRoots rs other other_now
  roots_so rs is = record {
    opened = is.opened;
    opens = is.opens;
    named = is.named;
    shown = first is.opened.store is.shown;
    steps = is.steps;
    next = is.next;
    lines_are = is.lines_are;
    found = opened_so of_roots (λ m. beside_roots.Finds m old now) (λ m. beside_roots.Finds m other other_now) (λ m found. (found.0, each m.store found.1)) rs is.steps
        (desk is.opened) is.next is.lines_are is.found;
  }

  pub roots_or : (ending : Option Ending) (rs : List Replied) → script.IsUnopened ending rs ⊎ RunsByRoots rs old now → script.IsUnopened ending rs ⊎ RunsByRoots rs other other_now
  roots_or ending rs (inl none) = inl none
  roots_or ending rs (inr is) = inr (roots_so rs is)

-- ---- no line was run

module _ (v w : DiskView) (refusal : Refusal) (only : OnlyReads v w) (counted : CountsFault (ending_of (blames refusal)) v.faults w.faults)
    (cause : IsOpenRefusal (Shows v w) v.size refusal) where
  module _ (source : SourceView) (sink : SinkView) (laws : ReadsTellScripts) where
    caused_by : (r : Refusal) → IsOpenRefusal (Shows v w) v.size r → IsScriptEnd (IsRunRefusal [] v w source source) (Some (Refused r)) [] source source sink sink
    caused_by Memory is = tt
    caused_by r is = inl (record { none = refl; cause = is; left_is = refl })

    wrote_none : (r : Refusal) → WroteReplies (Some (Refused r)) [] sink sink
    wrote_none Memory = inl (written_none sink.written)
    wrote_none r = written_none sink.written

    pub none_kept : KeepsScript [] (Some (Refused refusal)) v w source source sink sink
    none_kept = record {
      begins = laws.so_far source.left source.left [] fresh_reader (laws.fresh source.left);
      stops = tt;
      caused = caused_by refusal cause;
      wrote = wrote_none refusal;
      frame = record {
        content = λ unswept old told. (old, only.content_is ∙ told, inl refl);
        crash = λ unswept old told. reads_leave v w only _;
      };
      by_roots = inl ((refusal, refl), refl);
      disk_faults = counted;
      source_faults = λ other. refl;
      sink_faults = λ other. refl;
    }

-- there was no memory before the store was opened
pub no_memory_kept : (v : DiskView) (source : SourceView) (sink : SinkView) → ReadsTellScripts → KeepsScript [] (Some (Refused Memory)) v v source source sink sink
no_memory_kept v source sink laws = none_kept v v Memory (reads_here v) refl tt source sink laws

-- it was not opened
pub unopened_kept : (v w : DiskView) (refusal : Refusal) → IsUnopened v w refusal → (source : SourceView) (sink : SinkView) → ReadsTellScripts →
    KeepsScript [] (Some (Refused refusal)) v w source source sink sink
unopened_kept v w refusal is source sink laws = none_kept v w refusal is.reads.only is.reads.faults_are is.cause source sink laws

-- ---- lines were run

no_last : (before : List Replied) (last : Replied) → [] ≡ before ++ last ∷ [] → ⊥
no_last [] last is = cc
no_last (one ∷ before) last is = cc

counts_lines : (ending : Option Ending) (rs : List Replied) (source source_now : SourceView) (sink sink_now : SinkView) (before now : ℕ) →
    IsScriptEnd (EndsReopening rs) ending rs source source_now sink sink_now
    → CountFaults rs before now → CountsLines ending rs before now
counts_lines (Some (Refused Memory)) [] source source_now sink sink_now before now end counts = counts
counts_lines (Some (Refused refusal)) [] source source_now sink sink_now before now end counts = absurd (no_last end.0 _ end.1.are)
counts_lines (Some (Refused refusal)) (one ∷ more) source source_now sink sink_now before now end counts = counts
counts_lines ending rs source source_now sink sink_now before now end counts = counts

ends_so : (A B : Refusal → Type 0) → ((refusal : Refusal) → A refusal → B refusal) → (ending : Option Ending) (rs : List Replied) (source source_now : SourceView)
    (sink sink_now : SinkView)
    → IsScriptEnd A ending rs source source_now sink sink_now → IsScriptEnd B ending rs source source_now sink sink_now
ends_so A B each (Some (Refused Memory)) rs source source_now sink sink_now end = end
ends_so A B each (Some (Refused refusal)) rs source source_now sink sink_now end = each refusal end
ends_so A B each ending rs source source_now sink sink_now end = end

-- ---- refusals

ended_by : (rs : List Replied) (refusal : Refusal) (source source_now : SourceView) (sink sink_now : SinkView) →
    IsScriptEnd (EndsReopening rs) (Some (Refused refusal)) rs source source_now sink sink_now
    → (refusal ≡ Memory) ⊎ EndsReopening rs refusal
ended_by rs Memory source source_now sink sink_now end = inl refl
ended_by rs refusal source source_now sink sink_now end = inr end

by_refusal : (rs : List Replied) (refusal : Refusal) (ending : Option Ending) → ending ≡ Some (Refused refusal) → (source source_now : SourceView) (sink sink_now : SinkView)
    → IsScriptEnd (EndsReopening rs) ending rs source source_now sink sink_now → (refusal ≡ Memory) ⊎ EndsReopening rs refusal
by_refusal rs refusal ending is source source_now sink sink_now end =
    ended_by rs refusal source source_now sink sink_now (subst (λ (e : Option Ending). IsScriptEnd (EndsReopening rs) e rs source source_now sink sink_now) is end)

-- so a refusal ends it only where there was no memory, or as a `reopen` was refused
pub ends_alone : (rs : List Replied) (ending : Option Ending) (source source_now : SourceView) (sink sink_now : SinkView) →
    IsScriptEnd (EndsReopening rs) ending rs source source_now sink sink_now → EndsAlone ending rs
ends_alone rs ending source source_now sink sink_now end refusal is = elim (by_refusal rs refusal ending is source source_now sink sink_now end) [
  | inl memory ↦ inl memory
  | inr last ↦ inr (last.0, last.1.are)
]

runs_split : (C : Type 0) (state : C → CoreState) (before : List Replied) (last : Replied) (r s : RunnerState C) → RunsLines C state (before ++ last ∷ []) r s
    → (mid : RunnerState C) × (RunsLines C state before r mid × RunsLine C state last.line last.reply mid s)
runs_split C state [] last r s runs =
    (r, (refl, subst (λ (x : RunnerState C). RunsLine C state last.line last.reply r x) (sym runs.1.1.1) runs.1.1.0))
runs_split C state (one ∷ before) last r s runs =
    let rest = runs_split C state before last runs.1.0 s runs.1.1.1 in
    let first : RunsLines C state (one ∷ before) r rest.0 = (λ last. no_more before (runs.0 last), (runs.1.0, (runs.1.1.0, rest.1.0))) in
    (rest.0, (first, rest.1.1))
  where
    no_more : (others : List Replied) → others ++ last ∷ [] ≡ [] → others ≡ []
    no_more others is = absurd (no_last others last (sym is))

module _ (D : Type 0) (view : D → DiskView) (C : Type 0) (state : C → CoreState) (before : D) (w : DiskView) (r s : RunnerState C)
    (called : Called C state (view before) w r.core s.core)
    (go_on : LinesGoOn C state) (by_roots : OpenedRunsByRoots D view C state) (is_on : OpenedIsOn D view C state) (keep : LinesKeepWritten C state)
    (fresh : r.sessions ≡ replicate ACTORS None)
    (result : Result Unit Ending) (source source_now : SourceView) (sink sink_now : SinkView)
    (run : ScriptRun C state result (streaming r source sink) (streaming s source_now sink_now)) where
  abbrev v : DiskView
  v = view before

  abbrev found : DiskView
  found = (state r.core).disk

  abbrev last : DiskView
  last = (state s.core).disk

  abbrev later : IsLater found last
  later = (go_on run.rs r s run.runs).later

  run_later : IsLater v w
  run_later = later_on v found w called.first.only.later (later_on found last w later called.last.only.later)

  -- what the store was opened with is shown in the call
  wider : (store : Store) → WasShown v last store → WasShown v w store
  wider store shown = record {
    parts = shown.parts;
    returned = all_then (λ part. last.read_returned v.clock part.at part.bytes) (λ part. w.read_returned v.clock part.at part.bytes) shown.parts
        (λ part was. called.last.only.later.returned v.clock part.at part.bytes (omega (arith, called.first.only.later.clock_is, later.clock_is)) was) shown.returned;
    shows = shown.shows;
  }

  wider_first : (store : Store) → WasOpened v last store → WasOpened v w store
  wider_first store shown = until v last w shown (omega (arith, called.first.only.later.clock_is, later.clock_is)) called.last.only.later

  counted : CountFaults run.rs v.faults w.faults
  counted = subst (λ (n : ℕ). CountFaults run.rs v.faults n) (sym called.last.faults_are)
      (subst (λ (n : ℕ). CountFaults run.rs n last.faults) called.first.faults_are (go_on run.rs r s run.runs).counted)

  -- ---- what was written stays

  module _ (unswept : NeverSweeps run.rs) (base : List ℕ) (told : v.content ≡ Some base) where
    stands : IsOnContent base (state r.core)
    stands = is_on base before r.core called.opened called.durable called.first told

    kept_all : (image : List ℕ) → KeepsOver run.rs stands.store base image → KeepsAll run.rs base image
    kept_all image written = inr (record { store = stands.store; right = stands.encodes; reserve = stands.reserve; written = written })

    abbrev kept_lines : KnownWith last.content (KeepsOver run.rs stands.store base) × CrashLeaves (KeepsOver run.rs stands.store base) found last
    kept_lines = keep run.rs stands.store base r s unswept stands.on stands.told stands.encodes stands.reserve run.runs

    crashed : LeavesMeanwhile (KeepsAll run.rs base) v w
    crashed = leaves_more (KeepsOver run.rs stands.store base) (KeepsAll run.rs base) v w kept_all
        (leaves_of C state v w r.core s.core called (KeepsOver run.rs stands.store base) later kept_lines.1)

  others : LinesKeepOthers run.rs v w
  others = record {
    content = λ unswept base told. let there = (kept_lines unswept base told).0 in (there.0, called.last.only.content_is ∙ there.1, kept_all unswept base told there.0 there.2);
    crash = crashed;
  }

  -- ---- a `reopen` that was refused

  abbrev Unopened : Refusal → Type 0
  Unopened refusal = IsOpenRefusal (ReadsSince v w) v.size refusal ⊎ HasNoRoom (ReadsSince v w) v.size refusal

  -- from a disk that was so then, and still is what reads give
  module _ (here : DiskView) (way : IsLater found here) (still : last.content ≡ here.content) where
    shown_in_call : (P : List ℕ → Type 0) → Shows here last P → ReadsSince v w P
    shown_in_call P shown =
        let since = shown_since v here last (later_on v found here called.first.only.later way) still P shown in
        record {
          parts = since.parts;
          returned = all_then (λ part. last.read_returned v.clock part.at part.bytes) (λ part. w.read_returned v.clock part.at part.bytes) since.parts
              (λ part was. called.last.only.later.returned v.clock part.at part.bytes (omega (arith, called.first.only.later.clock_is, later.clock_is)) was) since.returned;
          known = λ image is. since.known image (sym called.last.only.content_is ∙ is);
          shows = since.shows;
        }

    size_here : here.size ≡ v.size
    size_here = way.size_is ∙ called.first.only.later.size_is

    opening_cause : (refusal : Refusal) → IsOpenRefusal (Shows here last) here.size refusal → IsOpenRefusal (ReadsSince v w) v.size refusal
    opening_cause refusal is =
        subst (λ (n : ℕ). IsOpenRefusal (ReadsSince v w) n refusal) size_here (open_refusal (Shows here last) (ReadsSince v w) shown_in_call here.size refusal is)

    either_cause : (refusal : Refusal) → IsOpenRefusal (Shows here last) here.size refusal ⊎ HasNoRoom (Shows here last) here.size refusal → Unopened refusal
    either_cause refusal (inl is) = inl (opening_cause refusal is)
    either_cause refusal (inr is) = inr (subst (λ (n : ℕ). HasNoRoom (ReadsSince v w) n refusal) size_here
        (room_so (Shows here last) (ReadsSince v w) here.size shown_in_call refusal is))

  free_write : (refusal : Refusal) → refusal ≡ DiskWrite → Unopened refusal
  free_write refusal is = inl (subst (λ (x : Refusal). IsOpenRefusal (ReadsSince v w) v.size x) (sym is) tt)

  none_cause : (refusal : Refusal) (here : DiskView) → IsLater found here → OpensNone C (λ c. (state c).disk) refusal here last → Unopened refusal
  none_cause refusal here way (inl (unread, not)) = inl (opening_cause here way unread.reads.only.content_is refusal unread.cause)
  none_cause refusal here way (inr (inl (x, (room, unread)))) =
      inl (opening_cause (state x).disk (later_on found here (state x).disk way room.later) unread.reads.only.content_is refusal unread.cause)
  none_cause refusal here way (inr (inr unmade)) = elim unmade.only [
    | inl write ↦ free_write refusal write
    | inr only ↦ either_cause here way only.content_is refusal (room_cause here last unmade.short refusal unmade.cause)
  ]

  cause_in_call : (mid : RunnerState C) → IsLater found (state mid.core).disk → (refusal : Refusal) → RefusesReopen C state refusal mid.core s.core → Unopened refusal
  cause_in_call mid way refusal refused = elim refused.why [
    | inl memory ↦ inl (subst (λ (x : Refusal). IsOpenRefusal (ReadsSince v w) v.size x) (sym memory.0) tt)
    | inr why ↦ none_cause refusal (state mid.core).disk way why.0
  ]

  reopening : (refusal : Refusal) → EndsReopening run.rs refusal → IsRunRefusal run.rs v w source source_now refusal
  reopening refusal ends =
      let split = runs_split C state ends.0 (record { line = lines.Reopen; reply = replies.Refused refusal }) r s
      (subst (λ (l : List Replied). RunsLines C state l r s) ends.1.are run.runs) in
      inr (record {
        before = ends.0;
        has_last = ends.1;
        cause = cause_in_call split.0 (go_on ends.0 r split.0 split.1.0).later refusal split.1.1.0;
      })

  -- what is kept, and that the disk is the same one, later
  pub run_kept : IsLater v w × KeepsScript run.rs (ending_in result) v w source source_now sink sink_now
  run_kept = (
    run_later,
    record {
      begins = run.begins;
      stops = run.stops;
      caused = ends_so (EndsReopening run.rs) (IsRunRefusal run.rs v w source source_now) reopening (ending_in result) run.rs source source_now sink sink_now run.caused;
      wrote = run.wrote;
      frame = others;
      by_roots = inr (roots_so v last v w wider_first wider run.rs
          (by_roots run.rs before r s (record { opened = called.opened; durable = called.durable; reads = called.first }) fresh run.actors run.runs));
      disk_faults = counts_lines (ending_in result) run.rs source source_now sink sink_now v.faults w.faults run.caused counted;
      source_faults = run.source_faults;
      sink_faults = run.sink_faults;
    },
  )

-- ---- a disk that was lent

module _ (loans loans_now : List ℕ) (v w : DiskView) where
  abbrev lent : DiskView
  lent = record v { loans = loans }

  abbrev lent_now : DiskView
  lent_now = record w { loans = loans_now }

  cause_unlent : (refusal : Refusal) → IsOpenRefusal (ReadsSince lent lent_now) v.size refusal ⊎ HasNoRoom (ReadsSince lent lent_now) v.size refusal →
      IsOpenRefusal (ReadsSince v w) v.size refusal ⊎ HasNoRoom (ReadsSince v w) v.size refusal
  cause_unlent refusal (inl is) = inl (open_refusal (ReadsSince lent lent_now) (ReadsSince v w) (reads loans loans_now v w) v.size refusal is)
  cause_unlent refusal (inr is) = inr (room_so (ReadsSince lent lent_now) (ReadsSince v w) v.size (reads loans loans_now v w) refusal is)

  not_opened : (refusal : Refusal) (rs : List Replied) (source source_now : SourceView) → IsRunRefusal rs lent lent_now source source_now refusal →
      IsRunRefusal rs v w source source_now refusal
  not_opened refusal rs source source_now (inl is) =
      inl (record { none = is.none; cause = open_refusal (Shows lent lent_now) (Shows v w) (shows loans loans_now v w) v.size refusal is.cause; left_is = is.left_is })
  not_opened refusal rs source source_now (inr is) =
      inr (record { before = is.before; has_last = is.has_last; cause = cause_unlent refusal is.cause })

  shown_unlent : (store : Store) → WasShown lent lent_now store → WasShown v w store
  shown_unlent store is = record { parts = is.parts; returned = is.returned; shows = is.shows }

  pub script_back : (rs : List Replied) (ending : Option Ending) (source source_now : SourceView) (sink sink_now : SinkView) →
      KeepsScript rs ending lent lent_now source source_now sink sink_now
      → KeepsScript rs ending v w source source_now sink sink_now
  script_back rs ending source source_now sink sink_now is = record {
    begins = is.begins;
    stops = is.stops;
    caused = ends_so (IsRunRefusal rs lent lent_now source source_now) (IsRunRefusal rs v w source source_now) (λ refusal. not_opened refusal rs source source_now) ending rs
        source source_now sink sink_now is.caused;
    wrote = is.wrote;
    frame = record { content = is.frame.content; crash = λ unswept old told. let leaves = is.frame.crash unswept old told in record { now = leaves.now; since = leaves.since } };
    by_roots = roots_or lent lent_now v w (λ store. shows loans loans_now v w (λ image. Encodes image store)) shown_unlent ending rs is.by_roots;
    disk_faults = is.disk_faults;
    source_faults = is.source_faults;
    sink_faults = is.sink_faults;
  }

-- the runner has the core that was opened, and the core that is closed was the runner's
pub called_by : (C : Type 0) (state : C → CoreState) (v w : DiskView) (old new first last : C) → Called C state v w old new → first ≡ old → new ≡ last →
    Called C state v w first last
called_by C state v w old new first last called begins ends =
    subst (λ (c : C). Called C state v w c last) (sym begins) (subst (λ (c : C). Called C state v w old c) ends called)

-- (by `opens` a caller tells C and its state)
pub later_by : (D : Type 0) (view : D → DiskView) (C : Type 0) (state : C → CoreState) → CallsRunByFiles D view C state → (old new first last : C) → first ≡ old → new ≡ last
    → IsLater (state first).disk (state last).disk → IsLater (state old).disk (state new).disk
later_by D view C state opens old new first last begins ends later =
    subst (λ (c : C). IsLater (state c).disk (state new).disk) begins (subst (λ (c : C). IsLater (state first).disk (state c).disk) (sym ends) later)
