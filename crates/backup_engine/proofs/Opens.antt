-- A command that opens a core and closes it then: what the top call says of it, by what it does from the disk on that was read.
use Rattle.backup_engine.proofs.Prelude.{◌≡◌, inl, inr, List, [], ℕ, Option, Some, None, refl, sym, subst, MutBor, Reads, reads_refused, DiskView, IsLater, later_on, SinkView, SourceView, Replied, Refusal, Memory, Refused, RunnerState, AreOfActors, RunsLines, ACTORS, IsNotRead, IsReadFrom, OpensCore, OpensNone, CoreState, IsRunning, Holds, Took, CommandLine, CallsRunByFiles, RunsSingle, IsFresh, KeepsScript, SpeaksAs, FailsAlone, RunsEachByFiles, DoesCommand, Keeps, RunsScript}
use Rattle.std.proofs.Common.{replicate}
use Rattle.dd_disk.specs.Ending.{Done}
use Rattle.reply_text.specs.declared.ending.Ending.{Ending}
use Rattle.backup_engine.specs.Saying.{idle}
use Rattle.backup_engine.proofs.ByFiles.{by_files_back, calls_by_files, memory_by_files}
use Rattle.backup_engine.proofs.Called.{Called}
use Rattle.backup_engine.proofs.Commanded.{does_here, does_made, does_unmade, does_unread, full_not}
use Rattle.backup_engine.proofs.Fresh.{fresh}
use Rattle.backup_engine.proofs.Kept.{later_back}
use Rattle.backup_engine.proofs.Lending.{below, lent_end, lent_view, made_there}
use Rattle.backup_engine.proofs.NotDone.{holds}
use Rattle.backup_engine.proofs.Unlent.{holds as holds_back}
use Rattle.backup_engine.proofs.FailsAlone.{fails_memory}
use Rattle.backup_engine.specs.Seen.{devices}

-- a core that was opened is fresh
pub opened_fresh : (D : Type 0) (view : D → DiskView) (v : DiskView) (c : CoreState) → OpensCore D view v c → IsRunning c → IsFresh c
opened_fresh D view v c (inl is) running = fresh v c is.opened is.reads.only.later.size_is running
opened_fresh D view v c (inr is) running = fresh (view is.0) c is.1.1.opened is.1.1.reads.only.later.size_is running

-- ---- no core was opened

-- what a command keeps, and says, of a disk whose store was not read
pub record Unread (command : CommandLine) (given : List ℕ) (refusal : Refusal) (v w : DiskView) (source : SourceView) (sink : SinkView) : Type 0 where
  pub keeps : Keeps command given (Some (Refused refusal)) (devices v w source source sink sink)
  pub speaks : SpeaksAs command given (Some (Refused refusal)) [] (devices v w source source sink sink)

module _ (D : Type 0) (view : D → DiskView) (refusal : Refusal) (v w : DiskView) (source : SourceView) (sink : SinkView) where
  pub does_none : (command : CommandLine) (given : List ℕ) → Took command given (Some (Refused refusal)) source source
      → ((before : DiskView) → IsNotRead refusal before w → Unread command given refusal before w source sink)
      → RunsEachByFiles (Some (Refused refusal)) [] v w → FailsAlone (Some (Refused refusal)) [] v → OpensNone D view refusal v w →
      DoesCommand D view command given [] (Some (Refused refusal)) (devices v w source source sink sink)
  does_none command given took unread by_files alone (inl is) =
      let un = unread v is.0 in does_unread D view command given v w source sink refusal is.0 is.1 un.keeps un.speaks by_files (λ none. alone)
  does_none command given took unread by_files alone (inr (inl is)) =
      let un = unread (view is.0) is.1.1 in does_made D view command given v w source source sink sink [] (Some (Refused refusal)) is.0 is.1.0 un.keeps un.speaks by_files
      (λ none. alone) is.1.1.reads.only.later
  does_none command given took unread by_files alone (inr (inr is)) = does_unmade D view command given v w source sink refusal is took by_files (λ none. alone)

  pub runs_none : ((before : DiskView) → IsNotRead refusal before w → KeepsScript [] (Some (Refused refusal)) before w source source sink sink)
      → RunsEachByFiles (Some (Refused refusal)) [] v w → FailsAlone (Some (Refused refusal)) [] v → OpensNone D view refusal v w
      → RunsScript D view [] (Some (Refused refusal)) (devices v w source source sink sink)
  runs_none unread by_files alone (inl is) = record {
    by_files = by_files;
    fails_alone = alone;
    way = inl (inl (unread v is.0, λ free same. absurd (full_not refusal free same is.1)));
  }
  runs_none unread by_files alone (inr (inl is)) = record {
    by_files = by_files;
    fails_alone = alone;
    way = inl (inr (is.0, (is.1.0, is.1.1.reads.only.later, unread (view is.0) is.1.1)));
  }
  runs_none unread by_files alone (inr (inr is)) = record {
    by_files = by_files;
    fails_alone = alone;
    way = inr (record { refusal = refusal; ending_is = refl; unmade = is; none = refl; source_is = refl; sink_is = refl });
  }

-- there was no memory, before the disk was called
pub unbegun : (v : DiskView) → IsNotRead Memory v v
unbegun v = record {
  cause = tt;
  given_up = record { parts = []; returned = tt; known = λ image told. tt; shows = λ image sized has store right. refl };
  reads = reads_refused v;
}

pub does_without_memory : (D : Type 0) (view : D → DiskView) (v : DiskView) (source : SourceView) (sink : SinkView) (command : CommandLine) (given : List ℕ)
    → Keeps command given (Some (Refused Memory)) (devices v v source source sink sink) → SpeaksAs command given (Some (Refused Memory)) [] (devices v v source source sink sink)
    → DoesCommand D view command given [] (Some (Refused Memory)) (devices v v source source sink sink)
does_without_memory D view v source sink command given keeps speaks = does_unread D view command given v v source sink Memory (unbegun v) tt keeps speaks (memory_by_files v)
    (λ none. fails_memory v)

pub runs_without_memory : (D : Type 0) (view : D → DiskView) (v : DiskView) (source : SourceView) (sink : SinkView) →
    KeepsScript [] (Some (Refused Memory)) v v source source sink sink
    → RunsScript D view [] (Some (Refused Memory)) (devices v v source source sink sink)
runs_without_memory D view v source sink keeps = record {
  by_files = memory_by_files v;
  fails_alone = fails_memory v;
  way = inl (inl (keeps, λ free same. absurd (full_not Memory free same tt)));
}

-- ---- one was

module _ (D : Type 0) (view : D → DiskView) (C : Type 0) (state : C → CoreState) (first : MutBor D) (n : ℕ) (w : DiskView) (old new : C) where
  abbrev lent : MutBor D → DiskView
  lent = lent_view D view

  abbrev end : DiskView
  end = lent_end D view first n w

  -- (by `opens` a caller tells C and its state)
  module _ (opens : CallsRunByFiles (MutBor D) lent C state) (running : IsRunning (state old)) (last : Reads Done (state new).disk end) (clock : end.clock ≡ (state new).disk.clock)
      (between : IsLater (state old).disk (state new).disk) where
    abbrev called : (before : MutBor D) → IsReadFrom (lent before) (state old) → Called C state (lent before) end old new
    called before read = record { opened = read.opened; running = running; durable = read.durable; first = read.reads; last = last; clock = clock }

    to_end : IsLater (state old).disk end
    to_end = later_on (state old).disk (state new).disk end between last.only.later

    read_later : (before : MutBor D) → IsReadFrom (lent before) (state old) → IsLater (lent before) end
    read_later before read = later_on (lent before) (state old).disk end read.reads.only.later to_end

    pub opened_later : OpensCore (MutBor D) lent (lent first) (state old) → IsLater (lent first) end
    opened_later (inl read) = read_later first read
    opened_later (inr is) = later_on (lent first) (lent is.0) end is.1.0.later (read_later is.0 is.1.1)

    -- the same of what was lent
    pub made_later : (before : MutBor D) → IsReadFrom (lent before) (state old) → IsLater (view before.now) w
    made_later before read =
        let later = read_later before read in
        later_back _ _ (view before.now) w (below D view before n w later) later

    pub read_holds : (before : MutBor D) → IsReadFrom (lent before) (state old) → Holds (view before.now) w
    read_holds before read = holds_back _ _ (view before.now) w (holds C state (lent before) end old new (called before read) to_end)

    -- its lines, over all of the call
    pub runs_back : OpensCore (MutBor D) lent (lent first) (state old) → (ending : Option Ending) (rs : List Replied) (r s : RunnerState C) → r.core ≡ old →
        r.sessions ≡ replicate ACTORS None → new ≡ s.core
        → AreOfActors rs → RunsLines C state rs r s → RunsEachByFiles ending rs (view first.now) w
    runs_back opened ending rs r s begins fresh ends actors runs =
        by_files_back _ _ (view first.now) w ending rs
        (calls_by_files (MutBor D) lent C state opens first end ending rs r s (subst (λ (c : C). OpensCore (MutBor D) lent (lent first) (state c)) (sym begins) opened)
        (subst (λ (c : C). Reads Done (state c).disk end) ends last) fresh actors runs)

    pub single_back : OpensCore (MutBor D) lent (lent first) (state old) → (AreSo : List Replied → Type 0) (ending : Option Ending) (run : RunsSingle C state AreSo old new) →
        ((rs : List Replied) → AreSo rs → AreOfActors rs)
        → RunsEachByFiles ending run.0 (view first.now) w
    single_back opened AreSo ending run actors = runs_back opened ending run.0 (idle old) run.1.1.0 refl refl (sym run.1.1.1.0) (actors run.0 run.1.0) run.1.1.1.1

    module _ (command : CommandLine) (given : List ℕ) (ending : Option Ending) (source source_now : SourceView) (sink sink_now : SinkView) (rs : List Replied)
        (by_files : RunsEachByFiles ending rs (view first.now) w) (alone : rs ≡ [] → FailsAlone ending rs (view first.now)) where
      -- What it does from the disk on that was read.
      abbrev pub Goes : MutBor D → Type 0
      Goes before = Keeps command given ending (devices (view before.now) w source source_now sink sink_now)
          × SpeaksAs command given ending rs (devices (view before.now) w source source_now sink sink_now)

      pub does_opened : OpensCore (MutBor D) lent (lent first) (state old) → ((before : MutBor D) → Called C state (lent before) end old new → Goes before)
          → DoesCommand D view command given rs ending (devices (view first.now) w source source_now sink sink_now)
      does_opened (inl read) goes =
          let went = goes first (called first read) in
          does_here D view command given (view first.now) w source source_now sink sink_now rs ending went.0 went.1 by_files
          alone (read_holds first read)
      does_opened (inr is) goes =
          let went = goes is.0 (called is.0 is.1.1) in
          does_made D view command given (view first.now) w source source_now sink sink_now rs ending is.0.now (made_there D view first is.0 is.1.0) went.0 went.1 by_files
          alone (made_later is.0 is.1.1)

    module _ (rs : List Replied) (ending : Option Ending) (source source_now : SourceView) (sink sink_now : SinkView) where
      pub runs_opened : OpensCore (MutBor D) lent (lent first) (state old) → RunsEachByFiles ending rs (view first.now) w → FailsAlone ending rs (view first.now)
          → ((before : MutBor D) → Called C state (lent before) end old new → KeepsScript rs ending (view before.now) w source source_now sink sink_now)
          → RunsScript D view rs ending (devices (view first.now) w source source_now sink sink_now)
      runs_opened (inl read) by_files alone goes = record {
        by_files = by_files;
        fails_alone = alone;
        way = inl (inl (goes first (called first read), λ free is. read_holds first read));
      }
      runs_opened (inr is) by_files alone goes = record {
        by_files = by_files;
        fails_alone = alone;
        way = inl (inr (is.0.now, (made_there D view first is.0 is.1.0, made_later is.0 is.1.1, goes is.0 (called is.0 is.1.1))));
      }
