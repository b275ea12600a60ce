-- A call is lines of the machine of files, its opening first: whether it was opened or not, from its beginning to its end.
use Rattle.backup_engine.proofs.Prelude.{◌≡◌, ◌⊎◌, inl, inr, ◌≤◌, ℕ, List, [], Option, Some, None, refl, sym, subst, arith, Reads, CrashLeaves, DiskView, IsLater, Refusal, Memory, Refused, OpensCore, OpensNone, CoreState, Replied, desk, run_of, of_files, IsIn, FilesUnopened, ACTORS, RunnerState, AreOfActors, RunsLines, RunsEachByFiles, CallsRunByFiles}
use Rattle.std.proofs.Common.{replicate}
use Rattle.dd_disk.specs.Ending.{Done}
use Rattle.reply_text.specs.declared.ending.Ending.{Ending}
use Rattle.core_machine.proofs.FileStays.{stands_read}
use Rattle.script_runner.specs.LinesAreFileRuns.{ChangesContent}
use Rattle.script_runner.specs.LinesAreRuns.{Traced}

-- ---- the store was not opened

-- there was no memory, before the disk was called
pub memory_by_files : (v : DiskView) → RunsEachByFiles (Some (Refused Memory)) [] v v
memory_by_files v = λ among m distinct cut known. inr (record {
  none = refl;
  refusal = Memory;
  ending_is = refl;
  next = m;
  opens = (tt, inl refl);
  leaves = record { content = known; images = λ image left. inl left };
  crash = record { now = λ image left. inl left; since = λ t image below left. inl left };
  bytes = λ old told. (old, told, inl (refl, refl));
})

-- it was refused
pub refused_by_files : (D : Type 0) (view : D → DiskView) (refusal : Refusal) (before after : D) → FilesUnopened D view → OpensNone D view refusal (view before) (view after)
    → RunsEachByFiles (Some (Refused refusal)) [] (view before) (view after)
refused_by_files D view refusal before after unopened none = λ among m distinct cut known.
    let one = unopened among 0 refusal before after m distinct known none in
    inr (record {
      none = refl;
      refusal = refusal;
      ending_is = refl;
      next = one.0;
      opens = one.1.0;
      leaves = one.1.1;
      crash = one.1.2;
      bytes = one.1.3;
    })

-- ---- it was

-- An opening, lines and a closing, one after the other: what a crash leaves at a moment of them.
module _ (P Q : List ℕ → Type 0) (v opened last now : DiskView) (first : v.clock ≤ opened.clock) (between : IsLater opened last)
    (opens : CrashLeaves (λ image. v.images image ⊎ P image) v opened) (runs : CrashLeaves Q opened last) (closed : Reads Done last now) where
  before : (t : ℕ) (c : List ℕ) → t ≤ v.clock → opened.images_since t c → v.images_since t c ⊎ (P c ⊎ Q c)
  before t c below left = elim (opens.since t c below left) [
    | inl was ↦ inl was
    | inr (inl here) ↦ inl (v.counts_now t c below here)
    | inr (inr found) ↦ inr (inl found)
  ]

  meanwhile : (t : ℕ) (c : List ℕ) → t ≤ v.clock → last.images_since t c → v.images_since t c ⊎ (P c ⊎ Q c)
  meanwhile t c below left = elim (runs.since t c (omega (arith, below, first)) left) [ inl was ↦ before t c below was | inr passed ↦ inr (inr passed) ]

  pub call_leaves : CrashLeaves (λ c. P c ⊎ Q c) v now
  call_leaves = record {
    now = λ c left. inr (runs.now c (closed.only.images_are c left));
    since = λ t c below left. elim (closed.only.since_are t c (omega (arith, below, first, between.clock_is)) left) [
      | inl was ↦ meanwhile t c below was
      | inr here ↦ inr (inr (runs.now c here))
    ];
  }

pub opened_clock : (D : Type 0) (view : D → DiskView) (v : DiskView) (c : CoreState) → OpensCore D view v c → v.clock ≤ c.disk.clock
opened_clock D view v c (inl read) = read.reads.only.later.clock_is
opened_clock D view v c (inr (mid, (made, read))) = omega (arith, made.later.clock_is, read.reads.only.later.clock_is)

pub calls_by_files : (D : Type 0) (view : D → DiskView) (C : Type 0) (state : C → CoreState) → CallsRunByFiles D view C state
    → (start : D) (now : DiskView) (ending : Option Ending) (rs : List Replied) (r s : RunnerState C) → OpensCore D view (view start) (state r.core) →
    Reads Done (state s.core).disk now → r.sessions ≡ replicate ACTORS None
    → AreOfActors rs → RunsLines C state rs r s → RunsEachByFiles ending rs (view start) now
calls_by_files D view C state laws start now ending rs r s opened closed fresh actors runs = λ among m distinct cut known.
    let one = laws.opens among 0 start m r distinct known opened fresh in
    let all = laws.scripts among rs r s (desk one.0) distinct actors (λ bytes. cut _ one.0 bytes one.1.0) one.1.1 runs in
    let stands = laws.stands among s.core all.next.machine all.at.fits in
    let between = (laws.goes rs r s runs).later in
    let shut = stands_read _ all.next.machine (state s.core).disk now closed.only stands in
    inl (record {
      files = _;
      opened = one.0;
      opens = one.1.0;
      steps = all.steps;
      next = all.next;
      lines_are = all.lines_are;
      stands = record { content = shut.content; images = shut.images };
      crash = call_leaves _ _ (view start) (state r.core).disk (state s.core).disk now (opened_clock D view (view start) (state r.core) opened) between one.1.2 all.did.leaves
          closed;
      bytes = (
        (state r.core).disk.content,
        (
          one.1.3,
          subst (λ (told : Option (List ℕ)). Traced of_files (ChangesContent (IsIn among)) all.steps one.0 all.next.machine
              (run_of of_files rs all.steps (desk one.0) all.next all.lines_are) (state r.core).disk.content told) (sym closed.only.content_is) all.did.changes,
        ),
      );
    })

-- ---- a disk that was lent

module _ (loans loans_now : List ℕ) (v w : DiskView) where
  abbrev lent : DiskView
  lent = record v { loans = loans }

  abbrev lent_now : DiskView
  lent_now = record w { loans = loans_now }

  pub by_files_back : (ending : Option Ending) (rs : List Replied) → RunsEachByFiles ending rs lent lent_now → RunsEachByFiles ending rs v w
  by_files_back ending rs each among m distinct cut known = elim (each among m distinct cut known) [
    | inl runs ↦ inl (record {
      files = runs.files;
      opened = runs.opened;
      opens = runs.opens;
      steps = runs.steps;
      next = runs.next;
      lines_are = runs.lines_are;
      stands = record { content = runs.stands.content; images = runs.stands.images };
      crash = record { now = runs.crash.now; since = runs.crash.since };
      bytes = runs.bytes;
    })
    | inr none ↦ inr (record {
      none = none.none;
      refusal = none.refusal;
      ending_is = none.ending_is;
      next = none.next;
      opens = none.opens;
      leaves = record { content = none.leaves.content; images = none.leaves.images };
      crash = record { now = none.crash.now; since = none.crash.since };
      bytes = none.bytes;
    })
  ]
