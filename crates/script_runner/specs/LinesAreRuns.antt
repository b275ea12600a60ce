-- Lines that are run over a core, on any disk, as lines of the machine of roots (docs/MODEL.md, 'Scripts').
use Rattle.std.specs.Prelude.{◌≡◌, ◌≢◌, ◌⊎◌, ℕ, suc, false, List, [], ◌∷◌, length, replicate, Option, Some, None}
use Rattle.std.specs.FinMap as finite
use Rattle.dd_disk.specs.View.{CrashLeaves, DiskView}
use Rattle.disk_format.specs.Cells.{Root}
use Rattle.actor_parts.specs.declared.actor.TheConstants.{ACTORS}
use Rattle.actor_parts.specs.declared.part.Part.{Part}
use Rattle.actor_parts.specs.declared.part.Part.TheVariants.{Idle}
use Rattle.actor_parts.specs.Kinds.{kind_of}
use Rattle.actor_parts.specs.Parts.{part_of}
use Rattle.merkle_file.specs.declared.top.Top.{Top}
use Rattle.refusals.specs.declared.refusal.PartKind.TheVariants.{Writing}
use Rattle.ingest_session.specs.Facts.{kept}
use Rattle.ingest_session.specs.History.{History, HasHistory}
use Rattle.ingest_session.specs.State.{SessionState}
use Rattle.script_lines.specs.Grammar as lines
use Rattle.script_lines.specs.ReplyValue as replies
use Rattle.store_core.specs.Opening.{IsReadFrom}
use Rattle.store_core.specs.State.{CoreState, IsRunning}
use Rattle.session_turns.specs.Owning.{Kept}
use Rattle.store_machine.specs.Commands.{Lines, Replied, desk, run_of}
use Rattle.store_machine.specs.Lines.{Desk, Line, Session}
use Rattle.store_machine.specs.Machine.{Machine, Stepped}
use Rattle.store_machine.specs.Opening.{IsNamedBy, Opens}
use Rattle.store_machine.specs.Runs.{Run}
use Rattle.store_machine.specs.Values.{Values, of_roots}
use Rattle.core_machine.specs.Refines.{IsMachine}
use Rattle.script_runner.specs.Acts.{IsOfActor, RunnerState, RunsLine}
use Rattle.script_runner.specs.Scripts.{AreOfActors, RunsLines}
use Rattle.script_runner.specs.Sessions.{Sessions, session_of}
use Rattle.script_runner.specs.Shown.{WasOpened, WasShown}

-- ---- sessions

-- The session took these bytes, all of the file or not yet, and was told these answers; P holds of what is kept.
pub record IsSessionOf (P : Kept → Type 0) (s : Session) (x : SessionState) : Type 0 where
  pub history : History
  pub has : HasHistory x history
  pub given_is : history.given ≡ s.given
  pub answers_are : history.answers ≡ s.answers
  pub ended_is : x.ended ≡ s.ended
  pub owns : P (kept history)

abbrev pub SameSession : (Kept → Type 0) → Option Session → Option SessionState → Type 0
SameSession P None None = Unit {0}
SameSession P (Some s) (Some x) = IsSessionOf P s x
SameSession P s x = ⊥

-- those of all actors
abbrev pub SameSessions : (ℕ → Kept → Type 0) → List (Option Session) → Sessions → Type 0
SameSessions P [] [] = Unit {0}
SameSessions P (s ∷ ss) (x ∷ xs) = SameSession (P 0) s x × SameSessions (λ actor. P (suc actor)) ss xs
SameSessions P ss xs = ⊥

-- an actor that stores a file gives it
abbrev pub WritersGive : Sessions → List Part → Type 0
WritersGive sessions parts = (actor : ℕ) → session_of sessions actor ≡ None → kind_of (part_of parts actor) ≢ Writing

-- ---- desks

-- What is said of a core beside a machine: that it fits it; what an actor owns, by what answers say to be kept; which images a crash may
-- leave of the machine; what a step, from one machine to another, does to the content that a disk tells; and what it is that an opening
-- found, by what reads of the disk returned from the one moment to the other.
pub record Beside (V R : Type 0) : Type 1 where
  pub Fits : Machine V R → CoreState → Type 0
  pub Owns : ℕ → Kept → Machine V R → CoreState → Type 0
  pub Left : Machine V R → List ℕ → Type 0
  pub Changes : Stepped V → Machine V R → Machine V R → Option (List ℕ) → Option (List ℕ) → Type 0
  pub Finds : Machine V R → DiskView → DiskView → Type 0

-- A runner is at a desk: its core fits the machine, its sessions are those of the desk, one for each actor, and who stores a file gives it.
-- What the answers of an actor say to be kept, it owns.
pub record IsAtDesk {V R C : Type 0} (state : C → CoreState) (b : Beside V R) (d : Desk V R) (r : RunnerState C) : Type 0 where
  pub runs : IsRunning (state r.core)
  pub fits : b.Fits d.machine (state r.core)
  pub same : SameSessions (λ actor kept. b.Owns actor kept d.machine (state r.core)) d.sessions r.sessions
  pub many : length r.sessions ≡ ACTORS
  pub give : WritersGive r.sessions (state r.core).parts

-- P holds of a machine of a run
abbrev pub Passes : {V R : Type 0} (v : Values V R) (P : Machine V R → Type 0) (ss : List (Stepped V)) (m n : Machine V R) → Run v ss m n
    → Type 0
Passes v P [] m n run = P m
Passes v P (s ∷ ss) m n run = P m ⊎ Passes v P ss run.0 n run.1.1

-- P holds of each step of a run, of the machines before and after it, and of what was told then.
abbrev pub Traced : {V R : Type 0} (v : Values V R) (P : Stepped V → Machine V R → Machine V R → Option (List ℕ) → Option (List ℕ) → Type 0)
    (ss : List (Stepped V)) (m n : Machine V R) → Run v ss m n → (was now : Option (List ℕ)) → Type 0
Traced v P [] m n run was now = now ≡ was
Traced v P (s ∷ ss) m n run was now = (mid : Option (List ℕ)) × (P s m run.0 was mid × Traced v P ss run.0 n run.1.1 mid now)

-- What was done of steps of a run, over a disk: at any moment, also inside a write, a crash leaves an image that some machine of the run
-- may leave, or one that the disk might have left before; and what each step does to the content is so.
pub record IsDone {V R : Type 0} (v : Values V R) (b : Beside V R) (ss : List (Stepped V)) (m n : Machine V R) (run : Run v ss m n)
    (old new : DiskView) : Type 0 where
  pub leaves : CrashLeaves (λ image. Passes v (λ k. b.Left k image) ss m n run) old new
  pub changes : Traced v b.Changes ss m n run old.content new.content

-- where a line opened the store, P holds
abbrev pub IfOpened : Replied → Type 0 → Type 0
IfOpened one P = (files : ℕ) → one.line ≡ lines.Reopen → one.reply ≡ replies.Opened files → P

-- A line of the machine led to a desk, and the runner is at it.
pub record LeadsTo {V R C : Type 0} (v : Values V R) (state : C → CoreState) (b : Beside V R) (one : Replied) (d : Desk V R)
    (r s : RunnerState C) : Type 0 where
  pub steps : List (Stepped V)
  pub next : Desk V R
  pub line_is : Line v one.line one.reply steps d next
  pub at : IsAtDesk state b next s
  pub did : IsDone v b steps d.machine next.machine line_is.0 (state r.core).disk (state s.core).disk
  pub found : IfOpened one (b.Finds next.machine (state r.core).disk (state s.core).disk)

-- ---- roots

abbrev pub RootDesk : Type 0
RootDesk = Desk Root (List Top)

-- What was opened is a store that reads showed, whose records name the roots of its names. Nothing is said of what is kept, of what a
-- crash leaves, nor of the content.
abbrev pub beside_roots : Beside Root (List Top)
beside_roots = record {
  Fits = IsMachine false;
  Owns = λ actor kept m c. Unit {0};
  Left = λ m image. Unit {0};
  Changes = λ step m n was now. Unit {0};
  Finds = λ m disk disk_now. IsNamedBy of_roots m.now m.store × WasShown disk disk_now m.store;
}

abbrev pub IsAtRoots : {C : Type 0} → (C → CoreState) → RootDesk → RunnerState C → Type 0
IsAtRoots state d r = IsAtDesk state beside_roots d r

-- ---- the law

-- With no premise on the disk, what a runner does by a line is what the machine of roots may do by it, with this reply.
abbrev pub LinesAreRuns : (C : Type 0) → (C → CoreState) → Type 0
LinesAreRuns C state = (one : Replied) (r s : RunnerState C) (d : RootDesk) → IsOfActor one.line
    → IsAtRoots state d r → RunsLine C state one.line one.reply r s → LeadsTo of_roots state beside_roots one d r s

-- So a runner begins: no actor is at anything, and none gives a file.
abbrev pub BeginsAtDesk : (C : Type 0) → (C → CoreState) → Type 0
BeginsAtDesk C state = (m : Machine Root (List Top)) (r : RunnerState C) → IsRunning (state r.core) → IsMachine false m (state r.core)
    → (state r.core).parts ≡ replicate ACTORS Idle → r.sessions ≡ replicate ACTORS None → IsAtRoots state (desk m) r

-- ---- lines, one after the other

-- P holds of each machine that these lines opened
abbrev pub AllOpened : {V R : Type 0} (v : Values V R) (P : Machine V R → Type 0) (rs : List Replied) (steps : List (Stepped V))
    (d e : Desk V R) → Lines v rs steps d e → Type 0
AllOpened v P [] steps d e ran = Unit {0}
AllOpened v P (one ∷ more) steps d e ran = IfOpened one (P ran.2.machine) × AllOpened v P more ran.1 ran.2 e ran.5

-- Lines of the machine led to a desk, and the runner is at it. Of a crash it is said of all of them together: which of them were
-- acknowledged by that moment the law of one line says, line by line.
pub record AllLeadTo {V R C : Type 0} (v : Values V R) (state : C → CoreState) (b : Beside V R) (rs : List Replied) (d : Desk V R)
    (r s : RunnerState C) : Type 0 where
  pub steps : List (Stepped V)
  pub next : Desk V R
  pub lines_are : Lines v rs steps d next
  pub at : IsAtDesk state b next s
  pub did : IsDone v b steps d.machine next.machine (run_of v rs steps d next lines_are) (state r.core).disk (state s.core).disk
  pub found : AllOpened v (λ m. b.Finds m (state r.core).disk (state s.core).disk) rs steps d next lines_are

-- So it is of lines that are run one after the other.
abbrev pub ScriptsAreRuns : (C : Type 0) → (C → CoreState) → Type 0
ScriptsAreRuns C state = (rs : List Replied) (r s : RunnerState C) (d : RootDesk) → AreOfActors rs → IsAtRoots state d r
    → RunsLines C state rs r s → AllLeadTo of_roots state beside_roots rs d r s

-- ---- from an opening on

-- Lines of the machine of roots, from one on to which each may come by an opening, of a store that reads showed; and so is what each
-- `reopen` of them found.
pub record RunsByRoots (rs : List Replied) (disk disk_now : DiskView) : Type 0 where
  pub opened : Machine Root (List Top)
  pub opens : (m : Machine Root (List Top)) → Opens of_roots (finite.len opened.now.names) m opened
  pub named : IsNamedBy of_roots opened.now opened.store
  pub shown : WasOpened disk disk_now opened.store
  pub steps : List (Stepped Root)
  pub next : RootDesk
  pub lines_are : Lines of_roots rs steps (desk opened) next
  pub found : AllOpened of_roots (λ m. IsNamedBy of_roots m.now m.store × WasShown disk disk_now m.store) rs steps (desk opened) next
      lines_are

-- So are lines that are run over a core that was opened just now, where no actor gives a file yet.
abbrev pub OpenedRunsByRoots : (D : Type 0) → (D → DiskView) → (C : Type 0) → (C → CoreState) → Type 0
OpenedRunsByRoots D view C state = (rs : List Replied) (before : D) (r s : RunnerState C) → IsReadFrom (view before) (state r.core)
    → r.sessions ≡ replicate ACTORS None → AreOfActors rs → RunsLines C state rs r s
    → RunsByRoots rs (view before) (state s.core).disk
