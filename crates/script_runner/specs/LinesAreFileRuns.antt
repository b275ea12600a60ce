-- Lines that are run over a core whose disk tells its content, as lines of the machine of files (docs/MODEL.md, 'Scripts').
use Rattle.std.specs.Prelude.{◌≡◌, ◌⊎◌, ◌<◌, ℕ, List, [], ◌∷◌, replicate, slice_index_or, Option, Some, None, Ok}
use Rattle.std.specs.FinMap as finite
use Rattle.actor_parts.specs.declared.actor.TheConstants.{ACTORS}
use Rattle.actor_parts.specs.declared.part.Part.TheVariants.{Idle}
use Rattle.base_model.specs.Known.{KnownWith}
use Rattle.dd_disk.specs.View.{DiskView}
use Rattle.store_model.specs.Collisions.{ByteSet, HasNoCollisions, IsIn}
use Rattle.store_core.specs.Opening.{OpensCore}
use Rattle.store_core.specs.State.{CoreState, IsRunning}
use Rattle.store_machine.specs.Commands.{Replied, desk}
use Rattle.store_machine.specs.ByMap.{FileMachine}
use Rattle.store_machine.specs.Done as done
use Rattle.store_machine.specs.Lines.{Desk, Line, Session}
use Rattle.store_machine.specs.Machine.{Stepped}
use Rattle.store_machine.specs.Values.{of_files}
use Rattle.core_machine.specs.Bytes.{ChangesBytes}
use Rattle.core_machine.specs.FileOpenings.{LeavesFound, Reopens, opening}
use Rattle.core_machine.specs.Files.{IsFileMachine, IsOfFound, MayStand}
use Rattle.session_turns.specs.Owning.{HoldsKept, IsCutOf, Kept}
use Rattle.script_runner.specs.Acts.{IsOfActor, RunnerState, RunsLine}
use Rattle.script_runner.specs.LinesAreRuns.{AllLeadTo, Beside, IsAtDesk, LeadsTo}
use Rattle.script_runner.specs.Scripts.{AreOfActors, RunsLines}

-- ---- what actors own

-- An actor holds what is kept of its file, unless the core is stopped.
abbrev pub OwnsKept : ℕ → Kept → FileMachine → CoreState → Type 0
OwnsKept actor kept m c = (actor < ACTORS) × (c.stop ≡ None → HoldsKept actor kept c)

-- ---- what is cut

abbrev pub FileDesk : Type 0
FileDesk = Desk (List ℕ) (List (List ℕ))

-- bytes that are cut by now of a file that some actor of a desk gives
abbrev pub IsCutAt : FileDesk → List ℕ → Type 0
IsCutAt d bytes = (actor : ℕ) × ((s : Session) × ((slice_index_or d.sessions actor None ≡ Some s) × IsCutOf s.given s.ended bytes))

-- and as one of these lines begins, at a desk to which those before it may lead
abbrev pub IsCutBy : List Replied → FileDesk → List ℕ → Type 0
IsCutBy [] d bytes = ⊥
IsCutBy (one ∷ more) d bytes = IsCutAt d bytes
    ⊎ ((steps : List (Stepped (List ℕ))) × ((mid : FileDesk) × (Line of_files one.line one.reply steps d mid × IsCutBy more mid bytes)))

-- ---- the law

-- What a step does to the content, and that this may stand for the machine's files then.
abbrev pub ChangesContent : (List ℕ → Type 0) → Stepped (List ℕ) → FileMachine → FileMachine → Option (List ℕ) → Option (List ℕ) → Type 0
ChangesContent S s m n was now = ChangesBytes s m n was now × KnownWith now (MayStand S n)

-- What is said of a core beside the machine of files. What an opening found is told by the content.
abbrev pub beside_files : (List ℕ → Type 0) → Beside (List ℕ) (List (List ℕ))
beside_files S = record {
  Fits = IsFileMachine S;
  Owns = OwnsKept;
  Left = IsOfFound S;
  Changes = ChangesContent S;
  Finds = λ m disk disk_now. Unit {0};
}

abbrev pub IsAtFileDesk : {C : Type 0} → (List ℕ → Type 0) → (C → CoreState) → FileDesk → RunnerState C → Type 0
IsAtFileDesk S state d r = IsAtDesk state (beside_files S) d r

-- Where what is cut has no collisions, what a runner does by a line is what the machine of files may do by it, with this reply.
abbrev pub LinesAreFileRuns : (C : Type 0) → (C → CoreState) → Type 0
LinesAreFileRuns C state = (among : ByteSet) (one : Replied) (r s : RunnerState C) (d : FileDesk) → HasNoCollisions (IsIn among)
    → IsOfActor one.line → ((bytes : List ℕ) → IsCutAt d bytes → IsIn among bytes) → IsAtFileDesk (IsIn among) state d r
    → RunsLine C state one.line one.reply r s → LeadsTo of_files state (beside_files (IsIn among)) one d r s

-- So it is of lines that are run one after the other.
abbrev pub ScriptsAreFileRuns : (C : Type 0) → (C → CoreState) → Type 0
ScriptsAreFileRuns C state = (among : ByteSet) (rs : List Replied) (r s : RunnerState C) (d : FileDesk)
    → HasNoCollisions (IsIn among) → AreOfActors rs → ((bytes : List ℕ) → IsCutBy rs d bytes → IsIn among bytes)
    → IsAtFileDesk (IsIn among) state d r → RunsLines C state rs r s
    → AllLeadTo of_files state (beside_files (IsIn among)) rs d r s

-- So a runner begins: no actor is at anything, and none gives a file.
abbrev pub BeginsAtFileDesk : (C : Type 0) → (C → CoreState) → Type 0
BeginsAtFileDesk C state = (among : ByteSet) (m : FileMachine) (r : RunnerState C) → IsRunning (state r.core)
    → IsFileMachine (IsIn among) m (state r.core) → (state r.core).parts ≡ replicate ACTORS Idle → r.sessions ≡ replicate ACTORS None
    → IsAtFileDesk (IsIn among) state (desk m) r

-- What was opened, of a content that may stand for a machine's files, is a machine to which that may come by an opening; and a runner
-- begins there. Of a crash meanwhile `LeavesFound` holds, and of what that does to the content `ChangesContent`.
abbrev pub OpenedIsAtDesk : (D : Type 0) → (D → DiskView) → (C : Type 0) → (C → CoreState) → Type 0
OpenedIsAtDesk D view C state = (among : ByteSet) (actor : ℕ) (before : D) (m : FileMachine) (r : RunnerState C)
    → HasNoCollisions (IsIn among) → KnownWith (view before).content (MayStand (IsIn among) m)
    → OpensCore D view (view before) (state r.core) → r.sessions ≡ replicate ACTORS None
    → (n : FileMachine) × (Reopens actor (Ok (done.Reopened (finite.len (state r.core).tables.names))) m n
    × IsAtFileDesk (IsIn among) state (desk n) r × LeavesFound (IsIn among) m (view before) (state r.core).disk
    × ChangesContent (IsIn among) (opening actor (Ok (done.Reopened (finite.len (state r.core).tables.names)))) m n (view before).content
    (state r.core).disk.content)
