-- A call as lines of the machine of files, its opening first (docs/MODEL.md, 'From the machine to `backup`'). How it ended, and what was
-- printed, is said beside it (Script.antt, Singles.antt).
use Rattle.std.specs.Prelude.{◌≡◌, ◌⊎◌, ℕ, IsTrue, List, [], Option, Some, Ok, Err}
use Rattle.base_model.specs.Known.{KnownWith}
use Rattle.dd_disk.specs.View.{CrashLeaves, DiskView}
use Rattle.refusals.specs.declared.refusal.Refusal.{Refusal}
use Rattle.reply_text.specs.declared.ending.Ending.{Ending}
use Rattle.reply_text.specs.declared.ending.Ending.TheVariants.{Refused}
use Rattle.store_model.specs.Collisions.{ByteSet, HasNoCollisions, IsIn}
use Rattle.store_state.specs.Refused.{fails}
use Rattle.store_machine.specs.ByMap.{FileMachine}
use Rattle.store_machine.specs.Commands.{Lines, Replied, desk, run_of}
use Rattle.store_machine.specs.Done as done
use Rattle.store_machine.specs.Machine.{Stepped}
use Rattle.store_machine.specs.Values.{of_files}
use Rattle.core_machine.specs.Bytes.{ChangesBytes}
use Rattle.core_machine.specs.FileOpenings.{LeavesFor, LeavesFound, Reopens, opening}
use Rattle.core_machine.specs.Files.{IsOfFound, MayStand, StandsFor}
use Rattle.script_runner.specs.LinesAreFileRuns.{ChangesContent, FileDesk, IsCutBy}
use Rattle.script_runner.specs.LinesAreRuns.{Passes, Traced}

-- The store is opened, as the machine may, which may then give each line its reply. At the end what reads give of the disk, and each image
-- that a crash may leave, is a store that may stand there, of files that may be found: so after all that was acknowledged. At any moment of
-- the call, also inside a write, a crash leaves an image that can be opened as files that may be found before the opening, or at a machine
-- to which the lines come; or one that it might have left before the call. And what the opening, and then each step of the lines, compared
-- of the bytes of the disk, and may have changed, is so, and what reads give then may stand there.
pub record RunsByFiles (S : List ℕ → Type 0) (rs : List Replied) (m : FileMachine) (disk disk_now : DiskView) : Type 0 where
  pub files : ℕ
  pub opened : FileMachine
  pub opens : Reopens 0 (Ok (done.Reopened files)) m opened
  pub steps : List (Stepped (List ℕ))
  pub next : FileDesk
  pub lines_are : Lines of_files rs steps (desk opened) next
  pub stands : StandsFor S next.machine disk_now
  pub crash : CrashLeaves
      (λ image. IsOfFound S m image
      ⊎ Passes of_files (λ n. IsOfFound S n image) steps opened next.machine (run_of of_files rs steps (desk opened) next lines_are))
      disk disk_now
  pub bytes : (then : Option (List ℕ)) × (ChangesContent S (opening 0 (Ok (done.Reopened files))) m opened disk.content then
      × Traced of_files (ChangesContent S) steps opened next.machine (run_of of_files rs steps (desk opened) next lines_are) then
      disk_now.content)

-- Or it is not, as the machine may refuse it, and no line is run. What reads give may stand for its files still, and so may each image
-- that a crash leaves now and could not before; and at any moment of the call a crash leaves an image that can be opened as files that may
-- be found, or one that it might have left before. Nothing was written, or but gates of containers.
pub record RefusedByFiles (S : List ℕ → Type 0) (ending : Option Ending) (rs : List Replied) (m : FileMachine) (disk disk_now : DiskView)
    : Type 0 where
  pub none : rs ≡ []
  pub refusal : Refusal
  pub ending_is : ending ≡ Some (Refused refusal)
  pub next : FileMachine
  pub opens : Reopens 0 (Err refusal) m next
  pub leaves : LeavesFor S next disk disk_now
  pub crash : LeavesFound S m disk disk_now
  pub bytes : ChangesBytes (opening 0 (Err refusal)) m next disk.content disk_now.content

-- what is cut on the way is among these
abbrev pub CutsAmong : ByteSet → List Replied → FileMachine → Type 0
CutsAmong among rs m = (files : ℕ) (opened : FileMachine) (bytes : List ℕ) → Reopens 0 (Ok (done.Reopened files)) m opened
    → IsCutBy rs (desk opened) bytes → IsIn among bytes

-- So it is of each machine of files for which the content of the disk may stand, where no two different data segments have one digest: of
-- a set of those that the disk holds and that are cut on the way.
abbrev pub RunsEachByFiles : Option Ending → List Replied → DiskView → DiskView → Type 0
RunsEachByFiles ending rs disk disk_now = (among : ByteSet) (m : FileMachine) → HasNoCollisions (IsIn among) → CutsAmong among rs m
    → KnownWith disk.content (MayStand (IsIn among) m)
    → RunsByFiles (IsIn among) rs m disk disk_now ⊎ RefusedByFiles (IsIn among) ending rs m disk disk_now

-- Then a refusal ends a script, or a command that ran no line, only where there was no memory, or a call of the disk failed.
abbrev pub FailsAlone : Option Ending → List Replied → DiskView → Type 0
FailsAlone ending rs disk = (among : ByteSet) (m : FileMachine) → HasNoCollisions (IsIn among) → CutsAmong among rs m
    → KnownWith disk.content (MayStand (IsIn among) m) → (refusal : Refusal) → ending ≡ Some (Refused refusal) → IsTrue (fails refusal)
