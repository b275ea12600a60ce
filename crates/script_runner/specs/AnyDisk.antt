-- Lines over any core, on any disk (docs/MODEL.md, 'Scripts').
use Rattle.std.specs.Prelude.{◌≡◌, ℕ, Bool, true, false, List, [], ◌∷◌}
use Rattle.actor_parts.specs.Counts.{Counts}
use Rattle.dd_disk.specs.View.{DiskView, IsLater}
use Rattle.refusals.specs.declared.refusal.Refusal.TheVariants.{DiskRead, DiskWrite}
use Rattle.script_lines.specs.ReplyValue.{ReplyValue}
use Rattle.script_lines.specs.ReplyValue as replies
use Rattle.store_core.specs.State.{CoreState}
use Rattle.store_machine.specs.Commands.{Replied}
use Rattle.script_runner.specs.Acts.{RunnerState}
use Rattle.script_runner.specs.Scripts.{RunsLines}

abbrev pub tells_fault : ReplyValue → Bool
tells_fault (replies.Refused DiskRead) = true
tells_fault (replies.Refused DiskWrite) = true
tells_fault reply = false

-- Each line whose reply blames a call of the disk made its count of faults rise, and no other line did.
abbrev pub CountFaults : List Replied → ℕ → ℕ → Type 0
CountFaults [] before now = now ≡ before
CountFaults (one ∷ more) before now = (mid : ℕ) × (Counts (tells_fault one.reply) before mid × CountFaults more mid now)

-- It is the same disk, later, and its count of faults is told by the replies.
pub record GoesOn (rs : List Replied) (old new : DiskView) : Type 0 where
  pub later : IsLater old new
  pub counted : CountFaults rs old.faults new.faults

-- So lines leave the disk of any core.
abbrev pub LinesGoOn : (C : Type 0) → (C → CoreState) → Type 0
LinesGoOn C state = (rs : List Replied) (r s : RunnerState C)
    → RunsLines C state rs r s → GoesOn rs (state r.core).disk (state s.core).disk
