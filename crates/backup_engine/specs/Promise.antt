-- How a command ended, what it wrote, and what is left of the disk (docs/MODEL.md, 'The promise').
use Rattle.std.specs.Prelude.{◌≡◌, ◌⊎◌, ℕ, ◌-◌, ◌^◌, ◌<◌, ◌≤◌, List, Option, None, Some}
use Rattle.base_model.specs.Known.{KnownWith, Appended}
use Rattle.dd_disk.specs.View.{DiskView}
use Rattle.dd_io.specs.Flow.{SinkView, AppendedPart}
use Rattle.refusals.specs.declared.refusal.Refusal.TheVariants.{DiskWrite}
use Rattle.reply_text.specs.declared.ending.Ending.{Ending}
use Rattle.reply_text.specs.declared.ending.Ending.TheVariants.{Sink, Refused}

-- ---- how a command ended: as done (None), or not

-- It was done, but perhaps for its reply; or a write or a sync failed. Only then may the map be another.
abbrev pub MayChange : Option Ending → Type 0
MayChange None = Unit {0}
MayChange (Some Sink) = Unit {0}
MayChange (Some (Refused DiskWrite)) = Unit {0}
MayChange (Some ending) = ⊥

-- where it was done, but perhaps for its reply, P holds, and else Q
abbrev pub ByDone : Option Ending → Type 0 → Type 0 → Type 0
ByDone None P Q = P
ByDone (Some Sink) P Q = P
ByDone (Some ending) P Q = Q

-- ---- what was written

-- of a reply: all of it, or a first part where the sink failed, or nothing where the command was not done
abbrev pub WroteReply : List ℕ → Option Ending → SinkView → SinkView → Type 0
WroteReply reply None sink sink_now = Appended sink.written sink_now.written reply
WroteReply reply (Some Sink) sink sink_now = AppendedPart sink.written sink_now.written reply
WroteReply reply (Some ending) sink sink_now = sink_now.written ≡ sink.written

-- ---- what is left

-- what a crash at the end may leave, or might have left at a moment since the call began
abbrev pub SinceStart : DiskView → DiskView → List ℕ → Type 0
SinceStart disk disk_now c = disk_now.images c ⊎ ((disk.clock < 2 ^ 64 - 1) × disk_now.images_since disk.clock c)

-- A crash at the end leaves an image that has P, or one that it might have left when the call began; and so it is of a crash since any
-- moment up to then.
pub record LeavesMeanwhile (P : List ℕ → Type 0) (disk disk_now : DiskView) : Type 0 where
  pub now : (c : List ℕ) → disk_now.images c → disk.images c ⊎ P c
  pub since : (t : ℕ) (c : List ℕ) → t ≤ disk.clock → t < 2 ^ 64 - 1 → disk_now.images_since t c → disk.images_since t c ⊎ P c

-- P holds of what reads give, and of each image that a crash leaves now
abbrev pub Stands : (List ℕ → Type 0) → DiskView → Type 0
Stands P v = KnownWith v.content P × ((c : List ℕ) → v.images c → P c)
