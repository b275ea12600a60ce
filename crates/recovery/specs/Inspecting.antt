-- What an inspection of a disk finds, and what it answers (docs/FORMAT.md, 'Check').
use Rattle.std.specs.Prelude.{◌≡◌, ◌⊎◌, ℕ, List, [], length, None}
use Rattle.base_model.specs.Known.{Known}
use Rattle.container_log.specs.Inspecting.{slots_found}
use Rattle.dd_disk.specs.Ending.{Blame, NoCall}
use Rattle.dd_disk.specs.Shows.{Shows}
use Rattle.dd_disk.specs.View.{DiskView}
use Rattle.dd_io.specs.Flow.{SinkView}
use Rattle.inspection.specs.Found.{Found, and_then, cell_with}
use Rattle.inspection.specs.Handing.{Reports, StopsAmong, Written}
use Rattle.inspection.specs.declared.damage.Damage.{Damage}
use Rattle.inspection.specs.declared.halt.Halt.{Halt}
use Rattle.inspection.specs.declared.halt.Halt.TheVariants as halt
use Rattle.inspection.specs.declared.tally.Tally.{Tally}
use Rattle.journal_cells.specs.Inspecting.{journal_found}
use Rattle.refusals.specs.declared.refusal.Refusal.{Refusal}
use Rattle.refusals.specs.declared.refusal.Refusal.TheVariants.{Memory, DiskRead}
use Rattle.store_state.specs.Refused.{blames}
use Rattle.recovery.specs.Opening.{IsSized, IsFormatRefusal}
use Rattle.recovery.specs.declared.inspecting.Uninspected.{Uninspected}
use Rattle.recovery.specs.declared.inspecting.Uninspected.TheVariants.{Refused, Untaken}

-- on an image whose format cell is right, and says so many slots: that cell, the journal, and the slots, in this order
abbrev pub image_found : ℕ → List ℕ → Found
image_found slots image = and_then (cell_with None) (and_then (journal_found image) (slots_found slots 0 [] image))

-- nothing was counted yet
abbrev pub nothing_counted : Tally
nothing_counted = record { cells = 0; copies = 0; bad = 0 }

-- the counts are exactly those of what was found
pub record AreCounted (found : Found) (tally : Tally) : Type 0 where
  pub cells : tally.cells ≡ found.cells
  pub copies : tally.copies ≡ found.copies
  pub bad : tally.bad ≡ length found.damages

-- Reads showed what is to be found on the disk; this was counted, and each damage written. Where the disk tells its content, the counts
-- are exact; where it doesn't, one might stand at its type's end.
pub record IsInspected (line : Damage → List ℕ) (old new : DiskView) (sink sink_now : SinkView) (tally : Tally) : Type 0 where
  pub slots : ℕ
  pub sized : IsSized (Shows old new) old.size slots
  pub found : Found
  pub shown : Shows old new (λ image. image_found slots image ≡ found)
  pub reports : Reports line found sink sink_now nothing_counted tally
  pub exact : Known old.content (λ image. AreCounted found tally)

-- how a halt is answered
abbrev pub ended_by : Halt → Uninspected
ended_by halt.Memory = Refused Memory
ended_by halt.DiskRead = Refused DiskRead
ended_by halt.Untaken = Untaken

-- which call of the disk the answer blames
abbrev pub blamed : Uninspected → Blame
blamed (Refused refusal) = blames refusal
blamed Untaken = NoCall

-- the format cell is right for the disk's size, and memory, a read or what takes the damages failed on the way through the rest
pub record IsCutShort (line : Damage → List ℕ) (old new : DiskView) (sink sink_now : SinkView) (ending : Uninspected) : Type 0 where
  pub slots : ℕ
  pub sized : IsSized (Shows old new) old.size slots
  pub halt : Halt
  pub ending_is : ending ≡ ended_by halt
  pub stops : StopsAmong line (image_found slots) old new sink sink_now halt

-- the format cell was refused, as an opening refuses it, and nothing was written
pub record IsRefused (line : Damage → List ℕ) (old new : DiskView) (sink sink_now : SinkView) (ending : Uninspected) : Type 0 where
  pub refusal : Refusal
  pub ending_is : ending ≡ Refused refusal
  pub cause : IsFormatRefusal (Shows old new) old.size refusal
  pub written : Written line [] sink sink_now

-- why a disk was not inspected to the end
abbrev pub IsUninspected : (Damage → List ℕ) → DiskView → DiskView → SinkView → SinkView → Uninspected → Type 0
IsUninspected line old new sink sink_now ending = IsRefused line old new sink sink_now ending ⊎ IsCutShort line old new sink sink_now ending
