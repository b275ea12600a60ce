-- What a `check` promises, whatever disk, source, sink and notes it is given (docs/FORMAT.md, 'Check'). It opens no store: it reads, and
-- writes what it finds.
use Rattle.std.specs.Prelude.{◌≡◌, ◌⊎◌, ℕ, List, [], ◌∷◌, ◌++◌, Option, Some, None, Result, Ok, Err}
use Rattle.std.specs.List.{flat_map}
use Rattle.base_model.specs.Known.{Known}
use Rattle.dd_disk.specs.Ending.{Reads}
use Rattle.dd_disk.specs.Shows.{Shows}
use Rattle.dd_disk.specs.View.{DiskView}
use Rattle.dd_io.specs.Flow.{SinkView}
use Rattle.inspection.specs.Found.{Found}
use Rattle.inspection.specs.Handing.{Counts}
use Rattle.inspection.specs.declared.damage.Damage.{Damage}
use Rattle.inspection.specs.declared.tally.Tally.{Tally}
use Rattle.recovery.specs.Inspecting.{AreCounted, IsUninspected, image_found, nothing_counted}
use Rattle.recovery.specs.Opening.{IsSized}
use Rattle.recovery.specs.declared.inspecting.Uninspected.TheVariants as uninspected
use Rattle.refusals.specs.declared.refusal.Refusal.TheVariants.{Memory}
use Rattle.reply_text.specs.declared.ending.Ending.{Ending}
use Rattle.reply_text.specs.declared.ending.Ending.TheVariants.{Refused, Sink}
use Rattle.reply_text.specs.Table.{status_of}
use Rattle.reply_text.specs.Text.{checked_line, damage_line}
use Rattle.script_runner.specs.Runner.{Sent}
use Rattle.backup_engine.specs.AnyDisk.{disk_ending}
use Rattle.backup_engine.specs.Noted.{AreNoted}
use Rattle.backup_engine.specs.Seen.{Seen}

-- 0 where nothing breaks the format, and else 7
abbrev pub status_of_damages : List Damage → ℕ
status_of_damages [] = 0
status_of_damages (first ∷ more) = 7

-- a line for each damage, in their order, and then how much there is
abbrev pub check_text : List Damage → Tally → List ℕ
check_text damages tally = flat_map damage_line damages ++ checked_line tally.cells tally.copies tally.bad

-- Reads showed all that is to be found on the disk, and it was counted. Where the disk tells its content, it is what is to be found there,
-- and the counts are exact; where it doesn't, one might stand at its type's end.
pub record ShowsAll (found : Found) (tally : Tally) (disk disk_now : DiskView) : Type 0 where
  pub slots : ℕ
  pub sized : IsSized (Shows disk disk_now) disk.size slots
  pub shown : Shows disk disk_now (λ image. image_found slots image ≡ found)
  pub counts : Counts found nothing_counted tally
  pub exact : Known disk.content (λ image. (image_found slots image ≡ found) × AreCounted found tally)

-- All was found, and all of it was written, or a first part, where the sink failed.
pub record SaysAll (found : Found) (sent : Result Unit Ending) (disk disk_now : DiskView) (sink sink_now : SinkView) : Type 0 where
  pub tally : Tally
  pub all : ShowsAll found tally disk disk_now
  pub wrote : Sent (check_text found.damages tally) sent sink sink_now

-- How it ended: with a status, at its end; or why not. It is refused as the format cell is, where nothing was written, or cut short by
-- memory or a read, after the lines so far, or by the sink, which has a first part of them.
abbrev pub Checks : Result ℕ Ending → DiskView → DiskView → SinkView → SinkView → Type 0
Checks (Ok status) disk disk_now sink sink_now =
    (found : Found) × (SaysAll found (Ok tt) disk disk_now sink sink_now × (status ≡ status_of_damages found.damages))
Checks (Err (Refused refusal)) disk disk_now sink sink_now =
    IsUninspected damage_line disk disk_now sink sink_now (uninspected.Refused refusal)
Checks (Err Sink) disk disk_now sink sink_now =
    IsUninspected damage_line disk disk_now sink sink_now uninspected.Untaken
    ⊎ ((found : Found) × SaysAll found (Err Sink) disk disk_now sink sink_now)
Checks (Err ending) disk disk_now sink sink_now = ⊥

-- why it came to no end
abbrev pub cause_in : Result ℕ Ending → Option Ending
cause_in (Ok status) = None
cause_in (Err ending) = Some ending

abbrev pub check_status : Result ℕ Ending → ℕ
check_status (Ok status) = status
check_status (Err ending) = status_of ending

-- there was no memory to read the words by: nothing was begun
abbrev pub IsUnbegun : Result ℕ Ending → SinkView → SinkView → Type 0
IsUnbegun ended sink sink_now = (ended ≡ Err (Refused Memory)) × (sink_now ≡ sink)

-- Damage has no note: its lines are the answer. The disk's content, and what a crash leaves of it, stay at each moment, and of the source
-- nothing is taken.
pub record ChecksDisk (status : ℕ) (saw : Seen) : Type 0 where
  pub ended : Result ℕ Ending
  pub status_is : status ≡ check_status ended
  pub noted : AreNoted saw.notes saw.notes_now (cause_in ended)
  pub checks : Checks ended saw.disk saw.disk_now saw.sink saw.sink_now ⊎ IsUnbegun ended saw.sink saw.sink_now
  pub reads : Reads (disk_ending (cause_in ended)) saw.disk saw.disk_now
  pub source_is : saw.source_now ≡ saw.source
