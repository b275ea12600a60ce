-- What of a disk counts for a running store: all before the end of its container slots. After them an index may keep its
-- own bytes, which count for nothing and may be unsynced (docs/MODEL.md, 'The running store').
use Rattle.std.specs.Prelude.{ℕ, List}
use Rattle.base_model.specs.Known.{Known}
use Rattle.disk_format.specs.Layout.{slot_at}
use Rattle.dd_disk.specs.View.{DiskView, IsLater, CrashLeaves, SteppedFrom}
use Rattle.dd_disk.specs.Ending.{Ending, Done, Refused, Unread, Broken, CountsFault}
use Rattle.dd_disk.specs.Writes.{Both}
use Rattle.segment_index.specs.Changes.{SameBefore}

-- where the content is told, a crash leaves what counts of it
abbrev pub IsSettled : ℕ → DiskView → Type 0
IsSettled slots v = Known v.content (λ bytes. (c : List ℕ) → v.images c → SameBefore (slot_at slots) bytes c)

-- what counts is as it was, in what reads give and in what a crash leaves, at each moment between too
pub record KeepsWhatCounts (slots : ℕ) (old new : DiskView) : Type 0 where
  pub content_is : Both (SameBefore (slot_at slots)) old.content new.content
  pub leaves : CrashLeaves (SteppedFrom (SameBefore (slot_at slots)) old) old new

abbrev pub Left : ℕ → Ending → DiskView → DiskView → Type 0
Left slots Done old new = IsSettled slots old → IsSettled slots new
Left slots Refused old new = KeepsWhatCounts slots old new
Left slots Unread old new = KeepsWhatCounts slots old new
Left slots Broken old new = Unit {0}

-- A step of a running store: what is refused leaves what counts as it was, and what was settled is settled again.
pub record Steps (slots : ℕ) (ending : Ending) (old new : DiskView) : Type 0 where
  pub later : IsLater old new
  pub left : Left slots ending old new
  pub faults_are : CountsFault ending old.faults new.faults
