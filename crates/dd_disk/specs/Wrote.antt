-- Writes that no sync has ended yet: what reads give, and what a crash may leave of them.
use Rattle.std.specs.Prelude.{◌≡◌, ℕ, List, length}
use Rattle.base_model.specs.Bytes.{range}
use Rattle.base_model.specs.Known.{Known, KnownWith}
use Rattle.dd_disk.specs.View.{DiskView, IsLater, CrashLeaves, SteppedFrom}
use Rattle.dd_disk.specs.Ending.{Ending, Done, Refused, Unread, Broken, CountsFault}

-- Two lists of one length that have the same bytes in each range of which this holds: so many bytes from a place on.
pub record SameIn (outside : ℕ → ℕ → Type 0) (old new : List ℕ) : Type 0 where
  pub size : length new ≡ length old
  pub same : (at count : ℕ) → outside at count → range at count new ≡ range at count old

-- what reads give once all was written; of writes that failed it says nothing
abbrev pub Gives : (List ℕ → List ℕ → Type 0) → Ending → DiskView → DiskView → Type 0
Gives whole Done old new = Known old.content (λ given. KnownWith new.content (whole given))
Gives whole Refused old new = Unit {0}
Gives whole Unread old new = Unit {0}
Gives whole Broken old new = Unit {0}

-- At any moment a crash leaves an image from before, or a step from one. In the end reads give the whole, or a write failed.
pub record Wrote (step whole : List ℕ → List ℕ → Type 0) (ending : Ending) (old new : DiskView) : Type 0 where
  pub later : IsLater old new
  pub leaves : CrashLeaves (SteppedFrom step old) old new
  pub gives : Gives whole ending old new
  pub faults_are : CountsFault ending old.faults new.faults
