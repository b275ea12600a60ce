-- What an index does to the disk that it is lent (docs/MODEL.md, 'The index').
use Rattle.std.specs.Prelude.{◌≡◌, ℕ, ◌+◌, ◌≤◌, List, length}
use Rattle.base_model.specs.Bytes.{range}
use Rattle.dd_disk.specs.View.{DiskView, IsLater, CrashLeaves, SteppedFrom}
use Rattle.dd_disk.specs.Ending.{Ending, CountsFault}
use Rattle.dd_disk.specs.Writes.{Both}

-- as many bytes, and the same ones before this place
pub record SameBefore (place : ℕ) (old new : List ℕ) : Type 0 where
  pub size : length new ≡ length old
  pub before : (p n : ℕ) → p + n ≤ place → range p n new ≡ range p n old

-- as many bytes, and the same ones from this place on
pub record SameFrom (place : ℕ) (old new : List ℕ) : Type 0 where
  pub size : length new ≡ length old
  pub after : (p n : ℕ) → place ≤ p → range p n new ≡ range p n old

-- A change of an index, and how it ended. No byte before its own changes, neither in what reads give nor in an image that a
-- crash may leave, at the end and at each moment between.
pub record Changes (owned_from : ℕ) (ending : Ending) (old new : DiskView) : Type 0 where
  pub later : IsLater old new
  pub content_is : Both (SameBefore owned_from) old.content new.content
  pub leaves : CrashLeaves (SteppedFrom (SameBefore owned_from) old) old new
  pub faults_are : CountsFault ending old.faults new.faults
