-- How what reads of a disk show is counted and handed on.
use Rattle.std.specs.Prelude.{◌≡◌, ℕ, ◌+◌, ◌-◌, ◌^◌, ◌≤◌, min, List, ◌++◌, length}
use Rattle.std.specs.List.{flat_map}
use Rattle.base_model.specs.Fault.{Rose}
use Rattle.base_model.specs.Known.{Appended}
use Rattle.dd_disk.specs.Ending.{Blame, NoCall, ReadCall}
use Rattle.dd_disk.specs.Shows.{Shows}
use Rattle.dd_disk.specs.View.{DiskView}
use Rattle.dd_io.specs.Flow.{SinkView, AppendedPart}
use Rattle.inspection.specs.declared.damage.Damage.{Damage}
use Rattle.inspection.specs.declared.halt.Halt.{Halt}
use Rattle.inspection.specs.declared.halt.Halt.TheVariants.{DiskRead, Untaken}
use Rattle.inspection.specs.declared.tally.Tally.{Tally}
use Rattle.inspection.specs.Found.{Found, and_then}

-- which call of the disk a halt blames
abbrev pub blames : Halt → Blame
blames DiskRead = ReadCall
blames _ = NoCall

-- a count rose by so many, up to its type's end
abbrev pub Rises : ℕ → ℕ → ℕ → Type 0
Rises more old new = old ≤ 2 ^ 64 - 1 → new ≡ min (old + more) (2 ^ 64 - 1)

-- this much was counted
pub record Counts (found : Found) (old new : Tally) : Type 0 where
  pub cells : Rises found.cells old.cells new.cells
  pub copies : Rises found.copies old.copies new.copies
  pub bad : Rises (length found.damages) old.bad new.bad

-- the damages were written one after the other, each as it is spelled
pub record Written (line : Damage → List ℕ) (damages : List Damage) (old new : SinkView) : Type 0 where
  pub bytes : Appended old.written new.written (flat_map line damages)
  pub no_fault : new.faults ≡ old.faults

-- the damages before the last were written, and a first part of it
pub record PartlyWritten (line : Damage → List ℕ) (damages : List Damage) (old new : SinkView) : Type 0 where
  pub bytes : AppendedPart old.written new.written (flat_map line damages)
  pub fault : Rose old.faults new.faults

-- these damages were found before a halt, and written
abbrev pub WrittenUntil : Halt → (Damage → List ℕ) → List Damage → SinkView → SinkView → Type 0
WrittenUntil Untaken line damages old new = PartlyWritten line damages old new
WrittenUntil halt line damages old new = Written line damages old new

-- this much was counted, and its damages were written
pub record Reports (line : Damage → List ℕ) (found : Found) (old new : SinkView) (tally tally_now : Tally) : Type 0 where
  pub counts : Counts found tally tally_now
  pub written : Written line found.damages old new

-- Reads showed how much of what there is to find comes before the rest, and that was reported, from this sink and tally on.
pub record Finds (line : Damage → List ℕ) (all rest : List ℕ → Found) (old new : DiskView) (so_far now : SinkView × Tally) : Type 0 where
  pub found : Found
  pub shown : Shows old new (λ image. all image ≡ and_then found (rest image))
  pub reports : Reports line found so_far.0 now.0 so_far.1 now.1

-- a list begins with these
abbrev pub Begins : List Damage → List Damage → Type 0
Begins front whole = (rest : List Damage) × (whole ≡ front ++ rest)

-- It came to a halt as this was reported: the first of its damages were written.
pub record Stops (line : Damage → List ℕ) (found : Found) (old new : SinkView) (halt : Halt) : Type 0 where
  pub damages : List Damage
  pub first : Begins damages found.damages
  pub written : WrittenUntil halt line damages old new

-- It came to a halt: reads showed the first of the damages that there are, and these were written.
pub record StopsAmong (line : Damage → List ℕ) (all : List ℕ → Found) (old new : DiskView) (sink sink_now : SinkView) (halt : Halt) : Type
    0 where
  pub damages : List Damage
  pub shown : Shows old new (λ image. Begins damages (all image).damages)
  pub written : WrittenUntil halt line damages sink sink_now
