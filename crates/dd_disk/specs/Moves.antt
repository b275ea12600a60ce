-- What a call that writes does to what the disk stands for.
use Rattle.std.specs.Prelude.{◌≡◌, ◌⊎◌, ℕ, List, Some}
use Rattle.dd_disk.specs.View.{DiskView, IsLater, OnlyReads, IsDurable, CrashLeaves}
use Rattle.dd_disk.specs.Ending.{Ending, Done, Refused, Unread, Broken, CountsFault}

-- The disk tells its content, and each image has P; so the content has it too.
pub record StandsFor (P : List ℕ → Type 0) (v : DiskView) : Type 0 where
  pub known : (bytes : List ℕ) × (v.content ≡ Some bytes)
  pub each : (c : List ℕ) → v.images c → P c

-- what images stand for, on the way of a call
pub record Way : Type 1 where
  pub before : List ℕ → Type 0
  -- at any moment, and where a write broke
  pub between : List ℕ → Type 0
  -- where it was refused after its first write
  pub rest : List ℕ → Type 0
  pub after : List ℕ → Type 0

-- In one step; what is refused is refused before the first write.
abbrev pub step : (List ℕ → Type 0) → (List ℕ → Type 0) → (List ℕ → Type 0) → Way
step before between after = record { before = before; between = between; rest = λ _. ⊥; after = after }

abbrev pub one_step : (List ℕ → Type 0) → (List ℕ → Type 0) → Way
one_step P Q = step P (λ c. P c ⊎ Q c) Q

abbrev pub Arrives : Way → Ending → DiskView → DiskView → Type 0
Arrives way Done old new = StandsFor way.after new
Arrives way Refused old new = OnlyReads old new ⊎ StandsFor way.rest new
Arrives way Unread old new = OnlyReads old new ⊎ StandsFor way.rest new
Arrives way Broken old new = StandsFor way.between new

pub record Moved (way : Way) (ending : Ending) (old new : DiskView) : Type 0 where
  pub leaves : CrashLeaves way.between old new
  pub arrives : Arrives way ending old new

-- a disk that stands for what is before goes this way
abbrev pub Moves : Way → Ending → DiskView → DiskView → Type 0
Moves way ending old new = StandsFor way.before old → Moved way ending old new

-- how calls ended, whatever the disk stands for
abbrev pub Ends : (DiskView → DiskView → Type 0) → Ending → DiskView → DiskView → Type 0
Ends refused Done old new = IsDurable old → IsDurable new
Ends refused Refused old new = refused old new
Ends refused Unread old new = refused old new
Ends refused Broken old new = Unit {0}

-- one step: what is refused is refused before the first write
pub record Acts (ending : Ending) (old new : DiskView) : Type 0 where
  pub later : IsLater old new
  pub ends : Ends OnlyReads ending old new
  pub faults_are : CountsFault ending old.faults new.faults
