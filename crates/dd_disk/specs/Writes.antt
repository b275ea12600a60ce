-- What a call that writes does to the bytes.
use Rattle.std.specs.Prelude.{◌≡◌, ℕ, List, length, Option, Some, None}
use Rattle.base_model.specs.Bytes.{written}
use Rattle.base_model.specs.Known.{Known, KnownWith}
use Rattle.dd_disk.specs.View.{DiskView, IsLater, OnlyReads, IsDurable, CrashLeaves, SteppedFrom}
use Rattle.dd_disk.specs.Ending.{Ending, Done, Refused, Unread, Broken, CountsFault}

-- these bytes stand at this place, and all else is as it was
abbrev pub Puts : ℕ → List ℕ → List ℕ → List ℕ → Type 0
Puts at bytes old new = new ≡ written at bytes old

-- new is old with some n bytes at this place: what a write of n bytes leaves that may have been cut short
pub record Torn (at n : ℕ) (old new : List ℕ) : Type 0 where
  pub bytes : List ℕ
  pub count : length bytes ≡ n
  pub holds : Puts at bytes old new

-- R holds of two contents, or neither is told
abbrev pub Both : (List ℕ → List ℕ → Type 0) → Option (List ℕ) → Option (List ℕ) → Type 0
Both R None None = Unit {0}
Both R None (Some new) = ⊥
Both R (Some old) None = ⊥
Both R (Some old) (Some new) = R old new

-- what stands at the end
abbrev pub Written : (List ℕ → List ℕ → Type 0) → Ending → DiskView → DiskView → Type 0
Written whole Done old new = Known old.content (λ given. KnownWith new.content (whole given)) × IsDurable new
Written whole Refused old new = OnlyReads old new
Written whole Unread old new = OnlyReads old new
Written whole Broken old new = Unit {0}

-- The whole is written, and durable; or nothing was; or it broke. At any moment a crash leaves an image from before, or a
-- step from one, which may go by the content at the start.
pub record Writes (step : List ℕ → List ℕ → List ℕ → Type 0) (whole : List ℕ → List ℕ → Type 0) (ending : Ending)
    (old new : DiskView) : Type 0 where
  pub later : IsLater old new
  pub steps : Known old.content (λ given. CrashLeaves (SteppedFrom (step given) old) old new)
  pub written : Written whole ending old new
  pub faults_are : CountsFault ending old.faults new.faults
