-- How a call ended, as far as the disk goes.
use Rattle.std.specs.Prelude.{◌≡◌, ℕ, Bool, IsTrue, Result, Ok, Err}
use Rattle.base_model.specs.Fault.{Rose}
use Rattle.dd_disk.specs.View.{DiskView, OnlyReads}

-- what an error blames: no call of the disk, a read, or a write or a sync
pub data Blame : Type 0 where
  NoCall : Blame
  ReadCall : Blame
  WriteCall : Blame

pub data Ending : Type 0 where
  Done : Ending
  -- for a reason other than a call of the disk that failed
  Refused : Ending
  -- a read failed, and nothing was written
  Unread : Ending
  -- a write or a sync failed
  Broken : Ending

abbrev pub ending_of : Blame → Ending
ending_of NoCall = Refused
ending_of ReadCall = Unread
ending_of WriteCall = Broken

-- by what errors blame
abbrev pub ending : {T E : Type 0} → (E → Blame) → Result T E → Ending
ending blames (Ok x) = Done
ending blames (Err e) = ending_of (blames e)

-- The count of faults rises where a call of the disk failed, and stays as it was else.
abbrev pub CountsFault : Ending → ℕ → ℕ → Type 0
CountsFault Done before now = now ≡ before
CountsFault Refused before now = now ≡ before
CountsFault Unread before now = Rose before now
CountsFault Broken before now = Rose before now

-- Calls that only read, or sync, and how they ended.
pub record Reads (ending : Ending) (old new : DiskView) : Type 0 where
  pub only : OnlyReads old new
  pub faults_are : CountsFault ending old.faults new.faults

-- The answer has P, unless memory or the disk failed; `fails` says of which errors that is so.
abbrev pub UnlessFailed : {T E : Type 0} → (E → Bool) → (T → Type 0) → Result T E → Type 0
UnlessFailed fails P (Ok x) = P x
UnlessFailed fails P (Err e) = IsTrue (fails e)
