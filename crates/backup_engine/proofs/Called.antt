-- A core that was opened over a disk, ran, and was closed.
use Rattle.backup_engine.proofs.Prelude.{◌≡◌, ℕ, refl, sym, subst, DiskView, IsDurable, Reads, Shows, slot_at, SameBefore, IsNew, CoreState, IsRunning}
use Rattle.dd_disk.specs.Ending.{Done}
use Rattle.store_state.specs.Settled.{IsSettled}

-- the disk as it was before the opening, and as the closing gave it back
pub record Called (C : Type 0) (state : C → CoreState) (v w : DiskView) (old new : C) : Type 0 where
  pub opened : IsNew (Shows v (state old).disk) v.size (state old)
  pub running : IsRunning (state old)
  pub durable : IsDurable (state old).disk
  pub first : Reads Done v (state old).disk
  pub last : Reads Done (state new).disk w
  pub clock : w.clock ≡ (state new).disk.clock

-- ---- what it leaves

module _ (C : Type 0) (state : C → CoreState) (v w : DiskView) (old new : C) (was : Called C state v w old new) where
  -- of a disk that tells its content each image is it
  pub settled : (slots : ℕ) → IsSettled slots (state old).disk
  settled slots bytes is c image = subst (SameBefore (slot_at slots) bytes) (sym (was.durable bytes is c image)) (record { size = refl; before = λ p n within. refl })
