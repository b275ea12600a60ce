-- The laws of an index in memory.
use Rattle.std.specs.Prelude.{ℕ, ◌≤◌}
use Rattle.std.proofs.Common.{arith}
use Rattle.disk_format.specs.Layout.{size_of, slot_at}

-- the slots of a disk end before the disk does
pub slots_end : (slots : ℕ) → slot_at slots ≤ size_of slots
slots_end slots = omega arith
