use Rattle.std.proofs.Common.{◌≡◌, ◌≤◌, length, vec_capacity}
use Rattle.disk_format.specs.declared.numbers.TheConstants.{SLOT_BYTES}
use Rattle.container_log.proofs.ahead.add_slots.Given as goal

-- the slots before this one were read
abbrev pub invariant-loop-slot : goal.invariant-loop-slot
invariant-loop-slot g l = record {
  long : length l.bytes ≡ SLOT_BYTES;
  room : vec_capacity l.fn.entries ≤ vec_capacity l.entries;
}
