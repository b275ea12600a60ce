use Rattle.ingest_steps.proofs.Prelude.{◌≡◌, ◌≤◌, length, take}
use Rattle.std.specs.Prelude.{vec_capacity}
use Rattle.ingest_steps.specs.Offering.{WereHadIn, with_pins_of}
use Rattle.ingest_steps.proofs.pinning_all.pin_each.Given as goal

abbrev pub invariant-loop-i : goal.invariant-loop-i
invariant-loop-i l =
    (length l.hads.items ≡ l.i)
    × (length l.filled ≤ vec_capacity l.hads)
    × (l.pins ≡ with_pins_of (take l.i l.filled) l.fn.pins)
    × WereHadIn l.filled l.fn.pins l.hads.items
