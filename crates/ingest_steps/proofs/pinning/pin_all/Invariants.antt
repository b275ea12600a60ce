use Rattle.ingest_steps.proofs.Prelude.{◌≡◌, ◌≤◌, length, take, IfSome, AllByRecursion, IsPin, WereHad, with_pins}
use Rattle.std.specs.Prelude.{vec_capacity}
use Rattle.ingest_steps.proofs.pinning.pin_all.Given as goal

abbrev pub invariant-loop-i : goal.invariant-loop-i
invariant-loop-i l =
    (length l.hads.items ≡ l.i)
    × (length l.filled.segments ≤ vec_capacity l.hads)
    × (l.pins ≡ with_pins l.filled.kind (take l.i l.filled.segments) l.fn.pins)
    × WereHad l.filled.kind l.filled.segments l.fn.pins l.hads.items
    × AllByRecursion (λ had. IfSome had IsPin) l.hads.items
