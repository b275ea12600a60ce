use Rattle.ingest_steps.proofs.Prelude.{◌≡◌, ◌-◌, length, take, PinMap, WereHad, with_pins}
use Rattle.ingest_steps.proofs.pinning.unpin.Given as goal

abbrev pub invariant-loop-back : goal.invariant-loop-back
invariant-loop-back l =
    (before : PinMap) → WereHad l.filled.kind l.filled.segments before l.hads
    → l.fn.pins ≡ with_pins l.filled.kind (take (length l.hads) l.filled.segments) before
    → l.pins ≡ with_pins l.filled.kind (take (length l.hads - l.back) l.filled.segments) before
