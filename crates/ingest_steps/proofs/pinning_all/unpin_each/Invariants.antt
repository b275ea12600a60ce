use Rattle.ingest_steps.proofs.Prelude.{◌≡◌, ◌-◌, length, take, PinMap}
use Rattle.ingest_steps.specs.Offering.{WereHadIn, with_pins_of}
use Rattle.ingest_steps.proofs.pinning_all.unpin_each.Given as goal

abbrev pub invariant-loop-back : goal.invariant-loop-back
invariant-loop-back l =
    (before : PinMap) → WereHadIn l.filled before l.hads → l.fn.pins ≡ with_pins_of (take (length l.hads) l.filled) before
    → l.pins ≡ with_pins_of (take (length l.hads - l.back) l.filled) before
