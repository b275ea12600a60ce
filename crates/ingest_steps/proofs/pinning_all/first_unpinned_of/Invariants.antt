use Rattle.ingest_steps.proofs.Prelude.{◌≡◌}
use Rattle.std.proofs.Common.{drop}
use Rattle.ingest_steps.specs.Offering.{first_unpinned_in}
use Rattle.ingest_steps.proofs.pinning_all.first_unpinned_of.Given as goal

abbrev pub invariant-loop-i : goal.invariant-loop-i
invariant-loop-i l = first_unpinned_in l.filled l.pins ≡ first_unpinned_in (drop l.i l.filled) l.pins
