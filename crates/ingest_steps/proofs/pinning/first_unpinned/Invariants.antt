use Rattle.ingest_steps.proofs.Prelude.{◌≡◌, first_unpinned_of}
use Rattle.std.proofs.Common.{drop}
use Rattle.ingest_steps.proofs.pinning.first_unpinned.Given as goal

abbrev pub invariant-loop-i : goal.invariant-loop-i
invariant-loop-i l = first_unpinned_of l.filled.kind l.filled.segments l.pins ≡ first_unpinned_of l.filled.kind (drop l.i l.filled.segments) l.pins
