use Rattle.gc_sweep.proofs.Prelude.{take}
use Rattle.gc_sweep.proofs.Released.{HoldsFewer}
use Rattle.gc_sweep.proofs.giving_back.take_closed.Given as goal

-- the first slots were closed
abbrev pub invariant-loop-index : goal.invariant-loop-index
invariant-loop-index l = record {
  fewer : HoldsFewer l.fn.tables (take l.index l.slots) l.tables;
}
