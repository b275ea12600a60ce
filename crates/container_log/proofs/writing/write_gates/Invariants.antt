use Rattle.dd_disk.specs.Ending.{Done}
use Rattle.dd_disk.specs.Wrote.{SameIn, Wrote}
use Rattle.container_log.specs.Many.{NoGate, HaveGates}
use Rattle.container_log.proofs.writing.write_gates.Given as goal

abbrev pub invariant-loop-index : goal.invariant-loop-index
invariant-loop-index g l = record {
  wrote : Wrote (SameIn (NoGate l.slots)) (HaveGates l.gate l.index l.slots) Done (g.D.Disk.view l.fn.disk) (g.D.Disk.view l.disk);
}
