use Rattle.dd_disk.proofs.Stops.{Passes}
use Rattle.dd_disk.proofs.crash.reached.Given as goal

abbrev pub invariant-loop-i : goal.invariant-loop-i
invariant-loop-i l = Passes l.stop l.calls l.i
