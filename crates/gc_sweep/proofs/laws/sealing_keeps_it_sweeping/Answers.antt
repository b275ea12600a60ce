use Rattle.gc_sweep.proofs.Taken.{sealed_by_other}
use Rattle.gc_sweep.proofs.laws.sealing_keeps_it_sweeping.Goals as goal

pub returns : goal.returns
returns c = sealed_by_other
