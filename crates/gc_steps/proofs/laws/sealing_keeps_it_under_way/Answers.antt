use Rattle.gc_steps.proofs.Sealed.{sealed}
use Rattle.gc_steps.proofs.laws.sealing_keeps_it_under_way.Goals as goal

pub returns : goal.returns
returns c = sealed
