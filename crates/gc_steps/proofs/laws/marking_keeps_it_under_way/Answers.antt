use Rattle.gc_steps.proofs.UnderWay.{live_on}
use Rattle.gc_steps.proofs.laws.marking_keeps_it_under_way.Goals as goal

pub returns : goal.returns
returns c = live_on
