use Rattle.gc_steps.proofs.NoNearer.{as_many}
use Rattle.gc_steps.proofs.laws.sealing_brings_no_steps.Goals as goal

pub returns : goal.returns
returns c = as_many
