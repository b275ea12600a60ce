use Rattle.gc_steps.proofs.FreshMarks.{unmarked_fresh}
use Rattle.gc_steps.proofs.laws.unmarking_undoes_marking.Goals as goal

pub returns : goal.returns
returns c = unmarked_fresh
