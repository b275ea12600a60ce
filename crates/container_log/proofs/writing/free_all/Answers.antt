use Rattle.container_log.proofs.Freeing.{writes_freed}
use Rattle.container_log.proofs.writing.free_all.Goals as goal

pub returns-in-Ok-clause-writes : goal.returns-in-Ok-clause-writes
returns-in-Ok-clause-writes g c = writes_freed c.args.slots.now _ _ _ c.requires c.in-Ok.ensures

pub returns-in-Err-clause-writes : goal.returns-in-Err-clause-writes
returns-in-Err-clause-writes g c = writes_freed c.args.slots.now _ _ _ c.requires c.in-Err.ensures
