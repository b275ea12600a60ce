use Rattle.store_core.proofs.Opened.{opened_runs}
use Rattle.store_core.proofs.running.Core.open.Goals as goal

pub returns-clause-running : goal.returns-clause-running
returns-clause-running g c = opened_runs _ g.D.Disk.view _ _ c.in-Ok.ensures.opened
