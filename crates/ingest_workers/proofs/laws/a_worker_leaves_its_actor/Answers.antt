use Rattle.ingest_workers.proofs.Leaving.{workers_leave}
use Rattle.ingest_workers.proofs.laws.a_worker_leaves_its_actor.Goals as goal

pub returns : goal.returns
returns g c = workers_leave _ g.C.HasState.state
