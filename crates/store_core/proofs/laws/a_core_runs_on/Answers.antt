use Rattle.store_core.proofs.RunningOn.{runs_on}
use Rattle.store_core.proofs.laws.a_core_runs_on.Goals as goal

pub returns : goal.returns
returns g c = runs_on _ g.C.HasState.state
