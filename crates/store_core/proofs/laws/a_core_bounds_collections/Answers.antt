use Rattle.store_core.proofs.Bounded.{bounds_steps}
use Rattle.store_core.proofs.laws.a_core_bounds_collections.Goals as goal

pub returns : goal.returns
returns g c = bounds_steps _ g.C.HasState.state
