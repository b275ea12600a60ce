use Rattle.shared_work.proofs.ClashingRuns.{none_clashes}
use Rattle.shared_work.proofs.laws.nothing_clashes.Goals as goal

pub returns : goal.returns
returns g c = none_clashes g.C.HasState.state c.a_core_is_the_machine_of_files.ensures.steps c.a_core_runs_on.ensures c.what_is_owed_is_right.ensures
