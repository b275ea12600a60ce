use Rattle.shared_work.proofs.RootWork.{works_are_runs}
use Rattle.shared_work.proofs.laws.a_work_is_a_run.Goals as goal

pub returns : goal.returns
returns g c = works_are_runs g.C.HasState.state c.a_core_runs_on.ensures c.a_core_is_the_machine.ensures.steps c.a_core_is_the_machine.ensures.runs
