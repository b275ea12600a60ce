use Rattle.core_machine.proofs.Refined.{core_refines}
use Rattle.core_machine.proofs.RunsRefined.{runs_refine}
use Rattle.core_machine.proofs.a_core_is_the_machine.Goals as goal

pub returns-clause-steps : goal.returns-clause-steps
returns-clause-steps g c = core_refines _ g.C.HasState.state

pub returns-clause-runs : goal.returns-clause-runs
returns-clause-runs g c = runs_refine _ g.C.HasState.state
