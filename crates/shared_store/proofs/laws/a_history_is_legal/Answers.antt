use Rattle.shared_store.proofs.Legality.{are_root_calls, are_root_runs}
use Rattle.shared_store.proofs.laws.a_history_is_legal.Goals as goal

pub returns-clause-runs : goal.returns-clause-runs
returns-clause-runs g c = are_root_runs g.C.HasState.state c.a_core_runs_on.ensures c.a_core_is_the_machine.ensures.runs

pub returns-clause-calls : goal.returns-clause-calls
returns-clause-calls g c = let laws = c.a_core_is_the_machine.ensures in
    are_root_calls g.C.HasState.state c.a_core_runs_on.ensures laws.runs laws.steps
