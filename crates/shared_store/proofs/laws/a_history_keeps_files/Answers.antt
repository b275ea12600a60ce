use Rattle.store_model.specs.Collisions.{IsIn}
use Rattle.shared_store.specs.Histories.{MakesRight, file_actor}
use Rattle.shared_store.proofs.Legality.{are_file_calls, are_file_runs, ends_stand}
use Rattle.shared_store.proofs.Tellings.{are_told}
use Rattle.shared_store.proofs.laws.a_history_keeps_files.Goals as goal

pub returns-clause-runs : goal.returns-clause-runs
returns-clause-runs g c = are_file_runs g.C.HasState.state c.a_core_runs_on.ensures c.a_core_is_the_machine_of_files.ensures.runs

pub returns-clause-calls : goal.returns-clause-calls
returns-clause-calls g c = are_file_calls g.C.HasState.state c.a_core_runs_on.ensures c.a_core_is_the_machine_of_files.ensures.runs

pub returns-clause-ends : goal.returns-clause-ends
returns-clause-ends g c = let laws = c.a_core_is_the_machine_of_files.ensures in
    ends_stand g.C.HasState.state c.a_core_runs_on.ensures laws.runs laws.stands _ g.D.Disk.view

pub returns-clause-told : goal.returns-clause-told
returns-clause-told g c = λ among. are_told (file_actor g.C.HasState.state) (MakesRight g.C.HasState.state (IsIn among))
