use Rattle.shared_work.proofs.Completing.{works_are_complete}
use Rattle.shared_work.proofs.laws.a_work_is_complete.Goals as goal

pub returns : goal.returns
returns g c = works_are_complete g.C.HasState.state c.a_core_is_the_machine_of_files.ensures.steps c.a_core_runs_on.ensures c.what_is_owed_is_right.ensures
    c.what_workers_ask_is_done.ensures.done c.nothing_clashes.ensures c.nothing_lacks_a_pin.ensures c.what_jobs_ask_for_is_owed.ensures
