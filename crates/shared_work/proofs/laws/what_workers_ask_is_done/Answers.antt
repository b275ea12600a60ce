use Rattle.shared_work.proofs.CompleteBeside.{collections_are_beside}
use Rattle.shared_work.proofs.CompleteRuns.{what_workers_ask_is_done}
use Rattle.shared_work.proofs.laws.what_workers_ask_is_done.Goals as goal

pub returns-clause-done : goal.returns-clause-done
returns-clause-done g c = let turns = c.an_actor_is_at_what_it_did.ensures in
    what_workers_ask_is_done g.C.HasState.state c.a_core_is_the_machine_of_files.ensures.steps c.a_core_runs_on.ensures turns.own turns.others
    c.done_jobs_have_names.ensures.stay c.what_jobs_ask_for_is_owed.ensures c.what_is_owed_is_right.ensures

pub returns-clause-beside : goal.returns-clause-beside
returns-clause-beside g c = collections_are_beside
