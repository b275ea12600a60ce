use Rattle.shared_work.proofs.Leaving.{works_leave_files}
use Rattle.shared_work.proofs.laws.a_work_leaves_its_files.Goals as goal

pub returns : goal.returns
returns g c = works_leave_files g.C.HasState.state c.a_core_is_the_machine_of_files.ensures.runs c.work_leaves_streams.ensures
    c.what_jobs_ask_for_is_owed.ensures c.done_jobs_have_names.ensures.names
