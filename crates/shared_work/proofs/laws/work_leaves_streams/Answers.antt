use Rattle.shared_work.proofs.Streaming.{work_leaves_streams}
use Rattle.shared_work.proofs.laws.work_leaves_streams.Goals as goal

pub returns : goal.returns
returns g c = work_leaves_streams g.C.HasState.state c.what_is_owed_is_right.ensures c.a_core_is_the_machine_of_files.ensures.runs
    c.the_names_are_the_book.ensures.files c.done_jobs_have_names.ensures.stay
