use Rattle.shared_work.proofs.PinningRuns.{none_lacks_pin}
use Rattle.shared_work.proofs.laws.nothing_lacks_a_pin.Goals as goal

pub returns : goal.returns
returns g c = none_lacks_pin g.C.HasState.state c.a_core_is_the_machine_of_files.ensures.steps c.a_core_runs_on.ensures c.an_actor_is_at_what_it_did.ensures.others
    c.what_is_owed_is_right.ensures
