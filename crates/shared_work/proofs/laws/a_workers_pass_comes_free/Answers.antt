use Rattle.shared_work.proofs.Freed.{first_is_fresh, split_is_fresh, split_stays_fresh, stores_stay, workers_come_free}
use Rattle.shared_work.proofs.laws.a_workers_pass_comes_free.Goals as goal

pub returns-clause-first : goal.returns-clause-first
returns-clause-first g c = first_is_fresh g.C.HasState.state

pub returns-clause-split : goal.returns-clause-split
returns-clause-split g c = split_is_fresh g.C.HasState.state

pub returns-clause-stays : goal.returns-clause-stays
returns-clause-stays g c = split_stays_fresh g.C.HasState.state

pub returns-clause-store : goal.returns-clause-store
returns-clause-store g c = stores_stay g.C.HasState.state

pub returns-clause-free : goal.returns-clause-free
returns-clause-free g c = let told = c.a_history_is_what_was_asked.ensures in
    workers_come_free g.C.HasState.state c.a_core_runs_on.ensures c.a_core_is_the_machine.ensures.steps c.a_worker_leaves_its_actor.ensures told.asked told.none told.steps
