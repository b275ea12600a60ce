use Rattle.std.proofs.Common.{◌<◌, ℕ, List, Option, map, get_or, sym, ap, subst, ◌∙◌}
use Rattle.std.specs.Prelude.{option_map}
use Rattle.shared_store.specs.Passes.{PassValue}
use Rattle.ingest_workers.specs.declared.job.JobEnd.{JobEnd}
use Rattle.shared_work.specs.Working.{IsNew, JoinsAll}
use Rattle.shared_work.proofs.Beside.{all_did, did_free, did_stay, has_worked}
use Rattle.shared_work.proofs.Taking.{Asked, joined_store}
use Rattle.shared_work.proofs.working.work_over.Goals as goal

pub take_in_all-requires-clause-pass : goal.take_in_all-requires-clause-pass
take_in_all-requires-clause-pass g c =
    let collected = c.do_beside-collected.ensures.collected in
    ap (λ (p : PassValue g.row.C.Denot). p.store) c.into_pass-pass.ensures
    ∙ c.a_workers_pass_comes_free.ensures.store collected.0 c.new-collector.result c.do_beside-collected.result.0.caller collected.1
    ∙ ap (λ (p : PassValue g.row.C.Denot). p.store) c.new-collector.ensures.pass
    ∙ c.split_all.ensures.pass.store_is

pub take_in_all-requires-clause-stores : goal.take_in_all-requires-clause-stores
take_in_all-requires-clause-stores g c = λ k d below.
    let state = g.C.HasState.state in
    let o = c.args.core.now.value in
    let store = c.args.store.now in
    let count = c.args.task.now.count in
    let jobs = c.args.task.now.jobs.now in
    let ended : Option (List JobEnd) = option_map (λ v. v.items) c.do_beside-collected.result.1.ends in
    let callers = c.do_beside-collected.result.1.callers.items in
    let did = all_did state o store count jobs ended c.split_all.new.callers.items callers c.split_all.ensures.many c.split_all.ensures.each c.do_beside-collected.ensures.jobs in
    did_stay state o store count jobs c.a_workers_pass_comes_free.ensures.store ended k (get_or callers k d) (did.1 k d (subst (λ (n : ℕ). k < n) did.0 below))

pub take_in_all-requires-clause-free : goal.take_in_all-requires-clause-free
take_in_all-requires-clause-free g c = λ k d below.
    let state = g.C.HasState.state in
    let o = c.args.core.now.value in
    let store = c.args.store.now in
    let count = c.args.task.now.count in
    let jobs = c.args.task.now.jobs.now in
    let ended : Option (List JobEnd) = option_map (λ v. v.items) c.do_beside-collected.result.1.ends in
    let callers = c.do_beside-collected.result.1.callers.items in
    let did = all_did state o store count jobs ended c.split_all.new.callers.items callers c.split_all.ensures.many c.split_all.ensures.each c.do_beside-collected.ensures.jobs in
    did_free state o store count jobs c.requires.opening c.a_workers_pass_comes_free.ensures.free ended k (get_or callers k d)
    (did.1 k d (subst (λ (n : ℕ). k < n) did.0 below))

pub returns-clause-worked : goal.returns-clause-worked
returns-clause-worked g c =
    let state = g.C.HasState.state in
    let o = c.args.core.now.value in
    let store = c.args.store.now in
    let count = c.args.task.now.count in
    let jobs = c.args.task.now.jobs.now in
    let ended : Option (List JobEnd) = option_map (λ v. v.items) c.do_beside-collected.result.1.ends in
    let callers = c.do_beside-collected.result.1.callers.items in
    let collector = c.do_beside-collected.result.0.caller in
    let collected = c.do_beside-collected.ensures.collected in
    let pass = c.take_in_all.new.pass in
    let told = c.a_history_is_what_was_asked.ensures in
    let did = all_did state o store count jobs ended c.split_all.new.callers.items callers c.split_all.ensures.many c.split_all.ensures.each c.do_beside-collected.ensures.jobs in
    let began : IsNew state o store 0 c.new-collector.result.0 = subst (IsNew state o store 0) (sym c.new-collector.ensures.pass) c.split_all.ensures.pass in
    let asked : Asked state o store 0 collected.0 collector = record { start = c.new-collector.result; began = began; asked = collected.1 } in
    let joins = subst (λ (p : PassValue g.row.C.Denot). JoinsAll state p (map (λ x. x.0) callers) pass) c.into_pass-pass.ensures c.take_in_all.ensures in
    has_worked state o store told.asked told.none told.stays count c.args.task.now.percent jobs ended c.do_beside-collected.result.0.result collector callers pass collected.0 asked
    collected.2 did.0 did.1 joins

pub returns-clause-store : goal.returns-clause-store
returns-clause-store g c =
    let collected = c.do_beside-collected.ensures.collected in
    joined_store g.C.HasState.state (map (λ x. x.0) c.do_beside-collected.result.1.callers.items) c.into_pass-pass.result c.take_in_all.new.pass c.take_in_all.ensures
    ∙ ap (λ (p : PassValue g.row.C.Denot). p.store) c.into_pass-pass.ensures
    ∙ c.a_workers_pass_comes_free.ensures.store collected.0 c.new-collector.result c.do_beside-collected.result.0.caller collected.1
    ∙ ap (λ (p : PassValue g.row.C.Denot). p.store) c.new-collector.ensures.pass
    ∙ c.split_all.ensures.pass.store_is
