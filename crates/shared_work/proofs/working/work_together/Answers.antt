use Rattle.std.proofs.Common.{List, Option, ap, sym, subst, ◌∙◌}
use Rattle.std.specs.Prelude.{option_map}
use Rattle.ingest_workers.specs.declared.job.JobEnd.{JobEnd}
use Rattle.shared_work.specs.Freed.{IsOpening}
use Rattle.shared_work.specs.Working.{WorksBeside}
use Rattle.shared_work.proofs.Beside.{nothing_done, worked_beside}
use Rattle.shared_work.proofs.working.work_together.Goals as goal

pub returns-in_default-clause-works : goal.returns-in_default-clause-works
returns-in_default-clause-works g c =
    let ended : Option (List JobEnd) = option_map (λ v. v.items) c.undone.result.ends in
    nothing_done g.C.HasState.state c.args.count c.args.percent c.args.jobs.now ended c.undone.result.collected c.args.core c.undone.result.core c.undone.ensures.core
    (ap (λ e. option_map (λ v. v.items) e) c.undone.ensures.ends) c.undone.ensures.collected

pub returns-in-Err-clause-works : goal.returns-in-Err-clause-works
returns-in-Err-clause-works g c =
    let ended : Option (List JobEnd) = option_map (λ v. v.items) c.undone-in-Err.result.ends in
    nothing_done g.C.HasState.state c.args.count c.args.percent c.args.jobs.now ended c.undone-in-Err.result.collected c.args.core c.undone-in-Err.result.core
    (c.undone-in-Err.ensures.core ∙ c.in-Err.ensures.refused) (ap (λ e. option_map (λ v. v.items) e) c.undone-in-Err.ensures.ends) c.undone-in-Err.ensures.collected

pub work_over-ended-requires-clause-opening : goal.work_over-ended-requires-clause-opening
work_over-ended-requires-clause-opening g c κs within =
    subst (IsOpening g.C.HasState.state) (sym c.of-about.ensures) c.requires.opening

pub returns-clause-works : goal.returns-clause-works
returns-clause-works g c =
    let state = g.C.HasState.state in
    let ended : Option (List JobEnd) = option_map (λ v. v.items) c.work_over-ended.result.ends in
    let told = c.a_history_is_what_was_asked.ensures in
    subst (λ o. WorksBeside state c.args.count c.args.percent c.args.jobs.now ended c.work_over-ended.result.collected o c.core_of.result) c.of-about.ensures
    (worked_beside state told.none told.stays told.told told.steps c.of-about.result.value c.args.count c.args.percent c.args.jobs.now ended
    c.work_over-ended.result.collected c.work_over-ended.result.pass c.core_of.result c.requires.count.1 c.work_over-ended.ensures.worked c.core_of.ensures.ended)
