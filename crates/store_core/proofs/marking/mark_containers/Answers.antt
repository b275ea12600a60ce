use Rattle.store_core.proofs.Prelude.{◌∙◌}
use Rattle.store_core.proofs.Marks.{contains_same, marks_all, marks_kept, marks_same, restores_ok}
use Rattle.store_core.proofs.marking.mark_containers.Goals as goal

pub returns-in_err-keys-in-Some-clause-kept : goal.returns-in_err-keys-in-Some-clause-kept
returns-in_err-keys-in-Some-clause-kept c = marks_same c.from_residual.result c.args.collection.now c.in-Some.running c.in-Some.is

pub returns-in_ok-keys-in-Some-clause-marks : goal.returns-in_ok-keys-in-Some-clause-marks
returns-in_ok-keys-in-Some-clause-marks c =
    marks_all c.args.collection.now c.in-Some.running c.mark_fresh.new.collection c.in-Some.is c.mark_fresh.ensures.others c.deref.result.now c.mark_fresh.result _
    (λ k. contains_same c.deref.result.now _ (c.deref.ensures.value ∙ c.in_ok-keys-in-Some.ensures) k) c.mark_fresh.ensures.ok

pub returns-in_ok-keys-in-Some-clause-fresh : goal.returns-in_ok-keys-in-Some-clause-fresh
returns-in_ok-keys-in-Some-clause-fresh c =
    restores_ok c.args.collection.now c.in-Some.running c.mark_fresh.new.collection c.in-Some.is c.mark_fresh.ensures.others c.deref.result.now c.mark_fresh.result
    (λ fresh. fresh.items) c.mark_fresh.ensures.ok c.mark_fresh.ensures.fresh

pub returns-in_ok-keys-in-Some-clause-kept : goal.returns-in_ok-keys-in-Some-clause-kept
returns-in_ok-keys-in-Some-clause-kept c = marks_kept c.args.collection.now c.in-Some.running c.mark_fresh.new.collection c.in-Some.is c.mark_fresh.ensures.others
    c.mark_fresh.result c.mark_fresh.ensures.kept
