use Rattle.store_core.proofs.Prelude.{[], ◌∷◌}
use Rattle.store_core.proofs.Marks.{contains_one, marks_all, marks_kept, restores_ok}
use Rattle.store_core.proofs.marking.mark_key.Goals as goal

pub returns-in-Some-clause-marks : goal.returns-in-Some-clause-marks
returns-in-Some-clause-marks c =
    marks_all c.args.collection.now c.in-Some.running c.mark_fresh.new.collection c.in-Some.is c.mark_fresh.ensures.others (c.args.key.now ∷ []) c.mark_fresh.result _
    (λ k. contains_one c.args.key.now k) c.mark_fresh.ensures.ok

pub returns-in-Some-clause-fresh : goal.returns-in-Some-clause-fresh
returns-in-Some-clause-fresh c =
    restores_ok c.args.collection.now c.in-Some.running c.mark_fresh.new.collection c.in-Some.is c.mark_fresh.ensures.others (c.args.key.now ∷ []) c.mark_fresh.result
    (λ fresh. fresh.items) c.mark_fresh.ensures.ok c.mark_fresh.ensures.fresh

pub returns-in-Some-clause-kept : goal.returns-in-Some-clause-kept
returns-in-Some-clause-kept c = marks_kept c.args.collection.now c.in-Some.running c.mark_fresh.new.collection c.in-Some.is c.mark_fresh.ensures.others c.mark_fresh.result
    c.mark_fresh.ensures.kept
