use Rattle.store_core.proofs.MarkedSteps.{claim_alike, claim_collects, claim_refused, marks_moved, restores_moved}
use Rattle.store_core.proofs.running.Core.claim.Goals as goal

pub returns-in_err-fresh-clause-collects : goal.returns-in_err-fresh-clause-collects
returns-in_err-fresh-clause-collects g c = claim_refused c.args.seg.now c.from_residual.result c.args.self.now.collection c.mark_key.new.collection c.from_residual.ensures.0
    c.in_err-fresh.ensures.kept

pub returns-clause-made : goal.returns-clause-made
returns-clause-made g c = λ stop count.
    claim_alike _ _ c.mark_key.new.collection c.claim_alone-answer.new.self.collection c.args.seg.now c.args.actor c.claim_alone-answer.result c.claim_alone-answer.new.buf
    (c.claim_alone-answer.ensures.made stop count)

pub returns-clause-collects : goal.returns-clause-collects
returns-clause-collects g c =
    let old = c.args.self.now.collection in
    let marked = c.mark_key.new.collection in
    let moved = c.claim_alone-answer.new.self.collection in
    let same = c.claim_alone-answer.ensures.collection in
    claim_collects old moved c.unmark_unless.new.collection c.deref.result.now
    (restores_moved old marked moved c.in_ok-fresh.fresh.items c.deref.result.now same c.deref.ensures.value c.in_ok-fresh.ensures.fresh)
    c.args.seg.now c.claim_alone-answer.result c.key.result c.is_held.result c.key.ensures
    (marks_moved _ old marked moved same c.in_ok-fresh.ensures.marks) c.is_held.ensures c.unmark_unless.ensures.kept c.unmark_unless.ensures.undone
