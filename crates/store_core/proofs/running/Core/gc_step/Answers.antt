use Rattle.store_core.proofs.Prelude.{refl, err_from_is_err_and}
use Rattle.store_core.proofs.MakingGc.{made_did, made_done, made_none, made_refused}
use Rattle.store_core.proofs.running.Core.gc_step.Goals as goal

pub returns-in_err-phase-clause-made : goal.returns-in_err-phase-clause-made
returns-in_err-phase-clause-made g c =
    let is = c.in_err-phase.ensures in
    let p = err_from_is_err_and c.from_residual.result c.from_residual.ensures.1 in
    rw (p.1, p.2)
    (λ stop count. made_refused c.args.actor _ _ _ c.in-Some.running c.step.new.collection c.in-Some.is refl (λ served. is.served) (c.step.new.index, refl) refl is.under_way
    c.in_err-phase.field-0.0 is.step.refused is.disk)

pub returns-in-Did-clause-made : goal.returns-in-Did-clause-made
returns-in-Did-clause-made g c = λ stop count.
    let is = c.in_ok-phase.ensures in
    made_did c.args.actor _ _ _ c.in-Some.running c.step.new.collection c.in-Some.is refl (λ served. is.served)
    (c.step.new.index, refl) refl is.under_way c.in-Did.phase c.in_ok-phase.field-0 c.in-Did.is is.step.made is.disk

pub returns-in-Done-clause-made : goal.returns-in-Done-clause-made
returns-in-Done-clause-made g c = λ stop count.
    let is = c.in_ok-phase.ensures in
    made_done c.args.actor _ _ _ c.in-Some.running c.step.new.collection c.in-Some.is refl (λ served. is.served)
    (c.step.new.index, refl) c.in-Done.freed c.in-Done.copied c.in_ok-phase.field-0 refl c.in-Done.is is.step.made is.disk

pub returns-in_default-clause-made : goal.returns-in_default-clause-made
returns-in_default-clause-made g c = λ stop count. made_none c.args.actor c.args.buf.now _ c.in_default.is stop count
