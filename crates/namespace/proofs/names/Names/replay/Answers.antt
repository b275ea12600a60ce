use Rattle.std.proofs.lemmas.Result.{err_from_is_err_and}
use Rattle.std.specs.FinMap as finite
use Rattle.namespace.proofs.Replayed.{stops}
use Rattle.namespace.proofs.names.Names.replay.Goals as goal

pub returns-in_err-apply-clause-cause : goal.returns-in_err-apply-clause-cause
returns-in_err-apply-clause-cause c =
    let p = err_from_is_err_and c.from_residual.result c.from_residual.ensures.1 in
    rw (p.1, p.2) (stops finite.empty c.loop-record.names c.args.records.now c.loop-record.record-index c.record-item.result c.in_err-apply.field-0.0 c.loop-record-test.true
    c.record-item.is c.loop-record.invariant.refused c.in_err-apply.ensures.cause)
