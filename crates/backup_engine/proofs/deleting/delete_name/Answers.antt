use Rattle.backup_engine.proofs.Prelude.{Result, Ok, Err, ap, refl, Refused, DeleteRun}
use Rattle.actor_parts.specs.StepValue as asked
use Rattle.reply_text.specs.declared.ending.Ending.{Ending}
use Rattle.backup_engine.proofs.FirstActor.{as_first}
use Rattle.backup_engine.proofs.Kept.{by_error}
use Rattle.backup_engine.proofs.deleting.delete_name.Goals as goal
use Rattle.backup_engine.specs.Storing.{Replies}

pub returns-in_err-make_step-clause-ran : goal.returns-in_err-make_step-clause-ran
returns-in_err-make_step-clause-ran g c =
    let state = g.C.HasState.state in
    let name = c.args.name.now in
    let old = c.args.core.now in
    let new = c.make_step.new.self in
    let e = c.in_err-make_step.field-0.0 in
    let sink = g.K.Sink.view c.args.sink.now in
    let step = as_first (state old) (state new) _ _ (asked.Delete name) (Err e) c.make_step.new.buf c.first.ensures (ap asked.Delete c.as_bytes.ensures.value)
    c.in_err-make_step.ensures.step in
    by_error (λ (r : Result (Unit {0}) Ending). DeleteRun _ state name (λ deleted. Replies c.args.reply.now deleted r sink sink) old new) c.from_residual.result
    (Refused e) c.from_residual.ensures.1
    (Err e, ((c.make_step.new.buf, step), (refl, refl)))

pub returns-clause-ran : goal.returns-clause-ran
returns-clause-ran g c =
    let state = g.C.HasState.state in
    let name = c.args.name.now in
    let old = c.args.core.now in
    let new = c.make_step.new.self in
    let answer = c.in_ok-make_step.field-0 in
    let step = as_first (state old) (state new) _ _ (asked.Delete name) (Ok answer) c.make_step.new.buf c.first.ensures (ap asked.Delete c.as_bytes.ensures.value)
    c.in_ok-make_step.ensures.step in
    (Ok tt, ((answer, (c.make_step.new.buf, step)), c.send.ensures))
