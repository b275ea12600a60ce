use Rattle.script_runner.proofs.Prelude.{Result, sym, subst, Refusal, line_value, runner_of, by_error}
use Rattle.script_lines.specs.declared.line.Line.{Line}
use Rattle.script_lines.specs.declared.reply.Reply.{Reply}
use Rattle.script_lines.specs.ReplyValue as replies
use Rattle.script_runner.specs.Acts.{Acts}
use Rattle.script_runner.specs.Runner.{answer_of}
use Rattle.script_runner.proofs.acting.act.Goals as goal

pub returns-in_err-bytes-in-Push-clause-acts : goal.returns-in_err-bytes-in-Push-clause-acts
returns-in_err-bytes-in-Push-clause-acts g c =
    let state = g.C.HasState.state in
    let r = runner_of c.args.core.now c.args.sessions.now in
    let s = runner_of c.push.new.core c.push.new.sessions in
    let e = c.in_err-bytes-in-Push.field-0.0 in
    by_error (λ (x : Result Reply Refusal). Acts _ state (line_value c.args.line.now) (answer_of x) r s) c.from_residual-in_err-bytes-in-Push.result e
    c.from_residual-in_err-bytes-in-Push.ensures.1
    (subst (λ (l : Line). Acts _ state (line_value l) (replies.Refused e) r s) (sym c.in-Push.is) c.in_err-bytes-in-Push.ensures.pushes)
