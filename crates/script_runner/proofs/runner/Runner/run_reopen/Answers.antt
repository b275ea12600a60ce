use Rattle.script_runner.proofs.Prelude.{inr, Result, Err, refl, subst, RunnerState, Replies, runner_of, by_error}
use Rattle.reply_text.specs.declared.ending.Ending.{Ending}
use Rattle.reply_text.specs.declared.ending.Ending.TheVariants as endings
use Rattle.script_lines.specs.Grammar as lines
use Rattle.script_lines.specs.ReplyValue as replies
use Rattle.script_runner.proofs.Sends.{told_so, untold_so}
use Rattle.script_runner.proofs.runner.Runner.run_reopen.Goals as goal

pub returns-in_err-tell-in-Err : goal.returns-in_err-tell-in-Err
returns-in_err-tell-in-Err g c =
    let state = g.C.HasState.state in
    let sink = g.K.Sink.view c.args.sink.now in
    let sink_now = g.K.Sink.view c.tell.new.sink in
    let s = runner_of c.reopen-reopened.new.core c.reopen-reopened.new.sessions in
    let reply = replies.Refused c.in-Err.refusal in
    let e = c.in_err-tell-in-Err.field-0.0 in
    by_error (λ (x : Result (Unit {0}) Ending). Replies _ state lines.Reopen x c.args.self.now s sink sink_now) c.from_residual.result e c.from_residual.ensures.1
    (subst (λ (r : RunnerState _). Replies _ state lines.Reopen (Err e) r s sink sink_now) c.self.view_is
    (record {
      reply = reply;
      runs = (c.in-Err.ensures.refused, c.in-Err.ensures.sessions);
      sends = untold_so lines.Reopen reply e sink sink_now (λ x. x) c.in_err-tell-in-Err.ensures;
    }))

pub returns-in-Err : goal.returns-in-Err
returns-in-Err g c =
    let state = g.C.HasState.state in
    let sink = g.K.Sink.view c.args.sink.now in
    let sink_now = g.K.Sink.view c.tell.new.sink in
    let s = runner_of c.reopen-reopened.new.core c.reopen-reopened.new.sessions in
    let reply = replies.Refused c.in-Err.refusal in
    subst (λ (r : RunnerState _). Replies _ state lines.Reopen (Err (endings.Refused c.in-Err.refusal)) r s sink sink_now) c.self.view_is
    (record {
      reply = reply;
      runs = (c.in-Err.ensures.refused, c.in-Err.ensures.sessions);
      sends = inr (refl, c.in_ok-tell-in-Err.ensures);
    })

pub returns : goal.returns
returns g c =
    let state = g.C.HasState.state in
    let sink = g.K.Sink.view c.args.sink.now in
    let sink_now = g.K.Sink.view c.tell-2.new.sink in
    let s = runner_of c.reopen-reopened.new.core c.reopen-reopened.new.sessions in
    let reply = replies.Opened c.in-Ok.files in
    subst (λ (r : RunnerState _). Replies _ state lines.Reopen c.tell-2.result r s sink sink_now) c.self.view_is
    (record {
      reply = reply;
      runs = c.in-Ok.ensures.opened;
      sends = told_so lines.Reopen reply c.tell-2.result sink sink_now refl (λ x. x) c.tell-2.ensures;
    })
