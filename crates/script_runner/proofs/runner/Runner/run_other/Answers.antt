use Rattle.script_runner.proofs.Prelude.{inl, Result, Err, refl, subst, Memory, line_value, RunnerState, Replies, runner_of, by_error}
use Rattle.reply_text.specs.declared.ending.Ending.{Ending}
use Rattle.reply_text.specs.declared.ending.Ending.TheVariants as endings
use Rattle.script_runner.proofs.runner.Runner.run_other.Goals as goal

pub returns-in_err-reply : goal.returns-in_err-reply
returns-in_err-reply g c =
    let state = g.C.HasState.state in
    let line = line_value c.args.line.now in
    let sink = g.K.Sink.view c.args.sink.now in
    let s = runner_of c.reply_to.new.core c.reply_to.new.sessions in
    let made = c.in_err-reply.ensures.made in
    by_error (λ (x : Result (Unit {0}) Ending). Replies _ state line x c.args.self.now s sink sink) c.from_residual.result (endings.Refused Memory) c.from_residual.ensures.1
    (subst (λ (r : RunnerState _). Replies _ state line (Err (endings.Refused Memory)) r s sink sink) c.self.view_is
    (record { reply = made.0; runs = made.1.0; sends = inl (refl, made.1.1, refl) }))
