use Rattle.script_runner.proofs.Prelude.{Result, Refusal, TurnsStopped, by_error}
use Rattle.std.proofs.Common.{IfErr}
use Rattle.disk_format.specs.Cells.{Root}
use Rattle.script_runner.proofs.giving.settle.Goals as goal

pub returns-in_err-make_turns-clause-refused : goal.returns-in_err-make_turns-clause-refused
returns-in_err-make_turns-clause-refused g c =
    by_error (λ (r : Result Root Refusal). IfErr r (λ refusal. TurnsStopped _ g.C.HasState.state c.args.actor refusal c.args.session.now c.make_turns.new.session
    c.args.core.now c.make_turns.new.core)) c.from_residual.result c.in_err-make_turns.field-0.0 c.from_residual.ensures.1 c.in_err-make_turns.ensures.turns
