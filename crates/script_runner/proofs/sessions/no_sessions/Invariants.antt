use Rattle.script_runner.proofs.Prelude.{◌≡◌, replicate, None}
use Rattle.script_runner.proofs.sessions.no_sessions.Given as goal

abbrev pub invariant-loop : goal.invariant-loop
invariant-loop l = l.sessions.items ≡ replicate l.counter None
