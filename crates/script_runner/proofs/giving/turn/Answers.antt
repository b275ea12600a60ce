use Rattle.script_runner.proofs.Prelude.{Result, Refusal, by_error}
use Rattle.std.proofs.Common.{rules}
use Rattle.script_lines.specs.declared.reply.Turned.{Turned}
use Rattle.script_runner.specs.Acts.{Turns}
use Rattle.script_runner.proofs.SessionLists.{replaced}
use Rattle.script_runner.proofs.giving.turn.Goals as goal

pub returns-in_err-made-clause-turns : goal.returns-in_err-made-clause-turns
returns-in_err-made-clause-turns g c =
    let state = g.C.HasState.state in
    let actor = c.args.actor in
    let s = c.in-Some.session in
    let t = c.make_turn-made.new.session in
    let old = c.args.core.now in
    let new = c.make_turn-made.new.core in
    let e = c.in_err-made.field-0.0 in
    by_error (λ (r : Result Turned Refusal). Turns _ state actor r c.args.sessions.now c.set.new.self old new) c.from_residual.result e c.from_residual.ensures.1
    (s, t, replaced actor s t c.args.sessions.now c.take.new.self c.set.new.self c.in-Some.ensures.taken c.take.ensures.left c.set.ensures.sessions, c.in_err-made.ensures.turn)

pub returns-clause-turns : goal.returns-clause-turns
returns-clause-turns g c =
    let actor = c.args.actor in
    let s = c.in-Some.session in
    let t = c.make_turn-made.new.session in (
      s,
      t,
      replaced actor s t c.args.sessions.now c.take.new.self c.set.new.self c.in-Some.ensures.taken c.take.ensures.left c.set.ensures.sessions,
      (c.in_ok-made.field-0, search rules, c.in_ok-made.ensures.turn),
    )
