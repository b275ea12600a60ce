use Rattle.script_runner.proofs.Prelude.{List, ℕ, Result, Ok, Err, subst, Refusal, pushed_bytes, Feeds, by_error}
use Rattle.script_runner.specs.Acts.{Pushes}
use Rattle.script_runner.proofs.SessionLists.{replaced}
use Rattle.script_runner.proofs.giving.push.Goals as goal
use Rattle.session_turns.specs.Turns.{session_at}
use Rattle.script_runner.specs.Runner.{runner_of}

pub returns-in_err-fed-clause-pushes : goal.returns-in_err-fed-clause-pushes
returns-in_err-fed-clause-pushes g c =
    let state = g.C.HasState.state in
    let actor = c.args.actor in
    let s = c.in-Some.session in
    let t = c.feed-fed.new.session in
    let old = c.args.core.now in
    let new = c.feed-fed.new.core in
    let e = c.in_err-fed.field-0.0 in
    by_error (λ (r : Result ℕ Refusal). Pushes _ state actor (pushed_bytes c.args.digits.now) r (runner_of old c.args.sessions.now)
    (runner_of new c.set.new.self)) c.from_residual.result e
    c.from_residual.ensures.1 (
      s,
      t,
      replaced actor s t c.args.sessions.now c.take.new.self c.set.new.self c.in-Some.ensures.taken c.take.ensures.left c.set.ensures.sessions,
      subst (λ (l : List ℕ). Feeds _ state actor (Err e) l (session_at s old) (session_at t new)) c.decode_into-count.ensures.bytes c.in_err-fed.ensures.feeds,
    )

pub returns-clause-pushes : goal.returns-clause-pushes
returns-clause-pushes g c =
    let state = g.C.HasState.state in
    let actor = c.args.actor in
    let s = c.in-Some.session in
    let t = c.feed-fed.new.session in
    let old = c.args.core.now in
    let new = c.feed-fed.new.core in (
      s,
      t,
      replaced actor s t c.args.sessions.now c.take.new.self c.set.new.self c.in-Some.ensures.taken c.take.ensures.left c.set.ensures.sessions,
      subst (λ (l : List ℕ). Feeds _ state actor (Ok tt) l (session_at s old) (session_at t new)) c.decode_into-count.ensures.bytes c.in_ok-fed.ensures.feeds,
      c.count-given.ensures,
    )
