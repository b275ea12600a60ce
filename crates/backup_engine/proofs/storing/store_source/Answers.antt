use Rattle.backup_engine.proofs.Prelude.{◌∙◌, List, ℕ, Err, ap, refl, sym, subst, stored_line, IsReady, Sent}
use Rattle.actor_parts.specs.StepValue as asked
use Rattle.backup_engine.proofs.FirstActor.{as_first, begin_is_done}
use Rattle.backup_engine.proofs.Stored.{began, no_memory, no_reply, not_taken, put_done, put_refused}
use Rattle.backup_engine.proofs.storing.store_source.Goals as goal

pub returns-in_err-buf-clause-ran : goal.returns-in_err-buf-clause-ran
returns-in_err-buf-clause-ran g c = no_memory _ _ _ _ _ _ _ c.from_residual.ensures.1

pub returns-in_err-session-clause-ran : goal.returns-in_err-session-clause-ran
returns-in_err-session-clause-ran g c = no_memory _ _ _ _ _ _ _ c.from_residual-in_err-session.ensures.1

pub returns-in_err-make_step-clause-ran : goal.returns-in_err-make_step-clause-ran
returns-in_err-make_step-clause-ran g c =
    let state = g.C.HasState.state in
    let old = state c.args.core.now in
    let new = state c.make_step.new.self in
    let e = c.in_err-make_step.field-0.0 in
    absurd (begin_is_done old new c.make_step.new.buf c.requires.fresh e
    (as_first old new _ _ asked.Begin (Err e) c.make_step.new.buf c.first.ensures refl c.in_err-make_step.ensures.step))

pub returns-in_err-take_in-clause-ran : goal.returns-in_err-take_in-clause-ran
returns-in_err-take_in-clause-ran g c =
    let begins = began _ g.C.HasState.state _ _ _ _ _ _ c.first.ensures c.requires.fresh c.in_ok-make_step.ensures.step c.in_ok-make_step.ensures.running
    c.in_ok-session.ensures.begun c.in_ok-session.ensures.history in
    not_taken _ g.C.HasState.state _ _ _ _ _ _ _ _ begins _ _ _ c.from_residual-in_err-take_in.ensures.1 c.in_err-take_in.ensures.fills

pub returns-in_err-reply-clause-ran : goal.returns-in_err-reply-clause-ran
returns-in_err-reply-clause-ran g c =
    let begins = began _ g.C.HasState.state _ _ _ _ _ _ c.first.ensures c.requires.fresh c.in_ok-make_step.ensures.step c.in_ok-make_step.ensures.running
    c.in_ok-session.ensures.begun c.in_ok-session.ensures.history in
    let taken = c.in_ok-take_in.ensures in
    let ready : IsReady c.in-Some.root c.take_in.new.session = record { done = taken.done; ended = taken.ended; ready = sym c.in-Some.ensures.ready } in
    no_reply _ g.C.HasState.state _ _ _ _ _ _ _ _ begins taken.fills _ ready _ _ c.from_residual-in_err-reply.ensures.1

pub returns-in_err-commit-clause-ran : goal.returns-in_err-commit-clause-ran
returns-in_err-commit-clause-ran g c =
    let begins = began _ g.C.HasState.state _ _ _ _ _ _ c.first.ensures c.requires.fresh c.in_ok-make_step.ensures.step c.in_ok-make_step.ensures.running
    c.in_ok-session.ensures.begun c.in_ok-session.ensures.history in
    let taken = c.in_ok-take_in.ensures in
    let ready : IsReady c.in-Some.root c.take_in.new.session = record { done = taken.done; ended = taken.ended; ready = sym c.in-Some.ensures.ready } in
    put_refused _ g.C.HasState.state _ _ _ _ _ _ _ _ begins taken.fills _ ready c.in-Some.ensures.root _ _ _ _ c.from_residual-in_err-commit.ensures.1
    c.in_err-commit.ensures.commits c.in_err-commit.ensures.asks

pub returns-clause-ran : goal.returns-clause-ran
returns-clause-ran g c =
    let sink = g.K.Sink.view c.args.sink.now in
    let sink_now = g.K.Sink.view c.send.new.sink in
    let begins = began _ g.C.HasState.state _ _ _ _ _ _ c.first.ensures c.requires.fresh c.in_ok-make_step.ensures.step c.in_ok-make_step.ensures.running
    c.in_ok-session.ensures.begun c.in_ok-session.ensures.history in
    let taken = c.in_ok-take_in.ensures in
    let ready : IsReady c.in-Some.root c.take_in.new.session = record { done = taken.done; ended = taken.ended; ready = sym c.in-Some.ensures.ready } in
    let reply_is = c.deref.ensures.value ∙ c.in_ok-reply.ensures ∙ ap (λ (n : List ℕ). stored_line n c.in-Some.root) c.as_bytes.ensures.value in
    put_done _ g.C.HasState.state _ _ _ _ _ _ _ _ begins taken.fills _ ready c.in-Some.ensures.root _ c.send.result sink sink_now c.in_ok-commit.ensures.commits
    c.in_ok-commit.ensures.asks
    (subst (λ (reply : List ℕ). Sent reply c.send.result sink sink_now) reply_is c.send.ensures)
