use Rattle.std.proofs.Common.{inl, inr, Result, Err, subst, sym}
use Rattle.refusals.specs.declared.refusal.Refusal.{Refusal}
use Rattle.ingest_session.specs.State.{SessionState}
use Rattle.session_turns.specs.Turning.{FeedsBy, maker_of, session_at}
use Rattle.session_turns.proofs.Results.{by_error}
use Rattle.session_turns.proofs.turns.feed.Goals as goal

pub returns-in_err-make_room-clause-feeds : goal.returns-in_err-make_room-clause-feeds
returns-in_err-make_room-clause-feeds g c =
    let e = c.in_err-make_room.field-0.0 in
    by_error (λ (r : Result (Unit {0}) Refusal). FeedsBy (maker_of g.C.MakesSteps.runs g.C.MakesSteps.makes) c.args.actor r c.args.bytes.now
    (session_at c.args.session.now c.args.core.now)
    (session_at c.make_room.new.session c.make_room.new.core)) c.from_residual.result e c.from_residual.ensures.1
    (inl c.in_err-make_room.ensures.turns)

pub returns-in_err-push-clause-feeds : goal.returns-in_err-push-clause-feeds
returns-in_err-push-clause-feeds g c =
    let maker = maker_of g.C.MakesSteps.runs g.C.MakesSteps.makes in
    let room = c.in_ok-make_room.ensures.turns in
    let e = c.in_err-push.field-0.0 in
    by_error (λ (r : Result (Unit {0}) Refusal). FeedsBy maker c.args.actor r c.args.bytes.now (session_at c.args.session.now c.args.core.now)
    (session_at c.push.new.self c.make_room.new.core))
    c.from_residual-in_err-push.result e c.from_residual-in_err-push.ensures.1
    (subst (λ (x : SessionState). FeedsBy maker c.args.actor (Err e) c.args.bytes.now (session_at c.args.session.now c.args.core.now) (session_at x c.make_room.new.core))
    (sym c.in_err-push.ensures.err)
    (inr (room.0, room.1, c.in_err-push.ensures.refusal, room.2)))
