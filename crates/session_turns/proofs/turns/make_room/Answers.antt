use Rattle.std.proofs.Common.{◌≡◌, ◌∙◌, ◌<◌, ℕ, Result, [], arith, refl}
use Rattle.refusals.specs.declared.refusal.Refusal.{Refusal}
use Rattle.ingest_session.specs.Settling.{most_waiting, seen}
use Rattle.session_turns.specs.Turning.{MakesRoomBy, maker_of}
use Rattle.session_turns.proofs.Results.{by_error}
use Rattle.session_turns.proofs.TurnRuns.{paused_still, room_then_any, room_then_stop}
use Rattle.session_turns.proofs.turns.make_room.Goals as goal

-- the test of the loop
crowded : (queued waiting asked most : ℕ) → queued ≡ waiting → asked ≡ most → asked < queued → most < waiting
crowded queued waiting asked most is same more = omega (arith, is, same, more)

pub returns-in_err-make_turn-clause-turns : goal.returns-in_err-make_turn-clause-turns
returns-in_err-make_turn-clause-turns g c =
    let maker = maker_of g.C.MakesSteps.runs g.C.MakesSteps.makes in
    let s = c.args.session.now in
    let u = c.make_turn.new.session in
    let old = c.args.core.now in
    let new = c.make_turn.new.core in
    let e = c.in_err-make_turn.field-0.0 in
    by_error (λ (r : Result (Unit {0}) Refusal). MakesRoomBy maker c.args.actor r s u old new) c.from_residual.result e c.from_residual.ensures.1
    (room_then_stop _ maker c.args.actor (Unit {0})
    (Unit {0}) tt e s c.loop-actor.session u old c.loop-actor.core new c.loop-actor.invariant.turns
    (crowded c.queued.result (seen c.loop-actor.session) c.most_waiting.result (most_waiting c.loop-actor.session)
    c.queued.ensures c.most_waiting.ensures.value c.loop-actor-test.true) c.in_err-make_turn.ensures.turn)

pub returns-then-is_none-clause-turns : goal.returns-then-is_none-clause-turns
returns-then-is_none-clause-turns g c =
    room_then_any _ (maker_of g.C.MakesSteps.runs g.C.MakesSteps.makes) c.args.actor (Unit {0})
    (Unit {0}) tt tt c.args.session.now c.loop-actor.session c.make_turn.new.session c.args.core.now c.loop-actor.core c.make_turn.new.core c.loop-actor.invariant.turns
    (crowded c.queued.result (seen c.loop-actor.session) c.most_waiting.result (most_waiting c.loop-actor.session)
    c.queued.ensures c.most_waiting.ensures.value c.loop-actor-test.true)
    c.in_ok-make_turn.field-0 c.in_ok-make_turn.ensures.turn

pub loop-actor-preserved : goal.loop-actor-preserved
loop-actor-preserved g c =
    record {
      running = c.in_ok-make_turn.ensures.running;
      ended = c.in_ok-make_turn.ensures.ended ∙ c.loop-actor.invariant.ended;
      count = c.in_ok-make_turn.ensures.count ∙ c.loop-actor.invariant.count;
      most = c.in_ok-make_turn.ensures.most ∙ c.loop-actor.invariant.most;
      turns = room_then_any _ (maker_of g.C.MakesSteps.runs g.C.MakesSteps.makes) c.args.actor (Unit {0})
          (Unit {0}) tt tt c.args.session.now c.loop-actor.session c.make_turn.new.session c.args.core.now c.loop-actor.core c.make_turn.new.core c.loop-actor.invariant.turns
          (crowded c.queued.result (seen c.loop-actor.session) c.most_waiting.result (most_waiting c.loop-actor.session)
          c.queued.ensures c.most_waiting.ensures.value c.loop-actor-test.true)
          c.in_ok-make_turn.field-0 c.in_ok-make_turn.ensures.turn;
    }

pub loop-actor-init : goal.loop-actor-init
loop-actor-init g c = record { running = c.requires; ended = refl; count = refl; most = refl; turns = ([], (paused_still c.args.session.now, refl), tt) }
