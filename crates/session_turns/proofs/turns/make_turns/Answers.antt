use Rattle.std.proofs.Common.{◌∙◌, Result, [], refl}
use Rattle.refusals.specs.declared.refusal.Refusal.{Refusal}
use Rattle.session_turns.specs.Turning.{TakesTurnsBy, maker_of}
use Rattle.session_turns.proofs.Results.{by_error}
use Rattle.session_turns.proofs.TurnRuns.{paused_still, turns_then_any, turns_then_stop}
use Rattle.session_turns.proofs.turns.make_turns.Goals as goal

pub returns-in_err-make_turn-clause-turns : goal.returns-in_err-make_turn-clause-turns
returns-in_err-make_turn-clause-turns g c =
    let maker = maker_of g.C.MakesSteps.runs g.C.MakesSteps.makes in
    let s = c.args.session.now in
    let u = c.make_turn.new.session in
    let old = c.args.core.now in
    let new = c.make_turn.new.core in
    let e = c.in_err-make_turn.field-0.0 in
    by_error (λ (r : Result (Unit {0}) Refusal). TakesTurnsBy maker c.args.actor r s u old new) c.from_residual.result e c.from_residual.ensures.1
    (turns_then_stop _ maker c.args.actor (Unit {0}) (Unit {0}) tt e s c.loop.session u old c.loop.core new c.loop.invariant.turns c.in_err-make_turn.ensures.turn)

pub returns-clause-turns : goal.returns-clause-turns
returns-clause-turns g c =
    turns_then_any _ (maker_of g.C.MakesSteps.runs g.C.MakesSteps.makes) c.args.actor (Unit {0})
    (Unit {0}) tt tt c.args.session.now c.loop.session c.make_turn.new.session c.args.core.now c.loop.core c.make_turn.new.core c.loop.invariant.turns
    c.in_ok-make_turn.field-0 c.in_ok-make_turn.ensures.turn

pub loop-preserved : goal.loop-preserved
loop-preserved g c =
    record {
      running = c.in_ok-make_turn.ensures.running;
      ended = c.in_ok-make_turn.ensures.ended ∙ c.loop.invariant.ended;
      count = c.in_ok-make_turn.ensures.count ∙ c.loop.invariant.count;
      most = c.in_ok-make_turn.ensures.most ∙ c.loop.invariant.most;
      turns = turns_then_any _ (maker_of g.C.MakesSteps.runs g.C.MakesSteps.makes) c.args.actor (Unit {0})
          (Unit {0}) tt tt c.args.session.now c.loop.session c.make_turn.new.session c.args.core.now c.loop.core c.make_turn.new.core c.loop.invariant.turns
          c.in_ok-make_turn.field-0 c.in_ok-make_turn.ensures.turn;
    }

pub loop-init : goal.loop-init
loop-init g c = record { running = c.requires; ended = refl; count = refl; most = refl; turns = ([], (paused_still c.args.session.now, refl)) }
