use Rattle.std.proofs.Common.{◌≤◌, arith, length, rules}
use Rattle.turn_lock.proofs.Turning.{in_turn_of}
use Rattle.turn_lock.proofs.Counting.{each_there}
use Rattle.turn_lock.proofs.lock.TurnLock.close.Goals as goal

pub end_idly-requires-clause-turn : goal.end_idly-requires-clause-turn
end_idly-requires-clause-turn g c = (_, in_turn_of _ _ _ _ c.requires.rests.numbered c.take_turn-home.ensures.took)

pub returns-clause-ended : goal.returns-clause-ended
returns-clause-ended g c =
    let t = c.take_turn-home.ensures.took in
    let all : c.take_turn-home.result.given ≤ length c.args.pass.me.0.numbers = search rules in record {
      seen = t.seen;
      follows = t.all.follows;
      legal = t.all.legal;
      all_in = (let a = t.all.counted in omega arith);
      whole = λ x none_there. t.all.unused x (each_there c.args.pass.me.0.numbers c.take_turn-home.result.given t.all.below all x none_there);
    }

pub returns-then-home-numbers-clause-others : goal.returns-then-home-numbers-clause-others
returns-then-home-numbers-clause-others g c = (
  search rules,
  (c.take_turn-home.result, c.take_turn-home.new.pass.me, c.take_turn-home.ensures.took, search rules, search rules, c.end_idly.ensures.rests),
)
