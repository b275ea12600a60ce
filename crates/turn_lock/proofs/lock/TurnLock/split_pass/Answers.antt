use Rattle.std.proofs.Common.{rules, ap, refl}
use Rattle.turn_lock.proofs.Keeps.{splits}
use Rattle.turn_lock.proofs.Turning.{in_turn_of, second_there, splits_none}
use Rattle.turn_lock.proofs.lock.TurnLock.split_pass.Goals as goal

pub end_idly-requires-clause-turn : goal.end_idly-requires-clause-turn
end_idly-requires-clause-turn g c = (_, in_turn_of _ _ _ _ c.requires.rests.numbered c.take_turn-home.ensures.took)

pub end_with_number-lines-requires-clause-given : goal.end_with_number-lines-requires-clause-given
end_with_number-lines-requires-clause-given g c =
    (_, c.take_turn-home.result, in_turn_of _ _ _ _ c.requires.rests.numbered c.take_turn-home.ensures.took, refl, refl, search rules)

pub split_seat-requires : goal.split_seat-requires
split_seat-requires g c = let number = c.end_with_number-lines.ensures.number in (
  search rules,
  search rules,
  splits _ _ _ _ _ _ _ _ (ap (λ m. m.0.stage) number)
      (second_there _ c.args.pass.now.me c.take_turn-home.new.pass.me _ _ _ _ c.requires.rests.numbered c.take_turn-home.ensures.took number),
)

pub returns-then-home-ge-MOST_PASSES-clause-none : goal.returns-then-home-ge-MOST_PASSES-clause-none
returns-then-home-ge-MOST_PASSES-clause-none g c =
    splits_none _ _ _ _ _ (search rules) c.take_turn-home.ensures.took c.end_idly.ensures.rests _ _ c.lines-lines.ensures
