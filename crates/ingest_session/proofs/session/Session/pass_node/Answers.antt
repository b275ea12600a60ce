use Rattle.ingest_session.proofs.Prelude.{◌≡◌, true, IsSome, rules, needs_no_step, turn_in, turn_node, Then, Spelled, PlacedNode}
use Rattle.ingest_session.specs.Settling.{Stays}
use Rattle.ingest_session.proofs.Settled.{settles_by}
use Rattle.ingest_session.proofs.session.Session.pass_node.Goals as goal

pub returns-in_err-spell-clause-settles : goal.returns-in_err-spell-clause-settles
returns-in_err-spell-clause-settles c = rw c.in_err-spell.ensures.err (Stays c.args.self.now)

pub returns-then-not-item_is_there-clause-settles :
    goal.returns-then-not-item_is_there-clause-settles
returns-then-not-item_is_there-clause-settles c =
    settles_by c.sound.ensures (Spelled c.args.self.now c.spell.new.self c.in_ok-spell.ensures.ok)

pub returns-clause-settles : goal.returns-clause-settles
returns-clause-settles c =
    let there : needs_no_step c.spell.new.self ≡ true = search rules in
    let some : IsSome (turn_node c.spell.new.self) = search rules in
    let right : c.spell.new.self.turn ≡ turn_in c.spell.new.self = search rules in
    Then c.args.self.now c.spell.new.self c.place_node.new.self
    (settles_by c.sound.ensures (Spelled c.args.self.now c.spell.new.self c.in_ok-spell.ensures.ok))
    c.sound-2.ensures
    (PlacedNode c.spell.new.self c.place_node.new.self there right some c.place_node.ensures.placed)
