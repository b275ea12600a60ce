use Rattle.ingest_session.proofs.Prelude.{◌≡◌, ap, arith, true, IsSome, rules, needs_no_step, turn_in, turn_node, Then, PlacedFront, to_do}
use Rattle.std.proofs.Common.{None}
use Rattle.ingest_session.proofs.Settled.{settles_closing}
use Rattle.ingest_session.proofs.Working.{front_is_less, settling_is_no_more}
use Rattle.ingest_session.proofs.session.Session.pass_front.Goals as goal

pub returns-in_err-close-clause-settles : goal.returns-in_err-close-clause-settles
returns-in_err-close-clause-settles c = rw c.in_err-close.ensures.err c.reach.ensures.settles

pub returns-then-not-item_is_there-clause-settles :
    goal.returns-then-not-item_is_there-clause-settles
returns-then-not-item_is_there-clause-settles c =
    settles_closing c.args.self.now c.reach.new.self c.close.new.self c.reach.ensures.settles c.sound.ensures c.in_ok-close.ensures.ok

pub returns-clause-settles : goal.returns-clause-settles
returns-clause-settles c =
    let there : needs_no_step c.close.new.self ≡ true = search rules in
    let none : turn_node c.close.new.self ≡ None = search rules in
    let right : c.close.new.self.turn ≡ turn_in c.close.new.self = search rules in
    Then c.args.self.now c.close.new.self c.place_front.new.self
    (settles_closing c.args.self.now c.reach.new.self c.close.new.self c.reach.ensures.settles c.sound.ensures c.in_ok-close.ensures.ok)
    c.sound-2.ensures
    (PlacedFront c.close.new.self c.place_front.new.self there right none c.place_front.ensures.placed)

pub returns-clause-ok : goal.returns-clause-ok
returns-clause-ok c =
    let some : IsSome c.close.new.self.ahead = search rules in
    let before = settling_is_no_more c.args.self.now c.close.new.self
    (settles_closing c.args.self.now c.reach.new.self c.close.new.self c.reach.ensures.settles c.sound.ensures c.in_ok-close.ensures.ok) in
    let less = front_is_less c.close.new.self 1 some in
    let placed = ap to_do c.place_front.ensures.placed in
    omega (arith, before, less, placed)
