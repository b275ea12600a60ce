use Rattle.actor_parts.proofs.RightPins.{tried_right}
use Rattle.actor_parts.proofs.pins.Pins.add.Goals as goal

pub invariant_of-self : goal.invariant_of-self
invariant_of-self c =
    tried_right c.insert.result c.self.inside.pins c.insert.new.self c.args.key.now c.args.pin c.self.invariant c.requires c.insert.ensures.ok c.insert.ensures.err
