use Rattle.actor_parts.proofs.RightPins.{none_right}
use Rattle.actor_parts.proofs.pins.Pins.new.Goals as goal

pub invariant_of-result : goal.invariant_of-result
invariant_of-result c = none_right c.new.result c.new.ensures
