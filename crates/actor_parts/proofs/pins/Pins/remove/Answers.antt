use Rattle.std.proofs.Common.{sym, subst}
use Rattle.actor_parts.specs.PinMap.{ArePins}
use Rattle.actor_parts.proofs.RightPins.{removed_right}
use Rattle.actor_parts.proofs.pins.Pins.remove.Goals as goal

pub invariant_of-self : goal.invariant_of-self
invariant_of-self c = subst ArePins (sym c.remove.ensures) (removed_right c.self.inside.pins c.args.key.now c.self.invariant)
