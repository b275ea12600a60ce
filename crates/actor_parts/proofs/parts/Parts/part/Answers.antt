use Rattle.actor_parts.proofs.Apart.{part_read, there}
use Rattle.actor_parts.proofs.parts.Parts.part.Goals as goal

pub returns-clause-part : goal.returns-clause-part
returns-clause-part c =
    part_read c.self.inside.parts.items c.args.self.now c.number.result c.args.actor c.self.view_is c.number.ensures.value c.index.result.now c.self.invariant
    c.number.ensures.limit c.index.ensures

pub returns-clause-there : goal.returns-clause-there
returns-clause-there c = there c.self.inside.parts.items c.args.self.now c.number.result c.args.actor c.self.view_is c.number.ensures.value c.self.invariant c.number.ensures.limit
