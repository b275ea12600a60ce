use Rattle.actor_parts.proofs.Apart.{part_set, there}
use Rattle.actor_parts.proofs.parts.Parts.set.Goals as goal

pub returns-clause-parts : goal.returns-clause-parts
returns-clause-parts c = part_set c.self.inside.parts.items c.args.self.now c.number.result c.args.actor c.self.view_is c.number.ensures.value c.args.part

pub returns-clause-there : goal.returns-clause-there
returns-clause-there c = there c.self.inside.parts.items c.args.self.now c.number.result c.args.actor c.self.view_is c.number.ensures.value c.self.invariant c.number.ensures.limit
