use Rattle.std.proofs.Common.{◌∙◌, ap, slice_set}
use Rattle.actor_parts.specs.declared.part.Part.{Part}
use Rattle.actor_parts.specs.declared.part.Part.TheVariants.{Idle}
use Rattle.actor_parts.proofs.Apart.{part_read, part_set, there}
use Rattle.actor_parts.proofs.parts.Parts.take.Goals as goal

pub returns-clause-taken : goal.returns-clause-taken
returns-clause-taken c =
    c.replace.ensures.value
    ∙ part_read c.self.inside.parts.items c.args.self.now c.number.result c.args.actor c.self.view_is c.number.ensures.value c.index_mut.result.now c.self.invariant
    c.number.ensures.limit c.index_mut.ensures.value

pub returns-clause-left : goal.returns-clause-left
returns-clause-left c =
    ap (λ (part : Part). slice_set c.self.inside.parts.items c.number.result part) c.replace.ensures.after
    ∙ part_set c.self.inside.parts.items c.args.self.now c.number.result c.args.actor c.self.view_is c.number.ensures.value Idle

pub returns-clause-there : goal.returns-clause-there
returns-clause-there c = there c.self.inside.parts.items c.args.self.now c.number.result c.args.actor c.self.view_is c.number.ensures.value c.self.invariant c.number.ensures.limit
