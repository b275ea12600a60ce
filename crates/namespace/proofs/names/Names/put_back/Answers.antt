use Rattle.std.proofs.Common.{ap, sym, subst, ◌∙◌}
use Rattle.std.specs.FinMap as finite
use Rattle.namespace.specs.Names.{AreNames}
use Rattle.namespace.proofs.Entries.{get_seen, inserted_seen}
use Rattle.namespace.proofs.Kept.{with_again}
use Rattle.namespace.proofs.TakenBack.{some_none}
use Rattle.namespace.proofs.names.Names.put_back.Goals as goal

pub unreachable-requires : goal.unreachable-requires
unreachable-requires c =
    some_none (finite.get c.args.self.now c.args.name.items) c.requires.there
    (ap (λ m. finite.get m c.args.name.items) (sym c.self.view_is) ∙ get_seen c.self.inside.entries.entries c.args.name.items ∙ c.in-Err.ensures.absent)

pub returns : goal.returns
returns c =
    inserted_seen c.self.inside.entries.entries c.insert.new.self.entries c.args.name c.args.named c.in-Ok.ensures.was_ordered c.in-Ok.ensures.ordered c.in-Ok.ensures.entries
    ∙ ap (λ m. finite.insert m c.args.name.items c.args.named) c.self.view_is

pub invariant_of-self : goal.invariant_of-self
invariant_of-self c =
    subst AreNames (sym (returns c)) (with_again c.args.self.now c.args.name.items c.args.named (subst AreNames c.self.view_is c.self.invariant) c.requires.there)
