use Rattle.std.proofs.Common.{sym, ap, subst, ◌∙◌}
use Rattle.std.specs.FinMap as finite
use Rattle.namespace.specs.Names.{AreNames}
use Rattle.namespace.proofs.Entries.{removed_seen}
use Rattle.namespace.proofs.Kept.{without}
use Rattle.namespace.proofs.names.Names.remove.Goals as goal

pub returns-clause-removed : goal.returns-clause-removed
returns-clause-removed c =
    let after = c.remove.ensures.updates in
    removed_seen c.self.inside.entries.entries c.remove.new.self.entries c.args.name.now after.3 after.1
    ∙ ap (λ m. finite.remove m c.args.name.now) c.self.view_is

pub invariant_of-self : goal.invariant_of-self
invariant_of-self c = subst AreNames (sym (returns-clause-removed c)) (without c.args.self.now c.args.name.now (subst AreNames c.self.view_is c.self.invariant))

pub returns-clause-names : goal.returns-clause-names
returns-clause-names c = invariant_of-self c
