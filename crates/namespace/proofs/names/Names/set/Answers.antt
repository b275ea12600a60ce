use Rattle.std.proofs.Common.{sym, ap, subst, ◌∙◌}
use Rattle.std.specs.FinMap as finite
use Rattle.std.proofs.lemmas.List.Elements.{same_from_all_zip}
use Rattle.namespace.specs.Names.{AreNames}
use Rattle.namespace.proofs.Entries.{inserted_seen}
use Rattle.namespace.proofs.Kept.{with_put}
use Rattle.namespace.proofs.names.Names.set.Goals as goal

pub returns-clause-ok : goal.returns-clause-ok
returns-clause-ok c =
    let named = c.args.named in
    let name = same_from_all_zip _ c.args.name.now.items c.in_ok-clone.field-0.items c.in_ok-clone.ensures.cases.0 (λ _ _ e. e) in
    inserted_seen c.self.inside.entries.entries c.insert.new.self.entries c.in_ok-clone.field-0 named c.in_ok-insert.ensures.was_ordered c.in_ok-insert.ensures.ordered
    c.in_ok-insert.ensures.entries
    ∙ ap (λ m. finite.insert m c.in_ok-clone.field-0.items named) c.self.view_is
    ∙ ap (λ bytes. finite.insert c.args.self.now bytes named) name

pub invariant_of-self-2 : goal.invariant_of-self-2
invariant_of-self-2 c = subst AreNames (sym (returns-clause-ok c))
    (with_put c.args.self.now c.args.name.now.items c.args.named (subst AreNames c.self.view_is c.self.invariant) c.requires.named c.requires.room)

pub returns-clause-names : goal.returns-clause-names
returns-clause-names c = invariant_of-self-2 c
