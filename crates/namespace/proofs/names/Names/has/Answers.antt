use Rattle.std.proofs.Common.{◌≡◌, ap, sym, ◌∙◌, rules, is_some, true, false}
use Rattle.std.specs.FinMap as finite
use Rattle.namespace.proofs.Entries.{get_seen, some_of, none_of}
use Rattle.namespace.proofs.names.Names.has.Goals as goal

pub returns-clause-there : goal.returns-clause-there
returns-clause-there c =
    let found = ap (λ m. finite.get m c.args.name.now) (sym c.self.view_is) ∙ get_seen c.self.inside.entries.entries c.args.name.now in
    λ h.
    let there : c.contains_key.result ≡ true = search rules in
    some_of _ (ap is_some found ∙ sym c.contains_key.ensures ∙ there)

pub returns-clause-absent : goal.returns-clause-absent
returns-clause-absent c =
    let found = ap (λ m. finite.get m c.args.name.now) (sym c.self.view_is) ∙ get_seen c.self.inside.entries.entries c.args.name.now in
    λ h.
    let absent : c.contains_key.result ≡ false = search rules in
    none_of _ (ap is_some found ∙ sym c.contains_key.ensures ∙ absent)
