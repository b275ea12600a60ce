use Rattle.std.proofs.Common.{ap, sym, ◌∙◌, rules, IsTrue}
use Rattle.std.specs.Option.{option_copied}
use Rattle.std.specs.FinMap as finite
use Rattle.namespace.proofs.Entries.{get_seen}
use Rattle.namespace.proofs.names.Names.get.Goals as goal

pub returns-in-Some : goal.returns-in-Some
returns-in-Some c =
    let named : IsTrue c.is_name.result = search rules in
    let found = ap (λ m. finite.get m c.args.name.now) (sym c.self.view_is) ∙ get_seen c.self.inside.entries.entries c.args.name.now ∙ sym c.get.ensures.value
    ∙ ap option_copied c.in-Some.is in
    (c.is_name.ensures.0 named, (c.in-Some.named.now.sequence, found))

pub returns-in-None : goal.returns-in-None
returns-in-None c =
    let named : IsTrue c.is_name.result = search rules in
    let found = ap (λ m. finite.get m c.args.name.now) (sym c.self.view_is) ∙ get_seen c.self.inside.entries.entries c.args.name.now ∙ sym c.get.ensures.value
    ∙ ap option_copied c.in-None.is in
    (c.is_name.ensures.0 named, found)
