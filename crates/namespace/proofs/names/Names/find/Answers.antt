use Rattle.std.proofs.Common.{ap, sym, ◌∙◌}
use Rattle.std.specs.FinMap as finite
use Rattle.namespace.proofs.Entries.{get_seen}
use Rattle.namespace.proofs.names.Names.find.Goals as goal

pub returns : goal.returns
returns c =
    c.copied.ensures ∙ sym (ap (λ m. finite.get m c.args.name.now) (sym c.self.view_is) ∙ get_seen c.self.inside.entries.entries c.args.name.now ∙ sym c.get.ensures.value)
