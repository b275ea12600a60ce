use Rattle.std.proofs.Common.{ap, sym, ◌∙◌}
use Rattle.std.specs.Prelude.{is_some}
use Rattle.std.specs.FinMap as finite
use Rattle.container_meta.proofs.KeyEntries.{get_seen}
use Rattle.read_steps.proofs.passed.Passed.has.Goals as goal

pub returns : goal.returns
returns c =
    c.is_some.ensures
    ∙ ap is_some (c.copied.ensures ∙ sym (ap (λ m. finite.get m c.args.key.now) (sym c.self.view_is) ∙ get_seen c.self.inside.nodes.entries c.args.key.now
    ∙ sym c.get.ensures.value))
