use Rattle.std.proofs.Common.{ap, sym, length, ◌∙◌}
use Rattle.std.specs.FinMap as finite
use Rattle.container_meta.proofs.KeyEntries.{entries_seen, seen}
use Rattle.store_model.specs.Unique.{KeySizes}
use Rattle.read_steps.proofs.sizes.Sizes.count.Goals as goal

pub returns : goal.returns
returns c =
    c.len.ensures.len ∙ ap length (sym (entries_seen c.self.inside.keys.entries c.len.ensures.ordered))
    ∙ sym (finite.len-entries (seen c.self.inside.keys.entries)) ∙ ap (λ (m : KeySizes). finite.len m) c.self.view_is
