use Rattle.container_meta.proofs.Prelude.{ap, sym, ◌∙◌}
use Rattle.std.specs.FinMap as finite
use Rattle.container_meta.proofs.KeyEntries.{get_seen}
use Rattle.container_meta.proofs.key_map.KeyMap.get.Goals as goal

pub returns : goal.returns
returns g c = c.copied.ensures ∙ sym (ap (λ m. finite.get m c.args.key.now) (sym c.self.view_is) ∙ get_seen c.self.inside.entries.entries c.args.key.now ∙ sym c.get.ensures.value)
