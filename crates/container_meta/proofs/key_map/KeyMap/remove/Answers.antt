use Rattle.container_meta.proofs.Prelude.{ap, ◌∙◌}
use Rattle.std.specs.FinMap as finite
use Rattle.container_meta.proofs.KeyEntries.{removed_seen}
use Rattle.container_meta.proofs.key_map.KeyMap.remove.Goals as goal

pub returns : goal.returns
returns g c =
    let after = c.remove.ensures.updates in
    removed_seen c.self.inside.entries.entries c.remove.new.self.entries c.args.key.now after.3 after.1
    ∙ ap (λ m. finite.remove m c.args.key.now) c.self.view_is
