use Rattle.std.proofs.Common.{ap, ◌∙◌}
use Rattle.std.specs.FinMap as finite
use Rattle.container_meta.proofs.KeyEntries.{inserted_seen}
use Rattle.read_steps.proofs.passed.Passed.add.Goals as goal

pub returns-clause-ok : goal.returns-clause-ok
returns-clause-ok c =
    inserted_seen c.self.inside.nodes.entries c.insert.new.self.entries c.args.key.now tt c.in_ok-insert.ensures.was_ordered c.in_ok-insert.ensures.ordered
    c.in_ok-insert.ensures.entries
    ∙ ap (λ m. finite.insert m c.args.key.now tt) c.self.view_is
