use Rattle.std.proofs.Common.{ap, ◌∙◌}
use Rattle.std.specs.FinMap as finite
use Rattle.container_meta.proofs.KeyEntries.{inserted_seen}
use Rattle.read_steps.proofs.sizes.SizesNotesKeys.note.Goals as goal

pub returns-clause-noted : goal.returns-clause-noted
returns-clause-noted c =
    inserted_seen c.self.inside.keys.entries c.insert.new.self.entries c.args.key.now c.args.place.now.length c.in_ok-insert.ensures.was_ordered
    c.in_ok-insert.ensures.ordered
    c.in_ok-insert.ensures.entries
    ∙ ap (λ m. finite.insert m c.args.key.now c.args.place.now.length) c.self.view_is
