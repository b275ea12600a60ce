use Rattle.container_meta.proofs.Prelude.{ap, sym, ◌∙◌}
use Rattle.std.specs.FinMap as finite
use Rattle.base_model.proofs.Outcome.{if_err}
use Rattle.container_meta.proofs.KeyEntries.{get_seen, inserted_seen}
use Rattle.container_meta.proofs.key_map.KeyMap.insert.Goals as goal

pub returns-clause-ok : goal.returns-clause-ok
returns-clause-ok g c =
    inserted_seen c.self.inside.entries.entries c.insert.new.self.entries c.args.key.now c.args.value c.in_ok-insert.ensures.was_ordered c.in_ok-insert.ensures.ordered
    c.in_ok-insert.ensures.entries
    ∙ ap (λ m. finite.insert m c.args.key.now c.args.value) c.self.view_is

pub returns-in_err-insert-clause-absent : goal.returns-in_err-insert-clause-absent
returns-in_err-insert-clause-absent g c =
    if_err c.from_residual.result _
    (λ _. ap (λ m. finite.get m c.args.key.now) (sym c.self.view_is) ∙ get_seen c.self.inside.entries.entries c.args.key.now ∙ c.in_err-insert.ensures.absent)
