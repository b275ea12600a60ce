use Rattle.std.proofs.Common.{◌∙◌, ap, sym, subst}
use Rattle.base_model.proofs.Outcome.{map_err}
use Rattle.merkle_file.specs.Walk.{start_of}
use Rattle.read_steps.specs.Trees.{IsHeld}
use Rattle.read_steps.proofs.trees.walk_tree.Goals as goal

pub returns-clause-failed : goal.returns-clause-failed
returns-clause-failed g c =
    map_err c.walk_rest.result _ _ (λ refusal failed counts held image indexed is.
    failed counts held image indexed (subst (IsHeld counts held image) (ap start_of (sym c.top_of.ensures) ∙ sym c.in_ok-cursor.ensures.start) is))
    c.walk_rest.ensures.failed
