use Rattle.store_core.proofs.Prelude.{ℕ, refl, ◌∙◌, ap, subst, step_value, StopsAfter, counted}
use Rattle.store_core.proofs.Making.{collects_same, core_runs}
use Rattle.store_core.proofs.running.Core.step_with.Goals as goal

pub returns-clause-running : goal.returns-clause-running
returns-clause-running g c =
    core_runs (step_value c.args.step) c.args.actor c.make-answer.result c.make-answer.new.buf _ _ c.in_default.is
    (c.make-answer.ensures.made c.stop_after-self.result c.count_after-self.result)
    (collects_same (step_value c.args.step) c.make-answer.result _ _ _ refl c.make-answer.ensures.collects)
    (subst (λ (n : ℕ). StopsAfter (step_value c.args.step) c.make-answer.result n c.stop_after-self.result) c.make-answer.ensures.count c.stop_after-self.ensures)
    (c.count_after-self.ensures ∙ ap (λ (n : ℕ). counted c.make-answer.result n) c.make-answer.ensures.count) c.requires.running
