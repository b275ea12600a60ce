use Rattle.journal_cells.proofs.Prelude.{◌∙◌, sym, ap, weaker}
use Rattle.base_model.specs.Bytes.{range}
use Rattle.dd_disk.proofs.Shows.{both}
use Rattle.journal_cells.proofs.opening.read_both.Goals as goal

pub returns-clause-shown : goal.returns-clause-shown
returns-clause-shown g c =
    weaker _ _ (λ image sized same. (ap (λ p. range p 512 image) (sym c.selector_at.ensures) ∙ same.0, ap (λ p. range p 512 image) (sym c.selector_at-2.ensures) ∙ same.1))
    (both _ _ _ c.in_ok-read_at.ensures.shown c.in_ok-read_at.ensures.reads.only c.in_ok-read_at-2.ensures.shown c.in_ok-read_at-2.ensures.reads.only.later)
