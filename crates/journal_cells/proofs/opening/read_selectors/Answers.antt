use Rattle.journal_cells.proofs.Prelude.{◌≡◌, ◌∙◌, ℕ, List, sym, ap, selector_at, always, weaker, Selection, IsSelectorBreak, selectors_read, selection_of, AreSelectorCells}
use Rattle.base_model.specs.Bytes.{range}
use Rattle.journal_cells.proofs.Breaks.{selectors_break, selector_of_bytes}
use Rattle.journal_cells.proofs.Outcomes.{cause_found, reads_found, read_failed}
use Rattle.journal_cells.proofs.opening.read_selectors.Goals as goal

pub returns-in_err-first-clause-only : goal.returns-in_err-first-clause-only
returns-in_err-first-clause-only g c =
    always _ _ _ (λ image sized s held older. read_failed (λ (t : Selection). t.selector ≡ s) c.from_residual.result c.in_err-first.field-0.0 c.from_residual.ensures.1
    c.in_err-first.ensures.cause)

both_read : (image first second : List ℕ) → AreSelectorCells first second image → selection_of image ≡ selectors_read first second
both_read image first second cells = ap (λ l. selectors_read l (range (selector_at 1) 512 image)) cells.0 ∙ ap (selectors_read first) cells.1

pub returns-clause-cause : goal.returns-clause-cause
returns-clause-cause g c =
    cause_found IsSelectorBreak selector_of_bytes _ c.selectors_in.result
    (λ f is. selectors_break c.in_ok-first.first c.in_ok-first.second f (sym c.selectors_in.ensures.read ∙ is))
    (λ f is. weaker _ _ (λ image sized read. both_read image c.in_ok-first.first c.in_ok-first.second read ∙ sym c.selectors_in.ensures.read ∙ is) c.in_ok-first.ensures.shown)

pub returns-clause-reads : goal.returns-clause-reads
returns-clause-reads g c =
    reads_found IsSelectorBreak selector_of_bytes c.selectors_in.result _ _ c.in_ok-first.ensures.reads
    (λ f is. selectors_break c.in_ok-first.first c.in_ok-first.second f (sym c.selectors_in.ensures.read ∙ is))
