use Rattle.journal_cells.proofs.Prelude.{◌≡◌, ◌∙◌, ℕ, sym, ap, always, weaker, IsFormatBreak}
use Rattle.journal_cells.specs.Heads.{format_in as format_read}
use Rattle.journal_cells.proofs.Breaks.{format_break, format_of_bytes}
use Rattle.journal_cells.proofs.Outcomes.{cause_found, reads_found, read_failed}
use Rattle.journal_cells.proofs.opening.slots_of.Goals as goal

pub returns-in_err-read_at-clause-only : goal.returns-in_err-read_at-clause-only
returns-in_err-read_at-clause-only g c =
    always _ _ _ (λ image sized slots count spelled. read_failed (λ (n : ℕ). n ≡ slots) c.from_residual.result c.in_err-read_at.field-0.0 c.from_residual.ensures.1
    c.in_err-read_at.ensures.cause)

pub returns-clause-cause : goal.returns-clause-cause
returns-clause-cause g c =
    cause_found IsFormatBreak format_of_bytes _ c.format_in.result (λ f is. format_break c.read_at.new.into f (sym c.format_in.ensures.read ∙ is))
    (λ f is. weaker _ _ (λ image sized read. ap format_read read ∙ sym c.format_in.ensures.read ∙ is) c.in_ok-read_at.ensures.shown)

pub returns-clause-reads : goal.returns-clause-reads
returns-clause-reads g c =
    reads_found IsFormatBreak format_of_bytes c.format_in.result _ _ c.in_ok-read_at.ensures.reads (λ f is. format_break c.read_at.new.into f (sym c.format_in.ensures.read ∙ is))
