use Rattle.journal_cells.proofs.Prelude.{◌∙◌, sym, ap, passed_on, weaker, replay}
use Rattle.base_model.specs.Bytes.{range}
use Rattle.journal_cells.proofs.Scanned.{gate_read, next_fault}
use Rattle.journal_cells.proofs.scanning.read_next.Goals as goal

pub returns-then-cell-clause-next : goal.returns-then-cell-clause-next
returns-then-cell-clause-next g c =
    weaker _ _ (λ image sized read is. c.if-cell.true (sym (gate_read _ image c.read_at.new.into (ap (λ p. range p 512 image) (sym c.cell_at-at.ensures) ∙ read)) ∙ is))
    c.in_ok-read_at.ensures.shown

pub returns-in_err-next-clause-cause : goal.returns-in_err-next-clause-cause
returns-in_err-next-clause-cause g c =
    passed_on c.from_residual-in_err-next.result _ c.in_err-next.field-0.0 c.from_residual-in_err-next.ensures.1
    (next_fault _ _ c.args.half _ (replay c.args.before.now) c.read_at.new.into c.cell_at-at.ensures c.requires.room c.if-cell.false c.in_ok-read_at.ensures.shown
    c.in_err-next.field-0.0 c.in_err-next.ensures.read)
