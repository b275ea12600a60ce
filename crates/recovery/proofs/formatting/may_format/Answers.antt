use Rattle.recovery.proofs.Prelude.{◌∙◌, sym, arith, weaker}
use Rattle.recovery.proofs.Formatted.{first_byte}
use Rattle.recovery.proofs.formatting.may_format.Goals as goal

pub returns-then-gate-clause-refused : goal.returns-then-gate-clause-refused
returns-then-gate-clause-refused g c = (
  omega (arith, c.size-got.ensures, c.if-got-want.false, c.size_of-want.ensures),
  weaker _ _ (λ image sized read. first_byte image c.read_at.new.into read ∙ c.if-gate.true)
      c.in-Ok.ensures.shown,
)

pub returns-clause-closed : goal.returns-clause-closed
returns-clause-closed g c =
    weaker _ _ (λ image sized read opened. c.if-gate.false (sym (first_byte image c.read_at.new.into read) ∙ opened)) c.in-Ok.ensures.shown
