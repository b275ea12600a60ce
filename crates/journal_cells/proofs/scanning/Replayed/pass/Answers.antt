use Rattle.journal_cells.proofs.Prelude.{◌∙◌, ap, subst, sym, refl, arith, RecordValue, IsName, record_value, names_taking, replay}
use Rattle.journal_cells.proofs.Found.{own_named}
use Rattle.journal_cells.proofs.Inspected.{passes_by, takes_part, names_take, names_keep}
use Rattle.journal_cells.proofs.scanning.Replayed.pass.Goals as goal

pub returns-in-Err-clause-passed : goal.returns-in-Err-clause-passed
returns-in-Err-clause-passed c = passes_by c.args.at (replay c.args.self.now) _ c.args.cell.now c.in-Err.field-0 (sym c.check_own.ensures ∙ c.in-Err.is) refl refl refl

pub returns-in-Ok-apply-clause-passed : goal.returns-in-Ok-apply-clause-passed
returns-in-Ok-apply-clause-passed c =
    let value = record_value c.in_ok-value.value in
    takes_part c.args.at (replay c.args.self.now) _ c.args.cell.now (sym c.check_own.ensures ∙ c.in-Ok.is) refl (ap (λ (r : RecordValue). r.sequence) c.in_ok-value.ensures)
    (c.in-Ok-apply.ensures.ok ∙ sym (names_take c.args.self.now.names value c.in-Ok-apply.ensures.taken) ∙ ap (names_taking c.args.self.now.names) c.in_ok-value.ensures)

pub returns : goal.returns
returns c =
    let value = record_value c.in_ok-value.value in
    let named = subst (λ (r : RecordValue). IsName r.name) (sym c.in_ok-value.ensures)
    (own_named c.args.at c.args.cell.now (λ i. omega (arith, c.type_inv.cell i)) c.requires.length (sym c.check_own.ensures ∙ c.in-Ok.is)) in
    record {
      passed =
          takes_part c.args.at (replay c.args.self.now) _ c.args.cell.now (sym c.check_own.ensures ∙ c.in-Ok.is) refl (ap (λ (r : RecordValue). r.sequence) c.in_ok-value.ensures)
          (c.in-Err-apply.ensures.err ∙ sym (names_keep c.args.self.now.names value c.in-Err-apply.fault named c.in-Err-apply.ensures.cause c.in_default.not-Memory)
          ∙ ap (names_taking c.args.self.now.names) c.in_ok-value.ensures);
      halt = tt;
    }
