use Rattle.journal_cells.proofs.Prelude.{◌≡◌, ◌-◌, length, sym, ap, ◌∙◌, arith}
use Rattle.base_model.specs.Bytes.{zeros}
use Rattle.journal_cells.proofs.Parts.{fields_long}
use Rattle.journal_cells.proofs.spelling.fields.Goals as goal

pub returns-clause-length : goal.returns-clause-length
returns-clause-length c =
    let count : c.len.result ≡ length c.args.value.now.name.items = omega (arith, c.len.ensures) in
    fields_long c.in_ok-bytes.bytes.items c.deref.result.now c.deref-2.result.now c.extend_from_slice.new.self.items c.extend_from_slice-2.new.self.items
    c.in_ok-extend_from_slice.ensures.items c.in_ok-extend_from_slice-2.ensures.items c.in_ok-bytes.ensures.length
    (c.deref-2.ensures.value ∙ c.in_ok-rest.ensures ∙ ap (λ n. zeros (428 - n)) (count ∙ sym (ap length c.deref.ensures.value)))
    (omega (arith, c.requires, ap length c.deref.ensures.value))
