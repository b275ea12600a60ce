use Rattle.recovery.proofs.Prelude.{length, arith, ap, ◌∙◌, WriteCall, ending, passed, never_refused}
use Rattle.recovery.proofs.Formatted.{length-format_cell}
use Rattle.recovery.proofs.Storing.{WritesStore, laid_broken, cell_on}
use Rattle.recovery.proofs.formatting.write_cells.Goals as goal

pub returns-in_err-lay_out : goal.returns-in_err-lay_out
returns-in_err-lay_out g c =
    let view = g.D.Disk.view in
    passed (λ e. WritesStore c.args.slots e (view c.args.disk.now) (view c.lay_out.new.disk)) (λ _. WriteCall) c.from_residual.result c.in_err-lay_out.field-0.0
    c.from_residual.ensures.1
    (laid_broken c.args.slots _ _ c.requires.blank c.in_err-lay_out.ensures.stays c.in_err-lay_out.ensures.faults)

pub write_gated-requires-clause-room : goal.write_gated-requires-clause-room
write_gated-requires-clause-room g c =
    omega (arith, ap length c.requires.cell ∙ length-format_cell c.args.slots, c.requires.size, c.in_ok-lay_out.ensures.stays.later.size_is)

pub write_gated-requires-clause-gate : goal.write_gated-requires-clause-gate
write_gated-requires-clause-gate g c = omega (arith, ap length c.requires.cell ∙ length-format_cell c.args.slots)

pub returns : goal.returns
returns g c =
    cell_on c.args.slots _ _ _ c.args.cell.now c.requires.count c.requires.size c.requires.cell c.requires.blank c.in_ok-lay_out.ensures.ok c.in_ok-lay_out.ensures.stays
    (ending (λ _. WriteCall) c.write_gated.result) (never_refused c.write_gated.result) c.in_ok-lay_out.ensures.faults c.write_gated.ensures
