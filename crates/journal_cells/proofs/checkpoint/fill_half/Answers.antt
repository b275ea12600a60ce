use Rattle.journal_cells.proofs.Prelude.{never_refused}
use Rattle.journal_cells.proofs.Filling.{fills_half}
use Rattle.journal_cells.proofs.checkpoint.fill_half.Goals as goal

pub returns : goal.returns
returns g c =
    let view = g.D.Disk.view in
    fills_half c.args.half c.args.fresh.now _ _ _ _ _ c.cell_at.ensures c.selector_at.ensures c.deref.ensures.value c.deref-2.ensures.value c.deref-3.ensures.value
    c.requires.fits.blanks
    _ (view c.args.disk.now) (view c.write_over.new.disk) (view c.write_gated.new.disk) (never_refused c.write_gated.result) c.in_ok-write_over.ensures c.write_gated.ensures
