use Rattle.journal_cells.proofs.Prelude.{◌≡◌, ◌*◌, ◌-◌, ◌≤◌, length, Done, Reads, Shows, half_cells, CELL_BYTES, AreClosed}
use Rattle.journal_cells.proofs.scanning.check_closed.Given as goal

-- the cells before this one are closed
abbrev pub invariant-loop-cell : goal.invariant-loop-cell
invariant-loop-cell g l = record {
  above : l.from ≤ l.cell;
  within : l.cell ≤ half_cells;
  long : length l.buf ≡ CELL_BYTES * 32;
  closed : Shows (g.D.Disk.view l.fn.disk) (g.D.Disk.view l.disk) (AreClosed l.half l.from l.cell);
  reads : Reads Done (g.D.Disk.view l.fn.disk) (g.D.Disk.view l.disk);
}

abbrev pub decreases-loop-cell : goal.decreases-loop-cell
decreases-loop-cell g l = half_cells - l.cell
