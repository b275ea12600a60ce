use Rattle.journal_cells.proofs.Prelude.{AreShut}
use Rattle.journal_cells.proofs.scanning.first_open.Given as goal

abbrev pub invariant-loop-number : goal.invariant-loop-number
invariant-loop-number l = AreShut l.number l.cells
