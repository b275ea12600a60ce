use Rattle.journal_cells.proofs.Prelude.{◌≡◌, ◌*◌, ◌++◌, length, map, drop, record_value, cells_of}
use Rattle.journal_cells.proofs.checkpoint.cells_of.Given as goal

-- the cells so far and those of the records that are left are all
abbrev pub invariant-loop-record : goal.invariant-loop-record
invariant-loop-record l = record {
  cells : l.cells.items ++ cells_of (map record_value (drop l.record-index l.records)) ≡ cells_of (map record_value l.records);
  long : length l.cells.items ≡ 512 * l.record-index;
}
