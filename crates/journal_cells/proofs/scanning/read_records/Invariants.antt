use Rattle.journal_cells.proofs.Prelude.{◌≡◌, Done, Reads, Shows, replay, IsPart}
use Rattle.journal_cells.proofs.scanning.read_records.Given as goal

abbrev pub invariant-loop : goal.invariant-loop
invariant-loop g l = record {
  count : l.before.count ≡ l.counter;
  reads : Reads Done (g.D.Disk.view l.fn.disk) (g.D.Disk.view l.disk);
  part : IsPart (Shows (g.D.Disk.view l.fn.disk) (g.D.Disk.view l.disk)) l.half (replay l.before);
}
