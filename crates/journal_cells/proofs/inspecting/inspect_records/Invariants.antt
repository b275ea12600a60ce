use Rattle.journal_cells.proofs.Prelude.{◌≡◌, ◌-◌, Bool, Done, Reads, half_cells, nothing_yet, replay}
use Rattle.inspection.specs.Handing.{Finds}
use Rattle.journal_cells.specs.Inspecting.{records_found}
use Rattle.journal_cells.proofs.inspecting.inspect_records.Given as goal

-- the cells before this one were inspected, and the rest is still to be found
abbrev pub invariant-loop : goal.invariant-loop
invariant-loop g l = record {
  count : l.before.count ≡ l.counter;
  reads : Reads Done (g.D.Disk.view l.fn.disk) (g.D.Disk.view l.disk);
  found : (counts : Bool) → Finds g.S.SpellsDamage.line (records_found l.half counts half_cells nothing_yet)
      (records_found l.half counts (half_cells - l.before.count) (replay l.before))
      (g.D.Disk.view l.fn.disk) (g.D.Disk.view l.disk) (g.K.Sink.view l.fn.sink, l.fn.tally) (g.K.Sink.view l.sink, l.tally);
}
