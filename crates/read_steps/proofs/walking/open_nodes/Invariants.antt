use Rattle.std.proofs.Common.{◌≡◌, ℕ, List}
use Rattle.disk_format.specs.declared.why.Why.{Why}
use Rattle.dd_disk.specs.Ending.{Done, Reads}
use Rattle.read_steps.specs.Walking.{Walked, WasRead, level_ahead}
use Rattle.read_steps.proofs.walking.open_nodes.Given as goal

abbrev pub invariant-loop-digest : goal.invariant-loop-digest
invariant-loop-digest g l = record {
  walked : Walked (WasRead (g.X.Index.places l.fn.index (g.D.Disk.view l.fn.disk).content) (g.D.Disk.view l.fn.disk) (g.D.Disk.view l.disk)) l.fn.cursor l.cursor;
  map : g.X.Index.places l.index (g.D.Disk.view l.disk).content ≡ g.X.Index.places l.fn.index (g.D.Disk.view l.fn.disk).content;
  form : (at : ℕ) (why : Why) (bytes : List ℕ) → g.X.Index.breaks l.index at why bytes → g.X.Index.breaks l.fn.index at why bytes;
  served : g.X.Index.serves l.index (g.D.Disk.view l.disk).size;
  reads : Reads Done (g.D.Disk.view l.fn.disk) (g.D.Disk.view l.disk);
}

abbrev pub decreases-loop-digest : goal.decreases-loop-digest
decreases-loop-digest g l = level_ahead l.cursor
