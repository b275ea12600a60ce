use Rattle.gc_steps.proofs.Prelude.{◌≡◌, None, take, Done, AreFound}
use Rattle.dd_disk.specs.Ending.{Reads}
use Rattle.gc_steps.proofs.starting.look_up_all.Given as goal

-- those before this one were found, and calls only read
abbrev pub invariant-loop-root : goal.invariant-loop-root
invariant-loop-root g l =
    AreFound (g.X.Index.places l.fn.index (g.D.Disk.view l.fn.disk).content) (take l.root-index l.roots)
    × (g.X.Index.places l.index (g.D.Disk.view l.disk).content ≡ g.X.Index.places l.fn.index (g.D.Disk.view l.fn.disk).content)
    × (g.X.Index.places l.index None ≡ g.X.Index.places l.fn.index None)
    × Reads Done (g.D.Disk.view l.fn.disk) (g.D.Disk.view l.disk)
    × g.X.Index.serves l.index (g.D.Disk.view l.disk).size
