use Rattle.journal_cells.proofs.Prelude.{length}
use Rattle.journal_cells.proofs.Filling.{leaves_over}
use Rattle.journal_cells.proofs.checkpoint.write_twice.Goals as goal

pub returns-clause-leaves : goal.returns-clause-leaves
returns-clause-leaves g c =
    let view = g.D.Disk.view in
    leaves_over c.args.at (length c.args.blanks.now) (length c.args.cells.now) (view c.args.disk.now) (view c.write.new.self) (view c.write_some.new.disk) c.requires.room
    c.requires.fits c.write.ensures.later c.write.ensures.leaves c.write_some.ensures.leaves
