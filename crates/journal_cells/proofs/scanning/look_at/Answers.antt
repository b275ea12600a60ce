use Rattle.journal_cells.proofs.Past.{none_among, one_among, read_so}
use Rattle.journal_cells.proofs.scanning.look_at.Goals as goal

pub returns-in-Some-clause-found : goal.returns-in-Some-clause-found
returns-in-Some-clause-found g c =
    let view = g.D.Disk.view in
    one_among c.args.half c.args.from c.args.count (view c.args.disk.now) (view c.read_at.new.disk) c.read_at.new.into
    (read_so c.args.half c.args.from c.args.count (view c.args.disk.now) (view c.read_at.new.disk) c.cell_at.result c.args.buf.now c.read_at.new.into c.cell_at.ensures
    c.requires.room c.in_ok-read_at.ensures.shown)
    c.in-Some.number c.in-Some.ensures

pub returns-in-None-clause-found : goal.returns-in-None-clause-found
returns-in-None-clause-found g c =
    let view = g.D.Disk.view in
    none_among c.args.half c.args.from c.args.count (view c.args.disk.now) (view c.read_at.new.disk) c.read_at.new.into
    (read_so c.args.half c.args.from c.args.count (view c.args.disk.now) (view c.read_at.new.disk) c.cell_at.result c.args.buf.now c.read_at.new.into c.cell_at.ensures
    c.requires.room c.in_ok-read_at.ensures.shown)
    c.in-None.ensures
