use Rattle.journal_cells.proofs.Prelude.{◌∙◌, ◌+◌, ◌≤◌, refl, arith, subst, Done, Shows, reads_none, reads_on, half_cells, IsFirstAmong}
use Rattle.journal_cells.proofs.Past.{more_closed, none_looked_at, open_there}
use Rattle.journal_cells.proofs.scanning.check_closed.Goals as goal

pub loop-cell-init : goal.loop-cell-init
loop-cell-init g c =
    let v = g.D.Disk.view c.args.disk.now in
    record { above = omega arith; within = c.requires.within; long = refl; closed = none_looked_at c.args.half c.args.from v; reads = reads_none v }

pub returns-in-Some-clause-cause : goal.returns-in-Some-clause-cause
returns-in-Some-clause-cause g c =
    let view = g.D.Disk.view in
    let so_far = c.loop-cell.invariant in
    let few : c.loop-cell.cell + c.min-count.result ≤ half_cells = omega (arith, c.min-count.ensures, c.loop-cell-test.true) in
    open_there c.args.half c.args.from c.loop-cell.cell (view c.args.disk.now) (view c.loop-cell.disk) (view c.look_at.new.disk) so_far.above so_far.closed so_far.reads.only
    c.in_ok-open.ensures.reads.only
    c.min-count.result c.in-Some.open c.open_cell.result few c.open_cell.ensures
    (subst (IsFirstAmong (Shows (view c.loop-cell.disk) (view c.look_at.new.disk)) c.args.half c.loop-cell.cell c.min-count.result) c.in-Some.is c.in_ok-open.ensures.found)

pub loop-cell-preserved : goal.loop-cell-preserved
loop-cell-preserved g c =
    let view = g.D.Disk.view in
    let old = view c.args.disk.now in
    let mid = view c.loop-cell.disk in
    let new = view c.look_at.new.disk in
    let so_far = c.loop-cell.invariant in
    record {
      above = omega (arith, so_far.above);
      within = omega (arith, c.min-count.ensures, c.loop-cell-test.true);
      long = c.in_ok-open.ensures.kept ∙ so_far.long;
      closed = more_closed c.args.half c.args.from c.loop-cell.cell old mid new so_far.above so_far.closed so_far.reads.only c.in_ok-open.ensures.reads.only c.min-count.result
          (subst (IsFirstAmong (Shows mid new) c.args.half c.loop-cell.cell c.min-count.result) c.in-None.is c.in_ok-open.ensures.found);
      reads = reads_on Done old mid new so_far.reads c.in_ok-open.ensures.reads;
    }
