use Rattle.gc_sweep.proofs.Prelude.{◌+◌, spared}
use Rattle.dd_disk.proofs.Later.{reads_here}
use Rattle.ingest_steps.proofs.AfterReads.{indexed_refused_by}
use Rattle.gc_sweep.proofs.Written.{flushed_on, writes_copies}
use Rattle.gc_sweep.proofs.flushing.flush_copies.Goals as goal

pub returns-in_err-slot-clause-moves : goal.returns-in_err-slot-clause-moves
returns-in_err-slot-clause-moves g c =
    let old = g.D.Disk.view c.args.disk.now in
    let t = c.args.tables.now in
    indexed_refused_by t (t.held.last_id + 1) c.args.sweep.now.buffer old old (reads_here old) c.from_residual.result _ c.from_residual.ensures.1

pub returns-in_err-empty-clause-moves : goal.returns-in_err-empty-clause-moves
returns-in_err-empty-clause-moves g c =
    let old = g.D.Disk.view c.args.disk.now in
    let t = c.args.tables.now in
    indexed_refused_by t (t.held.last_id + 1) c.args.sweep.now.buffer old old (reads_here old) c.from_residual-in_err-empty.result _ c.from_residual-in_err-empty.ensures.1

pub returns-clause-written : goal.returns-clause-written
returns-clause-written g c =
    let old = g.D.Disk.view c.args.disk.now in
    let known = g.X.Index.places c.args.index.now old.content in (
      c.in_ok-slot.slot,
      writes_copies c.args.tables.now old.size known c.in_ok-slot.slot c.args.sweep.now.buffer c.flush.new.tables c.in_ok-flush.field-0 c.in_ok-slot.ensures.slot
          (c.in_ok-flush.ensures.ok spared c.in_ok-slot.ensures.slot),
      c.in_ok-flush.ensures.map,
    )

pub returns-clause-under_way : goal.returns-clause-under_way
returns-clause-under_way g c = λ snapshot under.
    let old = g.D.Disk.view c.args.disk.now in
    let known = g.X.Index.places c.args.index.now old.content in
    flushed_on old.size c.args.source c.args.entry snapshot known c.args.tables.now c.flush.new.tables c.in_ok-slot.slot c.args.sweep.now c.take_flushed.new.sweep c.requires.runs
    c.requires.next
    (writes_copies c.args.tables.now old.size known c.in_ok-slot.slot c.args.sweep.now.buffer c.flush.new.tables c.in_ok-flush.field-0 c.in_ok-slot.ensures.slot
    (c.in_ok-flush.ensures.ok spared c.in_ok-slot.ensures.slot))
    c.take_flushed.ensures under
