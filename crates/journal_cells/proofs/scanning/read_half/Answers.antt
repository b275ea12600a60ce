use Rattle.journal_cells.proofs.Prelude.{passed_on, replay}
use Rattle.journal_cells.proofs.Past.{past_fault, records_fault, whole_half}
use Rattle.journal_cells.proofs.scanning.read_half.Goals as goal

pub returns-in_err-read-clause-cause : goal.returns-in_err-read-clause-cause
returns-in_err-read-clause-cause g c =
    let view = g.D.Disk.view in
    passed_on c.from_residual.result _ c.in_err-read.field-0.0 c.from_residual.ensures.1
    (records_fault c.args.half (view c.args.disk.now) (view c.read_records.new.disk) c.in_err-read.field-0.0 c.in_err-read.ensures.cause)

pub returns-in_err-check_closed-clause-cause : goal.returns-in_err-check_closed-clause-cause
returns-in_err-check_closed-clause-cause g c =
    let view = g.D.Disk.view in
    passed_on c.from_residual-in_err-check_closed.result _ c.in_err-check_closed.field-0.0 c.from_residual-in_err-check_closed.ensures.1
    (past_fault c.args.half (view c.args.disk.now) (view c.read_records.new.disk) (view c.check_closed.new.disk) (replay c.in_ok-read.read) c.in_ok-read.ensures.read
    c.in_ok-read.ensures.reads.only
    c.in_err-check_closed.ensures.reads.only c.in_err-check_closed.field-0.0 c.in_err-check_closed.ensures.cause)

pub returns-clause-whole : goal.returns-clause-whole
returns-clause-whole g c =
    let view = g.D.Disk.view in
    whole_half c.args.half (view c.args.disk.now) (view c.read_records.new.disk) (view c.check_closed.new.disk) (replay c.in_ok-read.read) c.in_ok-read.ensures.read
    c.in_ok-read.ensures.reads.only
    c.in_ok-check_closed.ensures.reads.only c.in_ok-check_closed.ensures.closed
