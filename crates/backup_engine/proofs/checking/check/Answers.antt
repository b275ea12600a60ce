use Rattle.backup_engine.proofs.Checked.{checked_damaged, checked_right, last_lost}
use Rattle.backup_engine.proofs.checking.check.Goals as goal

-- nothing breaks the format
pub returns-in-Ok-write_checked-clause-checks : goal.returns-in-Ok-write_checked-clause-checks
returns-in-Ok-write_checked-clause-checks g c =
    let last = c.in-Ok-write_checked.ensures in
    checked_right _ _ _ _ _ c.in-Ok.tally c.in-Ok.ensures.done last.ok last.cause.done c.if-tally-eq0.true

pub returns-in-Ok-2-clause-checks : goal.returns-in-Ok-2-clause-checks
returns-in-Ok-2-clause-checks g c =
    let last = c.in-Ok-2.ensures in
    checked_damaged _ _ _ _ _ c.in-Ok.tally c.in-Ok.ensures.done last.ok last.cause.done c.if-tally-eq0.false

-- the sink failed at the last line
pub returns-in-Err-clause-checks : goal.returns-in-Err-clause-checks
returns-in-Err-clause-checks g c =
    let last = c.in-Err.ensures in
    last_lost _ _ _ _ _ c.in-Ok.tally c.in-Ok.ensures.done last.err last.cause.failed
