use Rattle.recovery.proofs.Prelude.{Done, Broken, until, shown_content}
use Rattle.recovery.proofs.Storing.{blank_content, format_leaves, format_acts, format_left}
use Rattle.recovery.proofs.formatting.format.Goals as goal

pub write_store-requires-clause-blank : goal.write_store-requires-clause-blank
write_store-requires-clause-blank g c =
    let may = c.in_ok-may_format.ensures in
    blank_content c.args.slots _ _ c.requires may.size may.reads.only may.closed

-- ---- an empty store was made

pub returns-in-Ok-clause-done : goal.returns-in-Ok-clause-done
returns-in-Ok-clause-done g c =
    let may = c.in_ok-may_format.ensures in
    let writes = c.in-Ok.ensures.writes in
    (may.size, until _ _ _ may.closed may.reads.only.later.clock_is writes.later)

pub returns-in-Ok-clause-left : goal.returns-in-Ok-clause-left
returns-in-Ok-clause-left g c =
    let view = g.D.Disk.view in
    let may = c.in_ok-may_format.ensures in
    format_left c.args.slots (view c.args.disk.now) (view c.may_format.new.disk) (view c.write_store.new.disk) may.size may.reads.only may.closed c.in-Ok.ensures.left

pub returns-in-Ok-clause-crash : goal.returns-in-Ok-clause-crash
returns-in-Ok-clause-crash g c = format_leaves c.args.slots _ _ _ c.in_ok-may_format.ensures.reads Done c.in-Ok.ensures.writes

pub returns-in-Ok-clause-disk : goal.returns-in-Ok-clause-disk
returns-in-Ok-clause-disk g c = format_acts c.args.slots _ _ _ c.in_ok-may_format.ensures.reads Done c.in-Ok.ensures.writes

pub returns-in-Ok-clause-store : goal.returns-in-Ok-clause-store
returns-in-Ok-clause-store g c = λ image known gate. absurd (shown_content _ _ _ image c.in_ok-may_format.ensures.closed known gate)

-- ---- a write failed

pub returns-clause-left : goal.returns-clause-left
returns-clause-left g c =
    let view = g.D.Disk.view in
    let may = c.in_ok-may_format.ensures in
    format_left c.args.slots (view c.args.disk.now) (view c.may_format.new.disk) (view c.write_store.new.disk) may.size may.reads.only may.closed c.in-Err.ensures.left

pub returns-clause-crash : goal.returns-clause-crash
returns-clause-crash g c = format_leaves c.args.slots _ _ _ c.in_ok-may_format.ensures.reads Broken c.in-Err.ensures.writes

pub returns-clause-disk : goal.returns-clause-disk
returns-clause-disk g c = format_acts c.args.slots _ _ _ c.in_ok-may_format.ensures.reads Broken c.in-Err.ensures.writes

pub returns-clause-store : goal.returns-clause-store
returns-clause-store g c = λ image known gate. absurd (shown_content _ _ _ image c.in_ok-may_format.ensures.closed known gate)

pub returns-clause-refused : goal.returns-clause-refused
returns-clause-refused g c =
    let may = c.in_ok-may_format.ensures in
    let writes = c.in-Err.ensures.writes in
    (may.size, until _ _ _ may.closed may.reads.only.later.clock_is writes.later)
