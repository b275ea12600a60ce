use Rattle.ingest_steps.proofs.Prelude.{◌<◌, false, sym, subst, half_cells, Done, Broken, ending_of, Writes, passed, record_value, Appends, IsAppended, Checkpoints, IsCheckpointed, RecordsBy, IsRecordedBy}
use Rattle.journal_cells.specs.Faults.{blames as call_blamed}
use Rattle.ingest_steps.proofs.Recorded.{both_written, checkpoint_broke}
use Rattle.ingest_steps.proofs.recording.write_both.Goals as goal

pub returns-in_err-write_checkpoint-clause-writes : goal.returns-in_err-write_checkpoint-clause-writes
returns-in_err-write_checkpoint-clause-writes g c = λ names is.
    let j = c.args.journal.now in
    let r = record_value c.args.made.now in
    let old = g.D.Disk.view c.args.disk.now in
    let new = g.D.Disk.view c.write_checkpoint.new.disk in
    let fault = c.in_err-write_checkpoint.field-0.0 in
    let cause = c.in_err-write_checkpoint.ensures.cause in
    passed (λ x. Writes (RecordsBy false names j r) (IsRecordedBy false names j r) x old new) call_blamed c.from_residual.result fault c.from_residual.ensures.1
    (subst (λ f. Writes (RecordsBy false names j r) (IsRecordedBy false names j r) (ending_of (call_blamed f)) old new) (sym cause)
    (checkpoint_broke names j r old new
    (subst (λ f. Writes (Checkpoints j names) (IsCheckpointed j names) (ending_of (call_blamed f)) old new) cause (c.in_err-write_checkpoint.ensures.writes names is))))

pub returns-in-Ok-clause-writes : goal.returns-in-Ok-clause-writes
returns-in-Ok-clause-writes g c = λ names is.
    let r = record_value c.args.made.now in
    let mid = g.D.Disk.view c.write_checkpoint.new.disk in
    let new = g.D.Disk.view c.append.new.disk in
    let first = c.in_ok-write_checkpoint.ensures in
    let journal = first.journal names is in
    both_written names c.args.journal.now r Done (g.D.Disk.view c.args.disk.now) new mid (subst (λ k. k.count < half_cells) journal first.room) (first.writes names is) tt
    (subst (λ k. Writes (Appends k r) (IsAppended k r) Done mid new) journal c.in-Ok.ensures.writes)

pub returns-in-Err-clause-writes : goal.returns-in-Err-clause-writes
returns-in-Err-clause-writes g c = λ names is.
    let j = c.args.journal.now in
    let r = record_value c.args.made.now in
    let old = g.D.Disk.view c.args.disk.now in
    let mid = g.D.Disk.view c.write_checkpoint.new.disk in
    let new = g.D.Disk.view c.append.new.disk in
    let first = c.in_ok-write_checkpoint.ensures in
    let journal = first.journal names is in
    let cause = c.in-Err.ensures.cause in
    let after = subst (λ k. Writes (Appends k r) (IsAppended k r) Broken mid new) journal
    (subst (λ f. Writes (Appends c.write_checkpoint.new.self r) (IsAppended c.write_checkpoint.new.self r) (ending_of (call_blamed f)) mid new) cause c.in-Err.ensures.writes) in
    subst (λ f. Writes (RecordsBy false names j r) (IsRecordedBy false names j r) (ending_of (call_blamed f)) old new) (sym cause)
    (both_written names j r Broken old new mid (subst (λ k. k.count < half_cells) journal first.room) (first.writes names is) tt after)
