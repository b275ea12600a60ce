use Rattle.ingest_steps.proofs.Prelude.{subst, ending_of, Writes, record_value, Records, IsRecorded}
use Rattle.journal_cells.specs.Faults.{blames}
use Rattle.ingest_steps.proofs.naming.write_delete.Goals as goal

pub returns-in-Err-clause-writes : goal.returns-in-Err-clause-writes
returns-in-Err-clause-writes g c =
    let t = c.args.tables.now in
    let r = record_value c.args.delete.now in
    subst (λ f. Writes (Records t.names t.journal r) (IsRecorded t.names t.journal r) (ending_of (blames f)) (g.D.Disk.view c.args.disk.now)
    (g.D.Disk.view c.write_prepared.new.disk))
    c.in-Err.ensures.cause (c.in-Err.ensures.writes t.names c.requires.prepared)

pub returns-clause-writes : goal.returns-clause-writes
returns-clause-writes g c = c.in-Ok.ensures.writes c.args.tables.now.names c.requires.prepared
