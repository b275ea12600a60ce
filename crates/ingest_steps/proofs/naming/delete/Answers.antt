use Rattle.ingest_steps.proofs.Prelude.{Delete}
use Rattle.ingest_steps.proofs.RecordFrames.{journal_here}
use Rattle.ingest_steps.proofs.naming.delete.Goals as goal

pub returns-in_err-may_delete-clause-frame : goal.returns-in_err-may_delete-clause-frame
returns-in_err-may_delete-clause-frame g c = journal_here c.args.tables.now c.args.name.now Delete (g.D.Disk.view c.args.disk.now)
