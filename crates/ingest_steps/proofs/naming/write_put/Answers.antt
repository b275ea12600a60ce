use Rattle.ingest_steps.proofs.Prelude.{subst, ending_of, Writes, record_value, Records, IsRecorded}
use Rattle.journal_cells.specs.Faults.{blames}
use Rattle.ingest_steps.proofs.Named.{there_after}
use Rattle.ingest_steps.proofs.naming.write_put.Goals as goal

pub take_back-requires : goal.take_back-requires
take_back-requires g c = record {
  there = there_after (record_value c.args.put) c.args.tables.now.names c.apply.new.self c.requires.put.0 c.requires.put.1 c.in-Ok.ensures.ok;
}

pub returns-in-Ok-write_prepared-clause-writes : goal.returns-in-Ok-write_prepared-clause-writes
returns-in-Ok-write_prepared-clause-writes g c = c.in-Ok-write_prepared.ensures.writes c.args.tables.now.names c.requires.prepared

pub returns-in-Err-write_prepared-clause-writes : goal.returns-in-Err-write_prepared-clause-writes
returns-in-Err-write_prepared-clause-writes g c =
    let t = c.args.tables.now in
    let r = record_value c.args.put in
    subst (λ f. Writes (Records t.names t.journal r) (IsRecorded t.names t.journal r) (ending_of (blames f)) (g.D.Disk.view c.args.disk.now)
    (g.D.Disk.view c.write_prepared.new.disk))
    c.in-Err-write_prepared.ensures.cause (c.in-Err-write_prepared.ensures.writes t.names c.requires.prepared)
