use Rattle.ingest_steps.proofs.Prelude.{true, subst, record_value}
use Rattle.ingest_steps.specs.Recording.{IsCellFor}
use Rattle.ingest_steps.proofs.Recorded.{cell_of_count, records_by}
use Rattle.ingest_steps.proofs.recording.write_prepared.Goals as goal

pub write_both-requires-clause-prepared : goal.write_both-requires-clause-prepared
write_both-requires-clause-prepared g c =
    let prepared = c.requires.prepared in
    (prepared.0, (subst (IsCellFor prepared.0 c.args.journal.now) c.in-Some.is prepared.1).1)

pub returns-in-None-clause-writes : goal.returns-in-None-clause-writes
returns-in-None-clause-writes g c = λ names is.
    let j = c.args.journal.now in
    records_by names j (record_value c.args.made.now) _ (g.D.Disk.view c.args.disk.now) (g.D.Disk.view c.append.new.disk) true
    (cell_of_count j (subst (IsCellFor names j) c.in-None.is is)) c.append.ensures.writes
