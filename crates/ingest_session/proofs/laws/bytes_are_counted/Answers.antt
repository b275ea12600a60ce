use Rattle.ingest_session.proofs.Ends as ends
use Rattle.ingest_session.proofs.laws.bytes_are_counted.Goals as goal

pub returns : goal.returns
returns c = ends.bytes_are_counted
