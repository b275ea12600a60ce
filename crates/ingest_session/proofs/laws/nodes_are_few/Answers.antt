use Rattle.ingest_session.proofs.Facts as facts
use Rattle.ingest_session.proofs.laws.nodes_are_few.Goals as goal

pub returns : goal.returns
returns c = facts.nodes_are_few
