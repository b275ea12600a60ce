use Rattle.ingest_session.proofs.Counts as counts
use Rattle.ingest_session.proofs.laws.steps_are_few.Goals as goal

pub returns : goal.returns
returns c = counts.steps_are_few
