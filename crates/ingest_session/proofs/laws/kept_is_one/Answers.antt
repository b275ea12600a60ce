use Rattle.ingest_session.proofs.KeptOnes as ones
use Rattle.ingest_session.proofs.laws.kept_is_one.Goals as goal

pub returns : goal.returns
returns c = ones.kept_is_one
