use Rattle.ingest_session.proofs.Ends as ends
use Rattle.ingest_session.proofs.laws.all_is_kept.Goals as goal

pub returns : goal.returns
returns c = ends.all_is_kept
