use Rattle.ingest_workers.proofs.Rightly.{owed_runs_are_right}
use Rattle.ingest_workers.proofs.laws.what_is_owed_is_right.Goals as goal

pub returns : goal.returns
returns g c = owed_runs_are_right _ g.C.HasState.state
