use Rattle.ingest_workers.proofs.Owed.{jobs_are_owed}
use Rattle.ingest_workers.proofs.laws.what_jobs_ask_for_is_owed.Goals as goal

pub returns : goal.returns
returns c = jobs_are_owed
