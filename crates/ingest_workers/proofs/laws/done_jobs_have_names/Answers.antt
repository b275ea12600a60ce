use Rattle.ingest_workers.proofs.NamesAfter.{jobs_have_names, streams_stay}
use Rattle.ingest_workers.proofs.laws.done_jobs_have_names.Goals as goal

pub returns-clause-stay : goal.returns-clause-stay
returns-clause-stay c = streams_stay

pub returns-clause-names : goal.returns-clause-names
returns-clause-names c = jobs_have_names
