use Rattle.ingest_workers.proofs.Ingesting.{gives_are_ingests}
use Rattle.ingest_workers.proofs.laws.what_is_given_is_ingested.Goals as goal

pub returns : goal.returns
returns c = gives_are_ingests
