use Rattle.store_machine.proofs.Goodness.{ingests_through}
use Rattle.store_machine.proofs.IngestRefused.{ingests_by_map, ingests_clash}
use Rattle.store_machine.proofs.laws.an_ingest_puts_its_file.Goals as goal

pub returns : goal.returns
returns c = record { ended = ingests_by_map; clashes = ingests_clash; through = ingests_through }
