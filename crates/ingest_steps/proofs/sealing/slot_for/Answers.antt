use Rattle.ingest_steps.proofs.Sealed.{few_slots}
use Rattle.ingest_steps.proofs.sealing.slot_for.Goals as goal

pub free-free-requires : goal.free-free-requires
free-free-requires c = few_slots c.requires.0 c.requires.1 c.args.tables.now c.requires.2

pub first_free-requires : goal.first_free-requires
first_free-requires c = few_slots c.requires.0 c.requires.1 c.args.tables.now c.requires.2
