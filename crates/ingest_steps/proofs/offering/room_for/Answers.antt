use Rattle.ingest_steps.proofs.Sealed.{few_slots}
use Rattle.ingest_steps.proofs.offering.room_for.Goals as goal

pub free-requires : goal.free-requires
free-requires c = few_slots c.requires.0 c.requires.1 c.args.tables.now c.requires.2
