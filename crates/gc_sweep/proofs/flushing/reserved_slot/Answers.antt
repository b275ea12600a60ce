use Rattle.gc_sweep.proofs.Prelude.{◌<◌, LAST_ID}
use Rattle.std.proofs.Common.{rules}
use Rattle.gc_sweep.proofs.OnDisk.{few_slots}
use Rattle.gc_sweep.proofs.Written.{has_slot}
use Rattle.gc_sweep.proofs.flushing.reserved_slot.Goals as goal

pub first_free-requires : goal.first_free-requires
first_free-requires c = few_slots c.requires.runs.0 c.requires.runs.1 c.args.tables.now c.requires.runs.2

pub returns-clause-slot : goal.returns-clause-slot
returns-clause-slot c =
    let below : c.args.tables.now.held.last_id < LAST_ID = search rules in
    has_slot c.args.tables.now c.in-Some.slot c.requires.room below c.in-Some.ensures.some
