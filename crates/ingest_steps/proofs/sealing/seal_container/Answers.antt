use Rattle.ingest_steps.proofs.Sealed.{slot_fits, slot_within, seals_container, changes_slot}
use Rattle.ingest_steps.proofs.sealing.seal_container.Goals as goal

pub write_container-requires-clause-place : goal.write_container-requires-clause-place
write_container-requires-clause-place g c =
    slot_fits (g.D.Disk.view c.args.disk.now).size c.requires.state.0 c.args.tables.now c.args.slot c.requires.slot.1.slot_is c.requires.state.1

pub returns-clause-moves : goal.returns-clause-moves
returns-clause-moves g c = seals_container (g.D.Disk.view c.args.disk.now).size c.requires.state.0 c.args.tables.now c.args.slot c.args.id c.args.filled.now c.requires.state.1
    c.requires.slot.1 c.requires.id _ _ _ c.write_container.ensures.writes

pub returns-clause-frame : goal.returns-clause-frame
returns-clause-frame g c =
    changes_slot c.args.tables.now.slots c.args.slot c.args.id c.args.filled.now
    (slot_within (g.D.Disk.view c.args.disk.now).size c.requires.state.0 c.args.tables.now c.args.slot c.requires.slot.1.slot_is c.requires.state.1) _ _ _
    c.write_container.ensures.writes
