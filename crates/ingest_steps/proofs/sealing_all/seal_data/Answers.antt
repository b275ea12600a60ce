use Rattle.ingest_steps.proofs.Prelude.{ℕ}
use Rattle.ingest_steps.proofs.SealedAll.{changes_slots, ids_right, seals_data, slots_lie}
use Rattle.ingest_steps.proofs.sealing_all.seal_data.Goals as goal

pub write_containers-requires-clause-slots : goal.write_containers-requires-clause-slots
write_containers-requires-clause-slots g c =
    slots_lie (g.D.Disk.view c.args.disk.now).size c.requires.state.0 c.args.tables.now c.requires.state.1 c.requires.slots.0 c.args.slots.now c.requires.slots.1

pub write_containers-requires-clause-ids : goal.write_containers-requires-clause-ids
write_containers-requires-clause-ids g c = λ i within.
    ids_right (g.D.Disk.view c.args.disk.now).size c.requires.state.0 c.args.tables.now c.requires.state.1 c.requires.slots.0 c.args.slots.now c.requires.slots.1
    c.args.id c.requires.id
    i within

pub returns-clause-moves : goal.returns-clause-moves
returns-clause-moves g c =
    let size : ℕ = (g.D.Disk.view c.args.disk.now).size in
    seals_data size c.requires.state.0 c.args.tables.now c.requires.state.1 c.requires.slots.0 c.args.slots.now c.requires.slots.1 c.args.id c.requires.id c.args.filled.now
    c.requires.many.0 c.requires.leaves c.requires.right _ _ _ c.write_containers.ensures.moves c.write_containers.ensures.writes
    (slots_lie size c.requires.state.0 c.args.tables.now c.requires.state.1 c.requires.slots.0 c.args.slots.now c.requires.slots.1) c.write_containers.ensures.there

pub returns-clause-frame : goal.returns-clause-frame
returns-clause-frame g c = changes_slots c.args.tables.now.slots c.args.slots.now c.args.id c.args.filled.now _ _ _ c.write_containers.ensures.writes
