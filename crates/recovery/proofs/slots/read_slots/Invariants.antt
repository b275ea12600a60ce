use Rattle.recovery.proofs.Prelude.{Done, Reads, Shows, AreSlots}
use Rattle.recovery.specs.Slots.{AreIdsOf, HasRoom}
use Rattle.recovery.proofs.slots.read_slots.Given as goal

abbrev pub invariant-loop-slot : goal.invariant-loop-slot
invariant-loop-slot g l =
    let view = g.D.Disk.view in
    Reads Done (view l.fn.disk) (view l.disk)
    × ((are : AreSlots (Shows (view l.fn.disk) (view l.disk)) l.slot l.tables) × (AreIdsOf are.held l.ids × HasRoom l.room))
