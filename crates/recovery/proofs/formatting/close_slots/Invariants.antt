use Rattle.std.specs.Prelude.{◌≡◌, option_map}
use Rattle.recovery.proofs.Prelude.{StaysBlank}
use Rattle.recovery.specs.Formatting.{with_closed}
use Rattle.recovery.proofs.formatting.close_slots.Given as goal

abbrev pub invariant-loop-slot : goal.invariant-loop-slot
invariant-loop-slot g l =
    let old = g.D.Disk.view l.fn.disk in
    let now = g.D.Disk.view l.disk in
    (now.content ≡ option_map (with_closed l.slot) old.content)
    × StaysBlank l.slots old now
    × (now.faults ≡ old.faults)
