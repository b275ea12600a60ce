use Rattle.std.proofs.Common.{◌≡◌, ◌-◌, ◌≤◌, [], length, vec_capacity}
use Rattle.dd_disk.specs.Ending.{Done, Reads}
use Rattle.disk_format.specs.declared.numbers.TheConstants.{MOST_ENTRIES, SLOT_BYTES}
use Rattle.inspection.specs.Handing.{Finds}
use Rattle.container_log.specs.Inspecting.{slots_found}
use Rattle.container_log.proofs.inspecting.inspect_each.Given as goal

-- the slots before this one were inspected, and the rest is still to be found
abbrev pub invariant-loop-slot : goal.invariant-loop-slot
invariant-loop-slot g l = record {
  long : length l.bytes ≡ SLOT_BYTES;
  room : MOST_ENTRIES ≤ vec_capacity l.entries;
  reads : Reads Done (g.D.Disk.view l.fn.disk) (g.D.Disk.view l.disk);
  found : Finds g.S.SpellsDamage.line (slots_found l.slots 0 []) (slots_found (l.slots - l.slot) l.slot l.ids.items)
      (g.D.Disk.view l.fn.disk) (g.D.Disk.view l.disk) (g.K.Sink.view l.fn.sink, l.fn.tally) (g.K.Sink.view l.sink, l.tally);
}
