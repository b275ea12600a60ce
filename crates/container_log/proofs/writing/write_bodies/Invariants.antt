use Rattle.std.proofs.Common.{◌≡◌, ◌≤◌, length}
use Rattle.disk_format.specs.declared.numbers.TheConstants.{SLOT_BYTES}
use Rattle.dd_disk.specs.Ending.{Done}
use Rattle.dd_disk.specs.Wrote.{SameIn, Wrote}
use Rattle.container_log.specs.Many.{AreDigests, NoBody, HaveBodies, SpellsOne}
use Rattle.container_log.proofs.writing.write_bodies.Given as goal

abbrev pub invariant-loop-index : goal.invariant-loop-index
invariant-loop-index g l = record {
  image : length l.image ≡ SLOT_BYTES;
  spells : 1 ≤ l.index → SpellsOne l.id l.filled l.image;
  digests : AreDigests l.index l.id l.filled l.digests;
  wrote : Wrote (SameIn (NoBody l.slots)) (HaveBodies l.index l.slots l.id l.filled) Done (g.D.Disk.view l.fn.disk) (g.D.Disk.view l.disk);
}
