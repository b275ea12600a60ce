use Rattle.std.proofs.Common.{◌≡◌, length, map, take}
use Rattle.container_meta.specs.declared.place.Place.{Place}
use Rattle.namespace.specs.Listing.{listed_value}
use Rattle.read_steps.proofs.Walked.{IsWalkingAll}
use Rattle.read_steps.proofs.trees.walk_trees.Given as goal

abbrev pub invariant-loop-file : goal.invariant-loop-file
invariant-loop-file g l =
    let view = g.D.Disk.view in
    record {
      walking : IsWalkingAll g.row.N.Denot g.N.NotesKeys.notes l.fn.index l.index (view l.fn.disk) (view l.disk)
          (take l.file-index (map listed_value l.files)) l.passed l.fn.notes l.notes;
      size : length l.buf ≡ length l.fn.buf;
      stays : (p : Place) → g.N.NotesKeys.takes l.fn.notes p → g.N.NotesKeys.takes l.notes p;
    }
