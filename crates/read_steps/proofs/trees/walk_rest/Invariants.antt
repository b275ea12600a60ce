use Rattle.std.proofs.Common.{◌≡◌, ◌+◌, length}
use Rattle.std.specs.Prelude.{if◌then◌else◌}
use Rattle.container_meta.specs.declared.place.Place.{Place}
use Rattle.dd_disk.specs.Ending.{Done, Reads}
use Rattle.read_steps.specs.Trees.{IsHeld, Walks, WhereHeld, walk_state}
use Rattle.read_steps.proofs.Walked.{ahead_of}
use Rattle.read_steps.specs.Visiting.{steps_ahead}
use Rattle.read_steps.proofs.trees.walk_rest.Given as goal

abbrev pub invariant-loop-more : goal.invariant-loop-more
invariant-loop-more g l =
    let view = g.D.Disk.view in
    let M = g.row.N.Denot in
    let R = g.N.NotesKeys.notes in
    let old = view l.fn.disk in
    let now = view l.disk in
    record {
      walks : Walks M R l.fn.index old now (walk_state M l.fn.cursor l.fn.passed l.fn.notes) (walk_state M (ahead_of l.more l.cursor) l.passed l.notes);
      index_is : l.index ≡ l.fn.index;
      size : length l.buf ≡ length l.fn.buf;
      stays : (p : Place) → g.N.NotesKeys.takes l.fn.notes p → g.N.NotesKeys.takes l.notes p;
      reads : Reads Done old now;
      held : WhereHeld l.fn.index old.content (λ counts held image. IsHeld counts held image l.fn.cursor)
          (λ counts held image. IsHeld counts held image l.cursor);
    }

abbrev pub decreases-loop-more : goal.decreases-loop-more
decreases-loop-more g l = if l.more then steps_ahead l.cursor + 1 else 0
