use Rattle.container_meta.proofs.Prelude.{◌≡◌, ◌*◌, take}
use Rattle.container_meta.specs.Spelling.{entries_spelling}
use Rattle.container_meta.proofs.writing.put_entries.Given as goal

abbrev pub invariant-loop-i : goal.invariant-loop-i
invariant-loop-i l = record {
  written : take (48 * l.i) l.out ≡ entries_spelling (take l.i l.entries);
}
