use Rattle.merkle_file.proofs.Prelude.{◌≡◌, ◌++◌, take, flat_map, entry}
use Rattle.merkle_file.proofs.writing.push_entries.Given as goal

abbrev pub invariant-loop-child : goal.invariant-loop-child
invariant-loop-child l = l.bytes.items ≡ l.fn.bytes.items ++ flat_map entry (take l.child-index l.children)
