use Rattle.gc_steps.proofs.Prelude.{◌≡◌, ◌++◌, map, take, flat_map, listed_value, keys_of_listed}
use Rattle.gc_steps.proofs.roots.add_listed.Given as goal

abbrev pub invariant-loop-file : goal.invariant-loop-file
invariant-loop-file l = l.roots.items ≡ l.fn.roots.items ++ flat_map keys_of_listed (map listed_value (take l.file-index l.files))
