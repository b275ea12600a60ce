use Rattle.gc_steps.proofs.Prelude.{◌≡◌, ◌++◌, flat_map, listing_of, keys_of_listed}
use Rattle.gc_steps.specs.Roots.{keys_of_first}
use Rattle.gc_steps.proofs.roots.all_roots.Given as goal

abbrev pub invariant-loop-number : goal.invariant-loop-number
invariant-loop-number l = l.roots.items ≡ flat_map keys_of_listed (listing_of l.fn.names) ++ keys_of_first l.fn.parts l.number
