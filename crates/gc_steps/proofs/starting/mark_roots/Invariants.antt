use Rattle.gc_steps.proofs.Prelude.{map, take, Marks, key_at}
use Rattle.std.specs.List.{Contains}
use Rattle.gc_steps.proofs.starting.mark_roots.Given as goal

abbrev pub invariant-loop-root : goal.invariant-loop-root
invariant-loop-root l = Marks (Contains (map key_at (take l.root-index l.roots))) l.fn.live l.live
