use Rattle.merkle_file.specs.Steps.{place}
use Rattle.merkle_file.proofs.Prelude.{items_of}
use Rattle.merkle_file.proofs.Placing.{IsOnWay}
use Rattle.merkle_file.proofs.rows.placement_of.Given as goal

abbrev pub invariant-loop-level : goal.invariant-loop-level
invariant-loop-level l = IsOnWay l.level l.child (items_of l.rows) l.nodes.items (place 0 l.fn.leaf (items_of l.rows))
