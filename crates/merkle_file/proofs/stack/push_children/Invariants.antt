use Rattle.merkle_file.proofs.Prelude.{◌≡◌, ◌++◌, ◌+◌, ◌≤◌, drop, length, map, reverse, below}
use Rattle.std.proofs.Common.{vec_capacity}
use Rattle.merkle_file.specs.Reading.{children_in}
use Rattle.merkle_file.proofs.stack.push_children.Given as goal

abbrev pub invariant-loop-index : goal.invariant-loop-index
invariant-loop-index l = record {
  items : l.stack.items ≡ l.fn.stack.items ++ reverse (map (below l.level) (drop l.index (children_in l.count l.entries)));
  room : length l.stack.items + l.index ≤ vec_capacity l.stack;
  within : l.index ≤ l.count;
  capacity : vec_capacity l.stack ≡ vec_capacity l.fn.stack;
}

abbrev pub decreases-loop-index : goal.decreases-loop-index
decreases-loop-index l = l.index
