-- How many leaves were pushed, and of how many bytes at most.
use Rattle.std.proofs.Common.{◌≡◌, ◌*◌, ◌≤◌}
use Rattle.merkle_file.specs.Building.{total_of}
use Rattle.part_rows.proofs.nodes.built.Given as goal

abbrev pub invariant-loop-leaf : goal.invariant-loop-leaf
invariant-loop-leaf l = record {
  count : l.builder.leaves ≡ l.leaf-index;
  total : total_of l.builder.rows ≤ 16384 * l.leaf-index;
}
