use Rattle.merkle_file.proofs.TreeLaws.{leaves_are_segments, segments_alike}
use Rattle.merkle_file.proofs.RightTrees.{trees_are_right}
use Rattle.merkle_file.proofs.RootLaws.{bytes_are_segments, none_is_empty, one_is_leaf, nodes_are_right, roots_are_right}
use Rattle.merkle_file.proofs.laws.tree_of_segments.Goals as goal

pub returns-clause-alike : goal.returns-clause-alike
returns-clause-alike c = segments_alike

pub returns-clause-leaves : goal.returns-clause-leaves
returns-clause-leaves c = leaves_are_segments

pub returns-clause-right : goal.returns-clause-right
returns-clause-right c = trees_are_right

pub returns-clause-bytes : goal.returns-clause-bytes
returns-clause-bytes c = bytes_are_segments

pub returns-clause-none : goal.returns-clause-none
returns-clause-none c = none_is_empty

pub returns-clause-one : goal.returns-clause-one
returns-clause-one c = one_is_leaf

pub returns-clause-nodes : goal.returns-clause-nodes
returns-clause-nodes c = nodes_are_right

pub returns-clause-root : goal.returns-clause-root
returns-clause-root c = roots_are_right
