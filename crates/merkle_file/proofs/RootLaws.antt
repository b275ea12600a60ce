-- What the root of a tree over segments says, its nodes, and the one spelling of a node.
use Rattle.merkle_file.proofs.Prelude.{◌≡◌, ℕ, zero, suc, ◌+◌, ◌^◌, ◌≤◌, List, [], ◌∷◌, ◌++◌, length, map, refl, sym, ap, ◌∙◌, arith, sum_by, AllByRecursion, append-nil, sum_by-cons, MOST_CHILDREN, MOST_FILE, MOST_LEVEL, Form, ByCount, most_level, Contents, IsNode, IsWithin, any_node, contents_in, Tree, Trees, Empty, Leaf, Node, NoTree, Then, child_of, joined, level_of, nodes_of, nodes_below, of_segment, root_of, grouped, tree_of, AreBelow, IsTree, trees_in}
use Rattle.std.specs.List.{concat}
use Rattle.sha2.specs.Sha256.{sha256}
use Rattle.merkle_file.specs.Node.{SpellingsTellNodes, spelling}
use Rattle.merkle_file.specs.Tree.{tree_over, BytesAreSegments, NoneIsEmpty, OneIsLeaf}
use Rattle.merkle_file.specs.Roots.{MayBeFile, IsRootOf, RootsAreRight, NodesAreRight}
use Rattle.merkle_file.proofs.Nodes.{node_again}
use Rattle.merkle_file.proofs.Placing.{length-sha256}
use Rattle.merkle_file.proofs.TreeLaws.{groups_few, length_map, leaves_are_segments}
use Rattle.merkle_file.proofs.RightTrees.{Segments, size, sizes, IsRightAt, grouped_right, grouped_sizes, row_right, some_size, leaves_right, trees_are_right}

-- ---- spellings

within_any : (n : Contents) → IsNode n → IsWithin any_node n
within_any n right = record { lowest = right.above; greatest = right.level; least = omega arith; most = right.total }

read_again : (n : Contents) → IsNode n → contents_in (spelling n) ≡ n
read_again n right =
    (node_again any_node n (record { lowest = omega arith; greatest = omega arith; most = omega arith }) right (within_any n right)).1

pub spellings_tell_nodes : SpellingsTellNodes
spellings_tell_nodes n m right right' same = sym (read_again n right) ∙ ap contents_in same ∙ read_again m right'

-- ---- small trees

over_none : (form : Form) (levels : ℕ) → tree_over form of_segment levels 0 [] ≡ Empty
unfolding tree_over
over_none form zero = refl
over_none form (suc levels) = refl

over_leaf : (form : Form) (levels : ℕ) (segment : List ℕ) → tree_over form of_segment levels 0 (Leaf segment ∷ []) ≡ Leaf segment
unfolding tree_over
over_leaf form zero segment = refl
over_leaf form (suc levels) segment = refl

pub none_is_empty : NoneIsEmpty
none_is_empty form = over_none form (most_level form)

pub one_is_leaf : OneIsLeaf
one_is_leaf form segment = over_leaf form (most_level form) segment

-- ---- bytes

pub bytes_are_segments : BytesAreSegments
bytes_are_segments form segments few = ap concat (leaves_are_segments form segments few)

-- ---- nodes

all_nodes : (ns ms : List Contents) → AllByRecursion IsNode ns → AllByRecursion IsNode ms → AllByRecursion IsNode (ns ++ ms)
all_nodes [] ms a b = b
all_nodes (n ∷ ns) ms a b = (a.0, all_nodes ns ms a.1 b)

mutual
  nodes_right : (t : Tree (List ℕ)) → IsTree t → AllByRecursion IsNode (nodes_of of_segment t)
  nodes_right Empty right = tt
  nodes_right (Leaf segment) right = tt
  nodes_right (Node level ts) right = all_nodes (nodes_below of_segment ts) _ (nodes_below_right level ts right.1) (right.0, tt)

  nodes_below_right : (level : ℕ) (ts : Trees (List ℕ)) → AreBelow level ts → AllByRecursion IsNode (nodes_below of_segment ts)
  nodes_below_right level NoTree right = tt
  nodes_below_right level (Then t ts) right = all_nodes (nodes_of of_segment t) (nodes_below of_segment ts) (nodes_right t right.1) (nodes_below_right level ts right.2)

nodes_in : (t : Tree (List ℕ)) → AllByRecursion IsTree (trees_in t) → AllByRecursion IsNode (nodes_of of_segment t)
nodes_in Empty right = tt
nodes_in (Leaf segment) right = tt
nodes_in (Node level ts) right = nodes_right (Node level ts) right.0

pub nodes_are_right : NodesAreRight
nodes_are_right form segments may = nodes_in (tree_of form of_segment segments) (trees_are_right form segments may.each may.most)

-- ---- the root

-- a tree over trees of a level, of which there is one at least
pub record IsOver (level : ℕ) (ts : List Segments) (t : Segments) : Type 0 where
  pub right : IsRightAt (level_of t) t
  pub all : size t ≡ sizes ts
  pub above : level ≤ level_of t
  pub low : level_of t ≤ MOST_LEVEL
  pub one : level_of t ≡ level → length ts ≤ 1

over_one : (level : ℕ) (t : Segments) → level ≤ MOST_LEVEL → IsRightAt level t → IsOver level (t ∷ []) t
over_one level t low right = record {
  right = rw right.level_is right;
  all = omega (arith, sum_by-cons size t []);
  above = omega (arith, right.level_is);
  low = omega (arith, right.level_is);
  one = λ _. omega arith;
}

some_trees : (ts : List Segments) → 1 ≤ sizes ts → 1 ≤ length ts
some_trees [] some = absurd (omega arith)
some_trees (t ∷ ts) some = omega arith

-- the tree over the trees of the next level is over these
over_next : (level : ℕ) (ts up : List Segments) (t : Segments) → sizes up ≡ sizes ts → IsOver (level + 1) up t → IsOver level ts t
over_next level ts up t same next = record {
  right = next.right;
  all = next.all ∙ same;
  above = omega (arith, next.above);
  low = next.low;
  one = λ here. absurd (omega (arith, next.above, here));
}

tree_over_right : (levels level : ℕ) (ts : List Segments) → level + levels ≡ MOST_LEVEL → 1 ≤ length ts → AllByRecursion (IsRightAt level) ts →
    sizes ts ≤ MOST_FILE → length ts ≤ MOST_CHILDREN ^ levels → IsOver level ts (tree_over ByCount of_segment levels level ts)
unfolding tree_over
tree_over_right levels level [] e some all most few = absurd (omega arith)
tree_over_right zero level (t ∷ []) e some all most few = over_one level t (omega (arith, e)) all.0
tree_over_right (suc levels) level (t ∷ []) e some all most few = over_one level t (omega (arith, e)) all.0
tree_over_right zero level (t ∷ u ∷ ts) e some all most few = absurd (omega (arith, few))
tree_over_right (suc levels) level (t ∷ u ∷ ts) e some all most few =
    let groups : List (List Segments) = grouped ByCount (child_of of_segment) (t ∷ u ∷ ts) in
    let up : List Segments = map (joined (level + 1)) groups in
    let sum : sum_by sizes groups ≡ sizes (t ∷ u ∷ ts) = omega (arith, grouped_sizes ByCount (child_of of_segment) [] (t ∷ u ∷ ts)) in
    let row = row_right level groups (omega (arith, e)) (grouped_right level [] (t ∷ u ∷ ts) (omega arith) tt all) (omega (arith, sum, most)) in
    let same : sizes up ≡ sizes (t ∷ u ∷ ts) = row.1 ∙ sum in
    let there : 1 ≤ length up = some_trees up (omega (arith, same, some_size level (t ∷ u ∷ ts) some all)) in
    over_next level (t ∷ u ∷ ts) up (tree_over ByCount of_segment levels (level + 1) up) same
    (tree_over_right levels (level + 1) up (omega (arith, e)) there row.0 (omega (arith, same, most)) (groups_few of_segment levels (level + 1) (t ∷ u ∷ ts) few))

-- a tree over two segments or more is a node
root_of_many : (segments : List (List ℕ)) → 2 ≤ length segments → MayBeFile ByCount segments → IsRootOf ByCount segments (root_of of_segment (tree_of ByCount of_segment segments))
root_of_many segments two may =
    let right = leaves_right segments may.each in
    let count = length_map {Y = Segments} Leaf segments in
    let over = tree_over_right MOST_LEVEL 0 (map Leaf segments) refl (omega (arith, count, two)) right.0
    (omega (arith, right.1, may.most)) (omega (arith, count, may.few)) in
    let node : 1 ≤ level_of (tree_of ByCount of_segment segments) = above_zero (level_of (tree_of ByCount of_segment segments)) (λ none. omega (arith, over.one none, count, two))
    in
    record {
      size = over.all ∙ right.1;
      level = over.low;
      digest = over.right.child.digest;
      one = λ none. absurd (omega (arith, node, none));
      leaf = λ few. absurd (omega (arith, two, few));
      whole = λ none. absurd (omega (arith, node, none));
      short = λ none. absurd (omega (arith, node, none));
      some = λ _. over.right.child.some;
      empty = λ none. absurd (omega (arith, over.right.child.some, none));
    }
  where
    above_zero : (n : ℕ) → (n ≡ 0 → ⊥) → 1 ≤ n
    above_zero n h = omega arith

pub roots_are_right : RootsAreRight
unfolding tree_over
roots_are_right ByCount [] may = record {
  size = refl;
  level = omega arith;
  digest = length-sha256 [];
  one = λ _. omega arith;
  leaf = λ _. refl;
  whole = λ _. refl;
  short = λ _. omega arith;
  some = λ h. absurd (omega arith);
  empty = λ _. refl;
}
roots_are_right ByCount (s ∷ []) may = record {
  size = omega (arith, sum_by-cons length s []);
  level = omega arith;
  digest = length-sha256 s;
  one = λ _. omega arith;
  leaf = λ _. refl;
  whole = λ _. ap sha256 (sym (append-nil s));
  short = λ _. may.each.0.1;
  some = λ h. absurd (omega arith);
  empty = λ none. absurd (omega (arith, may.each.0.0, none));
}
roots_are_right ByCount (s ∷ u ∷ ss) may = root_of_many (s ∷ u ∷ ss) (omega arith) may
