-- A tree is held where the newest copies of its leaves and nodes are.
use Rattle.store_model.proofs.Prelude.{ℕ, List, [], ◌∷◌, ◌++◌, Option, AllByRecursion, HeaderValue, Contents, spelling, Trees, Empty, Node, NoTree, Then, leaves, leaves_below, nodes_of, nodes_below, of_segment, leaf_key, node_key, HasNewest, HoldsTree, HoldsTrees}
use Rattle.merkle_file.specs.Tree.{Tree, Leaf}

-- what is so of each of two lists
pub all_first : {X : Type 0} (P : X → Type 0) (xs ys : List X) → AllByRecursion P (xs ++ ys) → AllByRecursion P xs
all_first P [] ys all = tt
all_first P (x ∷ xs) ys all = (all.0, all_first P xs ys all.1)

pub all_second : {X : Type 0} (P : X → Type 0) (xs ys : List X) → AllByRecursion P (xs ++ ys) → AllByRecursion P ys
all_second P [] ys all = all
all_second P (x ∷ xs) ys all = all_second P xs ys all.1

module _ (held : List (Option HeaderValue)) (image : List ℕ) where
  -- the newest copy of a leaf is the leaf, and that of a node its spelling
  abbrev pub HasLeaf : List ℕ → Type 0
  HasLeaf segment = HasNewest held (leaf_key segment) 0 segment image

  abbrev pub HasNode : Contents → Type 0
  HasNode n = HasNewest held (node_key n) n.level (spelling n) image

  mutual
    pub tree_held : (t : Tree (List ℕ)) → AllByRecursion HasLeaf (leaves t) → AllByRecursion HasNode (nodes_of of_segment t) → HoldsTree held image t
    tree_held Empty each nodes = tt
    tree_held (Leaf segment) each nodes = each.0
    tree_held (Node level ts) each nodes =
        ((all_second HasNode (nodes_below of_segment ts) _ nodes).0, trees_held ts each (all_first HasNode (nodes_below of_segment ts) _ nodes))

    pub trees_held : (ts : Trees (List ℕ)) → AllByRecursion HasLeaf (leaves_below ts) → AllByRecursion HasNode (nodes_below of_segment ts) → HoldsTrees held image ts
    trees_held NoTree each nodes = tt
    trees_held (Then t ts) each nodes = (
      tree_held t (all_first HasLeaf (leaves t) (leaves_below ts) each) (all_first HasNode (nodes_of of_segment t) (nodes_below of_segment ts) nodes),
      trees_held ts (all_second HasLeaf (leaves t) (leaves_below ts) each) (all_second HasNode (nodes_of of_segment t) (nodes_below of_segment ts) nodes),
    )
