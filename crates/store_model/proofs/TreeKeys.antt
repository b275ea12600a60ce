-- Something holds of each key of a tree.
use Rattle.store_model.proofs.Prelude.{◌≡◌, ◌⊎◌, inl, inr, ◌<◌, ℕ, zero, suc, List, [], ◌∷◌, length, arith, subst, slice_index_or, AllByRecursion, Contains, Contains-append_cases, Trees, Empty, Node, NoTree, Then, leaves, leaves_below, nodes_of, nodes_below, of_segment, contents_of, AllKeys, keys_below, tree_keys, leaf_key, node_key}
use Rattle.merkle_file.specs.Tree.{Tree, Leaf}
use Rattle.store_model.proofs.HeldTrees.{all_first, all_second}

pub either_part : {A B C : Type 0} → (A → C) → (B → C) → A ⊎ B → C
either_part f g (inl a) = f a
either_part f g (inr b) = g b

module _ (P : List ℕ → Type 0) where
  pub none_there : (key : List ℕ) → Contains [] key → P key
  none_there key there = absurd (omega (arith, there.1))

  -- of the first, and of the others
  pub at_head : (top key : List ℕ) (keys : List (List ℕ)) → P top → (Contains keys key → P key) → Contains (top ∷ keys) key → P key
  at_head top key keys first later there = by_place there.0 there.1 there.2
    where
      by_place : (i : ℕ) → i < length (top ∷ keys) → slice_index_or (top ∷ keys) i key ≡ key → P key
      by_place zero below is = subst P is first
      by_place (suc i) below is = later (i, omega (arith, below), is)

  -- where it does of those of the leaves and of the nodes
  mutual
    pub keys_of_tree : (t : Tree (List ℕ)) → AllByRecursion (λ s. P (leaf_key s)) (leaves t) → AllByRecursion (λ n. P (node_key n)) (nodes_of of_segment t) → AllKeys P t
    keys_of_tree Empty each nodes key there = none_there key there
    keys_of_tree (Leaf segment) each nodes key there = at_head (leaf_key segment) key [] each.0 (none_there key) there
    keys_of_tree (Node level ts) each nodes key there =
        at_head (node_key (contents_of level ts)) key (keys_below ts) (all_second (λ n. P (node_key n)) (nodes_below of_segment ts) _ nodes).0
        (keys_of_trees ts each (all_first (λ n. P (node_key n)) (nodes_below of_segment ts) _ nodes) key) there

    keys_of_trees : (ts : Trees (List ℕ)) → AllByRecursion (λ s. P (leaf_key s)) (leaves_below ts) → AllByRecursion (λ n. P (node_key n)) (nodes_below of_segment ts) →
        (key : List ℕ) → Contains (keys_below ts) key → P key
    keys_of_trees NoTree each nodes key there = none_there key there
    keys_of_trees (Then t ts) each nodes key there =
        either_part (keys_of_tree t (all_first (λ s. P (leaf_key s)) (leaves t) (leaves_below ts) each)
        (all_first (λ n. P (node_key n)) (nodes_of of_segment t) (nodes_below of_segment ts) nodes) key)
        (keys_of_trees ts (all_second (λ s. P (leaf_key s)) (leaves t) (leaves_below ts) each)
        (all_second (λ n. P (node_key n)) (nodes_of of_segment t) (nodes_below of_segment ts) nodes) key)
        (Contains-append_cases (tree_keys t) (keys_below ts) key there)
