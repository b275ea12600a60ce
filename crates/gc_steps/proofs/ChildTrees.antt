-- The children of a node whose tree is held whole are the roots of trees that are held whole, one level below.
use Rattle.gc_steps.proofs.Prelude.{◌≡◌, ℕ, ◌+◌, List, ◌∷◌, map, Option, refl, sym, ◌∙◌, ap, subst, arith, All, Contains-append_left, Contains-append_right, sha256, PlaceMap, HeaderValue, child_key, child_keys, node_digest, Trees, child_of, children_of, level_of, of_segment, AreBelow, IsTree, contents_of, HoldsCounted, keys_below, tree_keys, HasKey, newest, HoldsTrees, bytes_at, leaf_key, node_key, some_same, one_spelling, HoldsNode, IsRootOf, IsWhole}
use Rattle.std.specs.List.{Contains}
use Rattle.std.proofs.lemmas.List.Elements.{All-nil, All-cons}
use Rattle.merkle_file.specs.Node.{Contents}
use Rattle.merkle_file.specs.Tree as tree
use Rattle.merkle_file.specs.Tree.{Tree}
use Rattle.store_model.specs.Slots.{Copy}
use Rattle.gc_steps.proofs.Marked.{contains_next}
use Rattle.gc_steps.proofs.Needed.{child_root}

first_same : (a b : ℕ) (xs ys : List ℕ) → a ∷ xs ≡ b ∷ ys → a ≡ b
first_same a b xs ys same = cc

-- no key of a segment is that of a node
pub leaf_apart : (segment : List ℕ) (n : Contents) → leaf_key segment ≡ node_key n → ⊥
leaf_apart segment n same = let wrong = first_same 0 1 (sha256 segment) (node_digest n) same in omega (arith, wrong)

-- A tree is that of a node over some trees.
pub record IsTreeOf (t : Tree (List ℕ)) (n : Contents) : Type 0 where
  pub level : ℕ
  pub below : Trees (List ℕ)
  pub tree_is : t ≡ tree.Node level below
  pub node_is : contents_of level below ≡ n

-- The tree of a key is held whole, and its root is one level below another.
pub record IsWholeBelow (index : PlaceMap) (held : List (Option HeaderValue)) (image : List ℕ) (level : ℕ) (key : List ℕ) : Type 0 where
  pub is_whole : IsWhole index held image key
  pub below : level_of is_whole.whole + 1 ≡ level

module _ (index : PlaceMap) (held : List (Option HeaderValue)) (image : List ℕ) where
  -- a held tree whose root has the key of a node that is held is the node's
  tree_of_node : (t : Tree (List ℕ)) (n : Contents) (copy : Copy) → IsTree t → HoldsCounted (HasKey index) held image t → HoldsNode held image n copy → IsRootOf (node_key n) t
      → IsTreeOf t n
  tree_of_node tree.Empty n copy right holds node is = absurd right
  tree_of_node (tree.Leaf segment) n copy right holds node is = absurd (leaf_apart segment n (sym is))
  tree_of_node (tree.Node level ts) n copy right holds node is =
      let top = holds.tree_is_held.0 in
      let same : top.copy ≡ copy = some_same top.copy copy (sym top.copy_is ∙ ap (newest 0 held) (sym is) ∙ node.copy_is) in
      record {
        level = level;
        below = ts;
        tree_is = refl;
        node_is =
            one_spelling (contents_of level ts) n right.0 node.right
            (sym top.bytes_are ∙ ap (λ (c : Copy). bytes_at c.place image) same ∙ node.bytes_are);
      }

  pub node_of_whole : (key : List ℕ) (n : Contents) (copy : Copy) (whole : IsWhole index held image key) → HoldsNode held image n copy → key ≡ node_key n → IsTreeOf whole.whole n
  node_of_whole key n copy whole node is = tree_of_node whole.whole n copy whole.right whole.is_held node (subst (λ (k : List ℕ). IsRootOf k whole.whole) is whole.root_is)

  -- each of the trees below a node
  trees_whole : (level : ℕ) (ts : Trees (List ℕ)) → AreBelow level ts → HoldsTrees held image ts → ((key : List ℕ) → Contains (keys_below ts) key → HasKey index key)
      → All (IsWholeBelow index held image level) (map (child_key level) (children_of of_segment ts))
  trees_whole level tree.NoTree right holds count = All-nil (IsWholeBelow index held image level)
  trees_whole level (tree.Then t ts) right holds count =
      All-cons (IsWholeBelow index held image level) (child_key level (child_of of_segment t)) (map (child_key level) (children_of of_segment ts))
      (record {
        is_whole = record {
          whole = t;
          root_is = child_root level t right.0 right.1;
          right = right.1;
          is_held = record { tree_is_held = holds.0; count = λ key there. count key (Contains-append_left (tree_keys t) (keys_below ts) key there) };
        };
        below = right.0;
      })
      (trees_whole level ts right.2 holds.1 (λ key there. count key (Contains-append_right (tree_keys t) (keys_below ts) key there)))

  tree_whole : (t : Tree (List ℕ)) (n : Contents) → IsTreeOf t n → IsTree t → HoldsCounted (HasKey index) held image t → All (IsWholeBelow index held image n.level) (child_keys n)
  tree_whole t n is right holds =
      let right_node : IsTree (tree.Node is.level is.below) = subst IsTree is.tree_is right in
      let held_node : HoldsCounted (HasKey index) held image (tree.Node is.level is.below) = subst (HoldsCounted (HasKey index) held image) is.tree_is holds in
      subst (λ (m : Contents). All (IsWholeBelow index held image m.level) (child_keys m)) is.node_is
      (trees_whole is.level is.below right_node.1 held_node.tree_is_held.1
      (λ key there. held_node.count key (contains_next (node_key (contents_of is.level is.below)) key (keys_below is.below) there)))

  -- The children of a node whose tree is held whole are held whole.
  pub children_whole : (n : Contents) (copy : Copy) → HoldsNode held image n copy → IsWhole index held image (node_key n)
      → All (IsWholeBelow index held image n.level) (child_keys n)
  children_whole n copy node whole = tree_whole whole.whole n (node_of_whole (node_key n) n copy whole node refl) whole.right whole.is_held
