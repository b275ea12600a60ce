-- Each key of a tree is one of which something holds that holds of the tree's root, as that it is live.
use Rattle.gc_steps.proofs.Prelude.{◌≡◌, ◌⊎◌, inl, inr, ℕ, suc, ◌+◌, Bool, true, false, List, [], map, Option, refl, sym, ◌∙◌, ap, subst, arith, if◌then◌else◌, All, eqb-true, Contains-append_cases, key_of, kind_byte, PlaceMap, HeaderValue, LiveKeys, child_key, child_keys, Trees, child_of, children_of, level_of, of_segment, IsTree, AreBelow, contents_of, tree_keys, keys_below, HoldsTree, HoldsTrees, leaf_key, node_key, IsLive, IsRootOf, HoldsNode}
use Rattle.std.specs.Prelude.{◌==◌}
use Rattle.std.specs.List.{Contains}
use Rattle.container_meta.specs.declared.kind.Kind.TheVariants as kinds
use Rattle.gc_enumerate.specs.Scanning.{child_kind}
use Rattle.merkle_file.specs.Node.{Contents}
use Rattle.merkle_file.specs.Tree as tree
use Rattle.merkle_file.specs.Tree.{Tree}
use Rattle.store_model.specs.Reserve.{AllKeys}
use Rattle.store_model.specs.Slots.{Copy}
use Rattle.gc_steps.proofs.Marked.{contains_first, contains_none}

-- a node names a tree below it by the key of that tree's root
pub child_root : (level : ℕ) (t : Tree (List ℕ)) → level_of t + 1 ≡ level → IsTree t → IsRootOf (child_key level (child_of of_segment t)) t
child_root level tree.Empty below right = absurd right
child_root level (tree.Leaf segment) below right = ap (λ (l : ℕ). key_of (kind_byte (child_kind l)) (child_of of_segment (tree.Leaf segment)).digest) (sym below)
child_root level (tree.Node l ts) below right =
    by_test (level == 1) refl
  where
    by_test : (b : Bool) → level == 1 ≡ b → child_key level (child_of of_segment (tree.Node l ts)) ≡ node_key (contents_of l ts)
    by_test false is = ap (λ (b : Bool). key_of (kind_byte (if b then kinds.Leaf else kinds.Tree)) (child_of of_segment (tree.Node l ts)).digest) is
    by_test true is = absurd (omega (arith, eqb-true level 1 is, below, right.0.above))

-- Where something holds of the children of each node of whose key it holds, it holds of each key of a tree of whose root it does.
module _ (held : List (Option HeaderValue)) (image : List ℕ) (P : List ℕ → Type 0)
    (closed : (n : Contents) (copy : Copy) → HoldsNode held image n copy → P (node_key n) → All P (child_keys n)) where
  mutual
    pub closed_tree : (t : Tree (List ℕ)) (root : List ℕ) → IsTree t → HoldsTree held image t → IsRootOf root t → P root → AllKeys P t
    closed_tree tree.Empty root right holds is marked key has = absurd right
    closed_tree (tree.Leaf segment) root right holds is marked key has = leaf_only (contains_first (leaf_key segment) key [] has)
      where
        leaf_only : (key ≡ leaf_key segment) ⊎ Contains [] key → P key
        leaf_only (inl same) = subst P (is ∙ sym same) marked
        leaf_only (inr none) = absurd (contains_none key none)
    closed_tree (tree.Node level ts) root right holds is marked key has =
        let n : Contents = contents_of level ts in
        let top : P (node_key n) = subst P is marked in
        let below : All P (map (child_key level) (children_of of_segment ts)) =
        closed n holds.0.copy (record { right = right.0; copy_is = holds.0.copy_is; bytes_are = holds.0.bytes_are }) top in
        first_or (contains_first (node_key n) key (keys_below ts) has) top (closed_trees level ts right.1 holds.1 below)
      where
        first_or : (key ≡ node_key (contents_of level ts)) ⊎ Contains (keys_below ts) key → P (node_key (contents_of level ts)) → ((k : List ℕ) → Contains (keys_below ts) k → P k)
            → P key
        first_or (inl same) top rest = subst P (sym same) top
        first_or (inr there) top rest = rest key there

    pub closed_trees : (level : ℕ) (ts : Trees (List ℕ)) → AreBelow level ts → HoldsTrees held image ts → All P (map (child_key level) (children_of of_segment ts))
        → (key : List ℕ) → Contains (keys_below ts) key → P key
    closed_trees level tree.NoTree below holds all key has = absurd (contains_none key has)
    closed_trees level (tree.Then t ts) below holds all key has =
        either (Contains-append_cases (tree_keys t) (keys_below ts) key has)
        (closed_tree t (child_key level (child_of of_segment t)) below.1 holds.0 (child_root level t below.0 below.1)
        (all 0 (child_key level (child_of of_segment t)) (omega arith)))
        (closed_trees level ts below.2 holds.1 (λ k d within. all (suc k) d (omega (arith, within))))
      where
        either : Contains (tree_keys t) key ⊎ Contains (keys_below ts) key → AllKeys P t → ((k : List ℕ) → Contains (keys_below ts) k → P k) → P key
        either (inl there) first rest = first key there
        either (inr there) first rest = rest key there

-- So each key of a tree is live whose root is, once a collection has marked.
pub live_tree : (held : List (Option HeaderValue)) (image : List ℕ) (index : PlaceMap) (live : LiveKeys)
    → ((n : Contents) (copy : Copy) → HoldsNode held image n copy → IsLive index live (node_key n) → All (IsLive index live) (child_keys n))
    → (t : Tree (List ℕ)) (root : List ℕ) → IsTree t → HoldsTree held image t → IsRootOf root t → IsLive index live root → AllKeys (IsLive index live) t
live_tree held image index live closed = closed_tree held image (IsLive index live) closed
