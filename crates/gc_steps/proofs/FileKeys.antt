-- The keys that files need go from nodes to their children.
use Rattle.gc_steps.proofs.Prelude.{◌≡◌, ◌⊎◌, inl, inr, ℕ, Bool, List, [], ◌∷◌, map, length, ◌≤◌, Option, Some, None, sym, ◌∙◌, ap, subst, if◌then◌else◌, AllByRecursion, Contains-append_cases, Contains-append_left, Contains-append_right, HeaderValue, key_of, Root, MOST_FILE, child_key, child_keys, Top, node_digest, Trees, child_of, children_of, of_segment, AreBelow, IsTree, contents_of, trees_in, Named, Files, Store, names_of, IsReachable, keys_below, tree_keys, newest, IsFileOf, IsStoreOf, HoldsTree, HoldsTrees, bytes_at, file_tree, leaf_key, node_key, some_same, one_spelling, FitsFile, file_of_root, files_fit, right_file, root_of_tree, HoldsNode, HasRootKey, IsNameKey}
use Rattle.std.specs.FinMap as finite
use Rattle.std.specs.List.{Contains}
use Rattle.merkle_file.specs.Node.{Contents}
use Rattle.merkle_file.specs.Tree as tree
use Rattle.merkle_file.specs.Tree.{Tree}
use Rattle.store_model.specs.Slots.{Copy}
use Rattle.gc_steps.proofs.ListedKeys.{name_of_key}
use Rattle.gc_steps.proofs.ChildTrees.{leaf_apart}
use Rattle.gc_steps.proofs.Marked.{contains_first, contains_head, contains_next, contains_none}
use Rattle.gc_steps.proofs.Needed.{child_root}
use Rattle.gc_steps.proofs.RootTrees.{not_zero, root_there, top_key, top_of}

-- the keys by which a node names the trees below it are keys of these
child_below : (level : ℕ) (ts : Trees (List ℕ)) → AreBelow level ts → (key : List ℕ) → Contains (map (child_key level) (children_of of_segment ts)) key
    → Contains (keys_below ts) key
child_below level tree.NoTree right key there = absurd (contains_none key there)
child_below level (tree.Then t ts) right key there =
    by_place (contains_first (child_key level (child_of of_segment t)) key (map (child_key level) (children_of of_segment ts)) there) (child_below level ts right.2 key)
  where
    by_place : (key ≡ child_key level (child_of of_segment t)) ⊎ Contains (map (child_key level) (children_of of_segment ts)) key
        → (Contains (map (child_key level) (children_of of_segment ts)) key → Contains (keys_below ts) key) → Contains (keys_below (tree.Then t ts)) key
    by_place (inl same) rest =
        let top = root_there t (child_key level (child_of of_segment t)) (child_root level t right.0 right.1) in
        Contains-append_left (tree_keys t) (keys_below ts) key (subst (Contains (tree_keys t)) (sym (same ∙ top.1)) top.2)
    by_place (inr later) rest = Contains-append_right (tree_keys t) (keys_below ts) key (rest later)

-- A tree that is held and has the key of a node that is held has the keys of its children.
module _ (held : List (Option HeaderValue)) (image : List ℕ) (n : Contents) (copy : Copy) (node : HoldsNode held image n copy) (key : List ℕ)
    (child : Contains (child_keys n) key) where
  mutual
    pub tree_closed : (t : Tree (List ℕ)) → AllByRecursion IsTree (trees_in t) → HoldsTree held image t → Contains (tree_keys t) (node_key n) → Contains (tree_keys t) key
    tree_closed tree.Empty right holds has = absurd (contains_none (node_key n) has)
    tree_closed (tree.Leaf segment) right holds has = leaf_only (contains_first (leaf_key segment) (node_key n) [] has)
      where
        leaf_only : (node_key n ≡ leaf_key segment) ⊎ Contains [] (node_key n) → Contains (leaf_key segment ∷ []) key
        leaf_only (inl same) = absurd (leaf_apart segment n (sym same))
        leaf_only (inr none) = absurd (contains_none (node_key n) none)
    tree_closed (tree.Node level ts) right holds has =
        first_or (contains_first (node_key (contents_of level ts)) (node_key n) (keys_below ts) has) (trees_closed level ts right.0.1 holds.1)
      where
        here : node_key n ≡ node_key (contents_of level ts) → contents_of level ts ≡ n
        here same =
            let one : holds.0.copy ≡ copy = some_same holds.0.copy copy (sym holds.0.copy_is ∙ ap (newest 0 held) (sym same) ∙ node.copy_is) in
            one_spelling (contents_of level ts) n right.0.0 node.right (sym holds.0.bytes_are ∙ ap (λ (c : Copy). bytes_at c.place image) one ∙ node.bytes_are)

        first_or : (node_key n ≡ node_key (contents_of level ts)) ⊎ Contains (keys_below ts) (node_key n) → (Contains (keys_below ts) (node_key n) → Contains (keys_below ts) key)
            → Contains (node_key (contents_of level ts) ∷ keys_below ts) key
        first_or (inl same) rest =
            contains_next (node_key (contents_of level ts)) key (keys_below ts)
            (child_below level ts right.0.1 key (subst (λ (m : Contents). Contains (child_keys m) key) (sym (here same)) child))
        first_or (inr there) rest = contains_next (node_key (contents_of level ts)) key (keys_below ts) (rest there)

    trees_closed : (level : ℕ) (ts : Trees (List ℕ)) → AreBelow level ts → HoldsTrees held image ts → Contains (keys_below ts) (node_key n) → Contains (keys_below ts) key
    trees_closed level tree.NoTree below holds has = absurd (contains_none (node_key n) has)
    trees_closed level (tree.Then t ts) below holds has =
        either (Contains-append_cases (tree_keys t) (keys_below ts) (node_key n) has) (tree_closed t (one_tree t below.1) holds.0) (trees_closed level ts below.2 holds.1)
      where
        one_tree : (u : Tree (List ℕ)) → IsTree u → AllByRecursion IsTree (trees_in u)
        one_tree tree.Empty is = absurd is
        one_tree (tree.Leaf segment) is = (is, tt)
        one_tree (tree.Node l us) is = (is, tt)

        either : Contains (tree_keys t) (node_key n) ⊎ Contains (keys_below ts) (node_key n) → (Contains (tree_keys t) (node_key n) → Contains (tree_keys t) key)
            → (Contains (keys_below ts) (node_key n) → Contains (keys_below ts) key) → Contains (keys_below (tree.Then t ts)) key
        either (inl there) first rest = Contains-append_left (tree_keys t) (keys_below ts) key (first there)
        either (inr there) first rest = Contains-append_right (tree_keys t) (keys_below ts) key (rest there)

-- So a file that needs a node needs its children.
pub reachable_closed : (store : Store) (files : Files) (image : List ℕ) → IsStoreOf store files image → (n : Contents) (copy : Copy) → HoldsNode store.held image n copy
    → IsReachable files (node_key n)
    → (key : List ℕ) → Contains (child_keys n) key → IsReachable files key
reachable_closed store files image holds n copy node (name, (bytes, (filed, has))) key child =
    by_file (names_of_name name) (finite.get files name) filed (holds.files_are name)
  where
    names_of_name : List ℕ → Option Named
    names_of_name given = finite.get (names_of store) given

    few : length bytes ≤ MOST_FILE
    few = subst FitsFile filed (files_fit store files image holds name)

    by_file : (named : Option Named) (file : Option (List ℕ)) → file ≡ Some bytes → IsFileOf store.held image named file → IsReachable files key
    by_file named None is of = absurd cc
    by_file None (Some other) is of = absurd of
    by_file (Some named) (Some other) is of =
        let held : HoldsTree store.held image (file_tree bytes) = subst (λ (b : List ℕ). HoldsTree store.held image (file_tree b)) (some_same other bytes is) of.1 in
        (name, (bytes, (filed, tree_closed store.held image n copy node key child (file_tree bytes) (right_file bytes few) held has)))

-- ---- the keys of names

-- a root's key is one of its tree
pub key_of_root : (t : Tree (List ℕ)) (root : Root) (key : List ℕ) → AllByRecursion IsTree (trees_in t) → top_of root ≡ tree.root_of of_segment t → HasRootKey root key
    → Contains (tree_keys t) key
key_of_root tree.Empty root key right top has = absurd (has.0 (ap (λ (x : Top). x.length) top))
key_of_root (tree.Leaf segment) root key right top has =
    let key_is : key ≡ leaf_key segment = has.1 ∙ ap top_key top in
    subst (Contains (leaf_key segment ∷ [])) (sym key_is) (contains_head (leaf_key segment) [])
key_of_root (tree.Node level ts) root key right top has =
    let node : List ℕ = node_key (contents_of level ts) in
    let key_is : key ≡ node = has.1 ∙ ap top_key top ∙ ap (λ (b : Bool). key_of (if b then 0 else 1) (node_digest (contents_of level ts))) (not_zero level right.0.0.above) in
    subst (Contains (node ∷ keys_below ts)) (sym key_is) (contains_head node (keys_below ts))

-- So the files need the keys of names.
pub name_reachable : (store : Store) (files : Files) (image key : List ℕ) → IsStoreOf store files image → IsNameKey (names_of store) key → IsReachable files key
name_reachable store files image key holds is =
    let one = name_of_key (names_of store) key is in
    let file = file_of_root one.name one.named.root store files image holds (one.named.sequence, one.found) in
    let few : length file.bytes ≤ MOST_FILE = subst FitsFile file.filed (files_fit store files image holds one.name) in (
      one.name,
      (
        file.bytes,
        (file.filed, key_of_root (file_tree file.bytes) one.named.root key (right_file file.bytes few) (ap top_of (file.root_is ∙ root_of_tree file.bytes few)) one.has),
      ),
    )
