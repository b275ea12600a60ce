-- What actors need that read, and what lies below the roots of a collection: the tree of a file that is read goes from nodes to their children,
-- and each key of it, as each that the files need, lies below a root.
use Rattle.core_machine.proofs.Prelude.{◌≡◌, ℕ, List, Some, ◌∙◌, sym, ap, subst, AllByRecursion, Contains-get_or, Reader, LiveKeys, child_keys, IsLive, HoldsNode, IsPartKey, IsRoot, root_there, root_whole, IsTree, Stored, Store, names_of, root_key, IsReachable, tree_keys, file_tree, node_key, right_file, root_of_tree, IsAt, CoreState, IsBelowLive}
use Rattle.std.proofs.Common.{get_or}
use Rattle.std.specs.List.{All, Contains}
use Rattle.actor_parts.specs.declared.part.Part.TheVariants as core
use Rattle.gc_steps.proofs.FileKeys.{key_of_root, tree_closed}
use Rattle.gc_steps.proofs.Needed.{closed_tree}
use Rattle.gc_steps.proofs.NeededKeys.{reachable_has}
use Rattle.gc_steps.proofs.ReaderNeeds.{tree_root}
use Rattle.gc_steps.proofs.RootTrees.{top_of}
use Rattle.merkle_file.specs.Node as node
use Rattle.merkle_file.specs.Tree as tree
use Rattle.merkle_file.specs.Walk.{trees_in}
use Rattle.store_model.specs.Slots.{Copy}
use Rattle.store_model.specs.Standing.{IsStoreOf}
use Rattle.core_machine.specs.Files.{Takes}
use Rattle.core_machine.proofs.CollectNeeds.{needs_here}

-- ---- a file that is read

module _ (c : CoreState) (file : List ℕ) (rest : List (List ℕ)) (reader : Reader) (takes : Takes file rest reader c) where
  -- the reader's root is one of its keys
  pub root_taken : (key : List ℕ) → IsPartKey (core.Reading reader) key → Contains (tree_keys (file_tree file)) key
  root_taken key is = key_of_root (file_tree file) reader.root key (right_file file takes.fits) (ap top_of (takes.root_is ∙ root_of_tree file takes.fits)) is

  module _ (S : List ℕ → Type 0) (store : Store) (stored : Stored) (at : IsAt S store stored c) (image : List ℕ) (told : c.disk.content ≡ Some image) where
    -- with a node's key it has those of its children
    pub taken_closed : (n : node.Contents) (copy : Copy) → HoldsNode store.held image n copy → Contains (tree_keys (file_tree file)) (node_key n) → (key : List ℕ)
        → Contains (child_keys n) key
        → Contains (tree_keys (file_tree file)) key
    taken_closed n copy node_is there key child =
        tree_closed store.held image n copy node_is key child (file_tree file) (right_file file takes.fits) (takes.whole store image at.represents told).tree_is_held there

    -- each is such where the root is, and with a node its children
    pub taken_below : (P : List ℕ → Type 0) → ((n : node.Contents) (copy : Copy) → HoldsNode store.held image n copy → P (node_key n) → All P (child_keys n))
        → ((key : List ℕ) → IsPartKey (core.Reading reader) key → P key) → (key : List ℕ) → Contains (tree_keys (file_tree file)) key → P key
    taken_below P closed roots key there =
        let root = tree_root (file_tree file) reader.root key (right_file file takes.fits) (ap top_of (takes.root_is ∙ root_of_tree file takes.fits)) there in
        closed_tree store.held image P closed (file_tree file) (root_key reader.root) root.2 (takes.whole store image at.represents told).tree_is_held root.1
        (roots (root_key reader.root) root.0) key there

-- ---- what lies below the roots

module _ (S : List ℕ → Type 0) (store : Store) (stored : Stored) (c : CoreState) (at : IsAt S store stored c) (image : List ℕ) (told : c.disk.content ≡ Some image)
    (live : LiveKeys) (roots : (key : List ℕ) → IsRoot (names_of store) c.parts key → IsLive at.index live key) where
  abbrev pub Below : List ℕ → Type 0
  Below = IsBelowLive at.index store.held image live

  holds : IsStoreOf store stored.files image
  holds = needs_here S store stored c at image told

  pub root_below : (key : List ℕ) → IsRoot (names_of store) c.parts key → Below key
  root_below key is =
      let whole = root_whole at.index store stored.files c.parts image (at.invariant image told) holds key is in
      let top = root_there whole.whole key whole.root_is in
      record { root = key; is_live = roots key is; tree = whole; there = subst (Contains (tree_keys whole.whole)) (sym top.1) top.2 }

  tree_right : (t : tree.Tree (List ℕ)) → IsTree t → AllByRecursion IsTree (trees_in t)
  tree_right tree.Empty right = absurd right
  tree_right (tree.Leaf segment) right = (right, tt)
  tree_right (tree.Node level ts) right = (right, tt)

  pub below_closed : (n : node.Contents) (copy : Copy) → HoldsNode store.held image n copy → Below (node_key n) → All Below (child_keys n)
  below_closed n copy node_is below k other within = record {
    root = below.root;
    is_live = below.is_live;
    tree = below.tree;
    there =
        tree_closed store.held image n copy node_is (get_or (child_keys n) k other) (Contains-get_or (child_keys n) k other within) below.tree.whole
        (tree_right below.tree.whole below.tree.right) below.tree.is_held.tree_is_held
        below.there;
  }

  -- what the files need does
  pub files_below : (key : List ℕ) → IsReachable stored.files key → Below key
  files_below key file = reachable_has at.index store stored.files c.parts image holds Below root_below below_closed key file
