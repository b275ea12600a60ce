-- The trees of files, by their roots, are held whole.
use Rattle.gc_steps.proofs.Prelude.{◌≡◌, ◌≤◌, ℕ, Bool, true, false, List, [], length, Option, refl, sym, ◌∙◌, ap, subst, arith, if◌then◌else◌, AllByRecursion, eqb-true, key_of, Root, MOST_FILE, Reader, PlaceMap, HeaderValue, Top, node_digest, of_segment, IsTree, contents_of, trees_in, Files, Store, names_of, HoldsCounted, tree_keys, keys_below, HasKey, IsStoreOf, file_tree, leaf_key, node_key, in_head, FitsFile, file_of_root, files_fit, right_file, root_of_tree, HoldsRest, IndexesFiles, IsRootOf, IsWhole, HasRootKey, IsNameKey}
use Rattle.std.specs.Prelude.{◌==◌}
use Rattle.std.specs.List.{Contains}
use Rattle.merkle_file.specs.Tree as tree
use Rattle.merkle_file.specs.Tree.{Tree}
use Rattle.gc_steps.proofs.ListedKeys.{name_of_key}

abbrev pub top_of : Root → Top
top_of root = record { length = root.length; level = root.level; digest = root.digest }

-- the key that a root has
abbrev pub top_key : Top → List ℕ
top_key top = key_of (if top.level == 0 then 0 else 1) top.digest

pub not_zero : (n : ℕ) → 1 ≤ n → (n == 0) ≡ false
not_zero n above = by_test (n == 0) refl
  where
    by_test : (b : Bool) → (n == 0) ≡ b → b ≡ false
    by_test false is = refl
    by_test true is = absurd (omega (arith, eqb-true n 0 is, above))

-- ---- the index has the key of a tree's root

pub root_there : (t : Tree (List ℕ)) (key : List ℕ) → IsRootOf key t → (top : List ℕ) × (key ≡ top) × Contains (tree_keys t) top
root_there tree.Empty key is = absurd is
root_there (tree.Leaf segment) key is = (leaf_key segment, is, in_head (leaf_key segment) [])
root_there (tree.Node level ts) key is = (node_key (contents_of level ts), is, in_head (node_key (contents_of level ts)) (keys_below ts))

pub whole_indexed : (index : PlaceMap) (held : List (Option HeaderValue)) (image key : List ℕ) → IsWhole index held image key → HasKey index key
whole_indexed index held image key whole =
    let top = root_there whole.whole key whole.root_is in
    subst (HasKey index) (sym top.1) (whole.is_held.count top.0 top.2)

-- ---- a tree that is held is that of its root's key

module _ (index : PlaceMap) (held : List (Option HeaderValue)) (image : List ℕ) where
  whole_root : (t : Tree (List ℕ)) (root : Root) (key : List ℕ) → AllByRecursion IsTree (trees_in t) → HoldsCounted (HasKey index) held image t
      → top_of root ≡ tree.root_of of_segment t
      → HasRootKey root key → IsWhole index held image key
  whole_root tree.Empty root key right holds top has = absurd (has.0 (ap (λ (x : Top). x.length) top))
  whole_root (tree.Leaf segment) root key right holds top has = record { whole = tree.Leaf segment; root_is = has.1 ∙ ap top_key top; right = right.0; is_held = holds }
  whole_root (tree.Node level ts) root key right holds top has = record {
    whole = tree.Node level ts;
    root_is = has.1 ∙ ap top_key top ∙ ap (λ (b : Bool). key_of (if b then 0 else 1) (node_digest (contents_of level ts))) (not_zero level right.0.0.above);
    right = right.0;
    is_held = holds;
  }

  -- that of the file that an actor reads
  pub whole_reader : (reader : Reader) (key : List ℕ) → HoldsRest (HasKey index) held image reader → HasRootKey reader.root key → IsWhole index held image key
  whole_reader reader key rest has = whole_root rest.whole reader.root key rest.right rest.is_held rest.top_is has

-- and that of the file of a name
pub whole_name : (index : PlaceMap) (store : Store) (files : Files) (image key : List ℕ) → IsStoreOf store files image → IndexesFiles index files → IsNameKey (names_of store) key
    → IsWhole index store.held image key
whole_name index store files image key holds indexed is =
    let one = name_of_key (names_of store) key is in
    let file = file_of_root one.name one.named.root store files image holds (one.named.sequence, one.found) in
    let few : length file.bytes ≤ MOST_FILE = subst FitsFile file.filed (files_fit store files image holds one.name) in
    whole_root index store.held image (file_tree file.bytes) one.named.root key (right_file file.bytes few)
    (record { tree_is_held = file.held; count = λ k there. indexed k (one.name, (file.bytes, (file.filed, there))) })
    (ap top_of (file.root_is ∙ root_of_tree file.bytes few)) one.has
