-- A walk down the tree of a file begins with the whole file.
use Rattle.std.proofs.Common.{◌≡◌, ℕ, ◌≤◌, List, [], ◌∷◌, ◌++◌, length, Option, refl, sym, ◌∙◌, ap, subst}
use Rattle.std.specs.FinMap as finite
use Rattle.std.specs.List.{AllByRecursion}
use Rattle.std.proofs.lemmas.List.Concat.{flat_map-cons}
use Rattle.disk_format.specs.declared.numbers.TheConstants.{MOST_FILE}
use Rattle.disk_format.specs.Cells.{Root}
use Rattle.container_meta.specs.Spelling.{HeaderValue}
use Rattle.merkle_file.specs.declared.top.Top.{Top}
use Rattle.merkle_file.specs.Tree as tree
use Rattle.merkle_file.specs.Tree.{Tree, of_segment, leaves}
use Rattle.merkle_file.specs.Walk.{Ahead, IsTree, segments_in, trees_in}
use Rattle.namespace.specs.Names.{NameMap}
use Rattle.store_model.specs.Files.{Files}
use Rattle.store_model.specs.Image.{Store, names_of}
use Rattle.store_model.specs.Standing.{IsStoreOf}
use Rattle.store_model.specs.Steps.{KeepsCopies}
use Rattle.store_model.specs.Collisions.{ByteSet, IsIn}
use Rattle.store_model.specs.Reserve.{HoldsCounted, key_set, tree_keys}
use Rattle.store_model.specs.Trees.{file_tree}
use Rattle.store_model.proofs.Counted.{in_set, trees_on}
use Rattle.store_model.proofs.SameFiles.{FitsFile, file_of_root, files_fit}
use Rattle.store_model.proofs.Unfolding.{right_file, leaves_of_file, root_of_tree}
use Rattle.read_steps.specs.Opening.{HasRoot, IsFileAhead, top_of}
use Rattle.read_steps.specs.Walking.{HeldAhead, SegmentsAhead}

-- ---- a tree that is to come

pub tree_held : (P : List ℕ → Type 0) (held : List (Option HeaderValue)) (image : List ℕ) (t : Tree (List ℕ)) → HoldsCounted P held image t →
    AllByRecursion (HoldsCounted P held image) (trees_in t)
tree_held P held image tree.Empty holds = tt
tree_held P held image (tree.Leaf segment) holds = (holds, tt)
tree_held P held image (tree.Node level ts) holds = (holds, tt)

append_none : (xs : List (List ℕ)) → xs ++ [] ≡ xs
append_none [] = refl
append_none (x ∷ xs) = ap (λ (ys : List (List ℕ)). x ∷ ys) (append_none xs)

segments_of_tree : (t : Tree (List ℕ)) → segments_in (trees_in t) ≡ leaves t
segments_of_tree tree.Empty = refl
segments_of_tree (tree.Leaf segment) = flat_map-cons leaves (tree.Leaf segment) []
segments_of_tree (tree.Node level ts) = flat_map-cons leaves (tree.Node level ts) [] ∙ append_none (leaves (tree.Node level ts))

-- ---- a file

pub file_ahead : (store : Store) (files : Files) (image name : List ℕ) (names : NameMap) (root : Root) (ahead : List Top) → HasRoot names name root → names ≡ names_of store →
    IsStoreOf store files image
    → ((t : Tree (List ℕ)) → AllByRecursion IsTree (trees_in t) → top_of root ≡ tree.root_of of_segment t → Ahead ahead (trees_in t))
    → IsFileAhead store files image name root ahead
file_ahead store files image name names root ahead has same holds begins =
    let file = file_of_root name root store files image holds (has.sequence, ap (λ (m : NameMap). finite.get m name) (sym same) ∙ has.found) in
    let few : length file.bytes ≤ MOST_FILE = subst FitsFile file.filed (files_fit store files image holds name) in
    let top : top_of root ≡ tree.root_of of_segment (file_tree file.bytes) = ap top_of (file.root_is ∙ root_of_tree file.bytes few) in
    let keys : List (List ℕ) = tree_keys (file_tree file.bytes) in
    let held : HeldAhead (key_set keys) store.held image ahead (trees_in (file_tree file.bytes)) =
    record {
      trees = begins (file_tree file.bytes) (right_file file.bytes few) top;
      each = tree_held (IsIn (key_set keys)) store.held image (file_tree file.bytes) (record { tree_is_held = file.held; count = λ key there. in_set key keys there });
    } in
    record {
      bytes = file.bytes;
      filed = file.filed;
      root_is = file.root_is;
      tree_is_held = file.held;
      held_ahead = held;
      segments_ahead = record {
        trees = trees_in (file_tree file.bytes);
        held_ahead = held;
        segments_are = sym (segments_of_tree (file_tree file.bytes) ∙ leaves_of_file file.bytes few);
      };
    }

-- ---- what goes on while others change the store

module _ (counts : ByteSet) (s t : Store) (old new : List ℕ) (keeps : KeepsCopies (IsIn counts) s old t new) where
  pub held_on : (ahead : List Top) (ts : List (Tree (List ℕ))) → HeldAhead counts s.held old ahead ts → HeldAhead counts t.held new ahead ts
  held_on ahead ts held = record { trees = held.trees; each = trees_on (IsIn counts) (IsIn counts) s t old new keeps (λ key there. there) ts held.each }

  pub segments_on : (ahead : List Top) (segments : List (List ℕ)) → SegmentsAhead counts s.held old ahead segments → SegmentsAhead counts t.held new ahead segments
  segments_on ahead segments held = record { trees = held.trees; held_ahead = held_on ahead held.trees held.held_ahead; segments_are = held.segments_are }
