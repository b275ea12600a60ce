-- What the trees of files have together, each key counted once (docs/MODEL.md, 'Reading').
use Rattle.std.specs.Prelude.{◌≡◌, ◌⊎◌, ℕ, List, length, sum_by, Some}
use Rattle.std.specs.Cmp.Lexicographic.{slice_cmp}
use Rattle.std.specs.FinMap as finite
use Rattle.std.specs.List.{Contains}
use Rattle.std.specs.Ordering.{nat_cmp}
use Rattle.merkle_file.specs.Node.{spelling}
use Rattle.merkle_file.specs.Tree as tree
use Rattle.merkle_file.specs.Tree.{Tree, Trees}
use Rattle.merkle_file.specs.Walk.{contents_of}
use Rattle.store_model.specs.Reserve.{tree_keys}
use Rattle.store_model.specs.Trees.{file_tree, leaf_key, node_key}

-- keys, each with how many bytes it has
abbrev pub KeySizes : Type 0
KeySizes = finite.FinMap (slice_cmp nat_cmp) ℕ

-- how many bytes they have together
abbrev pub bytes_in : KeySizes → ℕ
bytes_in sizes = sum_by (λ n. n) (finite.values sizes)

-- the tree has this key, and so many bytes under it: a segment, or the spelling of a node
abbrev mutual
  pub HasSized : Tree (List ℕ) → List ℕ → ℕ → Type 0
  HasSized tree.Empty key size = ⊥
  HasSized (tree.Leaf segment) key size = (key ≡ leaf_key segment) × (size ≡ length segment)
  HasSized (tree.Node level ts) key size =
      ((key ≡ node_key (contents_of level ts)) × (size ≡ length (spelling (contents_of level ts)))) ⊎ HaveSized ts key size

  pub HaveSized : Trees (List ℕ) → List ℕ → ℕ → Type 0
  HaveSized tree.NoTree key size = ⊥
  HaveSized (tree.Then t ts) key size = HasSized t key size ⊎ HaveSized ts key size

-- the tree of one of the files has the key, and so many bytes under it
abbrev pub OneHasSized : List (List ℕ) → List ℕ → ℕ → Type 0
OneHasSized files key size = (file : List ℕ) × (Contains files file × HasSized (file_tree file) key size)

-- The distinct keys of the trees of these files, and how many bytes they have together.
pub record AreUnique (files : List (List ℕ)) (segments bytes : ℕ) : Type 0 where
  pub sizes : KeySizes
  -- each key of each file, and no other
  pub all : (file key : List ℕ) → Contains files file → Contains (tree_keys (file_tree file)) key
      → (size : ℕ) × (finite.get sizes key ≡ Some size)
  pub only : (key : List ℕ) (size : ℕ) → finite.get sizes key ≡ Some size → OneHasSized files key size
  pub segments_is : segments ≡ finite.len sizes
  pub bytes_is : bytes ≡ bytes_in sizes
