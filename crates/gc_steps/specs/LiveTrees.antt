-- The trees that live keys are the roots of (docs/MODEL.md, 'Collection').
use Rattle.std.specs.Prelude.{◌≡◌, ℕ, List, Option, Some}
use Rattle.container_meta.specs.Places.{PlaceMap}
use Rattle.container_meta.specs.Spelling.{HeaderValue}
use Rattle.merkle_file.specs.Node.{Contents, IsNode, spelling}
use Rattle.merkle_file.specs.Tree as tree
use Rattle.merkle_file.specs.Tree.{Tree}
use Rattle.merkle_file.specs.Walk.{IsTree, contents_of}
use Rattle.store_model.specs.Reserve.{HoldsCounted}
use Rattle.store_model.specs.Slots.{Copy, HasKey, newest}
use Rattle.store_model.specs.Trees.{bytes_at, leaf_key, node_key}

-- the key is that of the tree's root; the empty tree has none
abbrev pub IsRootOf : List ℕ → Tree (List ℕ) → Type 0
IsRootOf key tree.Empty = ⊥
IsRootOf key (tree.Leaf segment) = key ≡ leaf_key segment
IsRootOf key (tree.Node level ts) = key ≡ node_key (contents_of level ts)

-- The tree of a key is held whole, by newest copies that the index all has. Its nodes keep the rules, and each is one level above its
-- children.
pub record IsWhole (index : PlaceMap) (held : List (Option HeaderValue)) (image key : List ℕ) : Type 0 where
  pub whole : Tree (List ℕ)
  pub root_is : IsRootOf key whole
  pub right : IsTree whole
  pub is_held : HoldsCounted (HasKey index) held image whole

-- the newest copy of a node is there, and is its spelling
pub record HoldsNode (held : List (Option HeaderValue)) (image : List ℕ) (n : Contents) (copy : Copy) : Type 0 where
  pub right : IsNode n
  pub copy_is : newest 0 held (node_key n) ≡ Some copy
  pub bytes_are : bytes_at copy.place image ≡ spelling n
