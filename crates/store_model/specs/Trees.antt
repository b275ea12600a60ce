-- The tree of a file, and what an image holds of it (docs/MODEL.md, 'Images').
use Rattle.std.specs.Prelude.{◌≡◌, ℕ, ◌+◌, List, length, Option, Some}
use Rattle.sha2.specs.Sha256.{sha256}
use Rattle.base_model.specs.Bytes.{range, key_of}
use Rattle.disk_format.specs.Cells.{Root}
use Rattle.disk_format.specs.Layout.{data_at}
use Rattle.container_meta.specs.declared.place.Place.{Place}
use Rattle.container_meta.specs.Spelling.{HeaderValue}
use Rattle.merkle_file.specs.Form.{ByCount}
use Rattle.merkle_file.specs.Node.{Contents, IsNode, spelling, node_digest}
use Rattle.merkle_file.specs.Tree as tree
use Rattle.merkle_file.specs.Tree.{Tree, Trees, of_segment, tree_of}
use Rattle.merkle_file.specs.Walk.{contents_of}
use Rattle.segmenter.specs.Segments.{segments_of}
use Rattle.store_model.specs.Slots.{Copy, newest}

-- the tree of a file: that over the segments of its bytes
unfoldable pub file_tree : List ℕ → Tree (List ℕ)
file_tree bytes = tree_of ByCount of_segment (segments_of bytes)

-- the root of a file: how many bytes it has, and the level and the digest of its tree
abbrev pub root_of : List ℕ → Root
root_of bytes =
    let top = tree.root_of of_segment (file_tree bytes) in
    record { length = length bytes; level = top.level; digest = top.digest }

-- the key of a segment of a file, and that of a node
abbrev pub leaf_key : List ℕ → List ℕ
leaf_key bytes = key_of 0 (sha256 bytes)

abbrev pub node_key : Contents → List ℕ
node_key n = key_of 1 (node_digest n)

-- the bytes at the place of a segment
abbrev pub bytes_at : Place → List ℕ → List ℕ
bytes_at place image = range (data_at place.slot + place.offset) place.length image

-- the newest copy of a key has this level, and is these bytes
pub record HasNewest (held : List (Option HeaderValue)) (key : List ℕ) (level : ℕ) (bytes image : List ℕ) : Type 0 where
  pub copy : Copy
  pub copy_is : newest 0 held key ≡ Some copy
  pub level_is : copy.place.level ≡ level
  pub bytes_are : bytes_at copy.place image ≡ bytes

-- The newest copies of a tree's keys are its segments and the spellings of its nodes.
abbrev mutual
  pub HoldsTree : List (Option HeaderValue) → List ℕ → Tree (List ℕ) → Type 0
  HoldsTree held image tree.Empty = Unit {0}
  HoldsTree held image (tree.Leaf segment) = HasNewest held (leaf_key segment) 0 segment image
  HoldsTree held image (tree.Node level ts) =
      HasNewest held (node_key (contents_of level ts)) level (spelling (contents_of level ts)) image × HoldsTrees held image ts

  pub HoldsTrees : List (Option HeaderValue) → List ℕ → Trees (List ℕ) → Type 0
  HoldsTrees held image tree.NoTree = Unit {0}
  HoldsTrees held image (tree.Then t ts) = HoldsTree held image t × HoldsTrees held image ts

-- bytes are a node of a level
pub record IsNodeOf (level : ℕ) (bytes : List ℕ) : Type 0 where
  pub node : Contents
  pub right : IsNode node
  pub level_is : node.level ≡ level
  pub spelled : bytes ≡ spelling node
