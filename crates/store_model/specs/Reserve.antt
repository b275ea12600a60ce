-- Which containers may be given back, and what reserve of slots an image has (docs/MODEL.md, 'The reserve').
use Rattle.std.specs.Prelude.{◌≡◌, ◌≢◌, ◌⊎◌, ◌<◌, ℕ, List, [], ◌∷◌, ◌++◌, slice_get, Bool, Option, Some, None}
use Rattle.std.specs.FinMap as finite
use Rattle.std.specs.List.{Contains, list_any}
use Rattle.std.specs.Str.{bytes_eq}
use Rattle.container_meta.specs.Spelling.{HeaderValue}
use Rattle.merkle_file.specs.Tree as tree
use Rattle.merkle_file.specs.Tree.{Tree, Trees}
use Rattle.merkle_file.specs.Walk.{contents_of}
use Rattle.store_model.specs.Files.{Files}
use Rattle.store_model.specs.Slots.{Copy, newest}
use Rattle.store_model.specs.Trees.{HoldsTree, file_tree, leaf_key, node_key}

-- ---- what files need

-- the keys of a tree: those of its nodes and of its segments
abbrev mutual
  pub tree_keys : Tree (List ℕ) → List (List ℕ)
  tree_keys tree.Empty = []
  tree_keys (tree.Leaf segment) = leaf_key segment ∷ []
  tree_keys (tree.Node level ts) = node_key (contents_of level ts) ∷ keys_below ts

  pub keys_below : Trees (List ℕ) → List (List ℕ)
  keys_below tree.NoTree = []
  keys_below (tree.Then t ts) = tree_keys t ++ keys_below ts

-- P holds of each key of a tree
abbrev pub AllKeys : (List ℕ → Type 0) → Tree (List ℕ) → Type 0
AllKeys P t = (key : List ℕ) → Contains (tree_keys t) key → P key

-- A tree is held, and P holds of its keys.
pub record HoldsCounted (P : List ℕ → Type 0) (held : List (Option HeaderValue)) (image : List ℕ) (t : Tree (List ℕ)) : Type 0 where
  pub tree_is_held : HoldsTree held image t
  pub count : AllKeys P t

-- these keys, as a set
abbrev pub key_set : List (List ℕ) → List ℕ → Bool
key_set keys key = list_any (bytes_eq key) keys

-- the tree of some name's file has the key
abbrev pub IsReachable : Files → List ℕ → Type 0
IsReachable files key =
    (name : List ℕ) × ((bytes : List ℕ) × ((finite.get files name ≡ Some bytes) × Contains (tree_keys (file_tree bytes)) key))

-- ---- slots, by the keys that are needed: those of which P holds

-- the newest copy of no such key lies in the slot
abbrev pub HoldsNone : (List ℕ → Type 0) → List (Option HeaderValue) → ℕ → Type 0
HoldsNone P held slot = (key : List ℕ) (copy : Copy) → P key → newest 0 held key ≡ Some copy → copy.place.slot ≢ slot

-- the slot has a container that may be given back
pub record IsSpare (P : List ℕ → Type 0) (held : List (Option HeaderValue)) (slot : ℕ) : Type 0 where
  pub header : HeaderValue
  pub holds : slice_get held slot ≡ Some (Some header)
  pub none : HoldsNone P held slot

-- it is closed, or has such a container
abbrev pub IsGivable : (List ℕ → Type 0) → List (Option HeaderValue) → ℕ → Type 0
IsGivable P held slot = (slice_get held slot ≡ Some None) ⊎ IsSpare P held slot

-- two different slots are closed, or can be
pub record HasReserve (P : List ℕ → Type 0) (held : List (Option HeaderValue)) : Type 0 where
  pub first : ℕ
  pub second : ℕ
  pub differ : first < second
  pub first_is : IsGivable P held first
  pub second_is : IsGivable P held second
