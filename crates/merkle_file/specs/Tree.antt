-- Merkle trees: leaves are grouped from the left, level by level, until one tree is left (docs/FORMAT.md, "Nodes").
use Rattle.std.specs.Prelude.{◌≡◌, ◌≤◌, ℕ, zero, suc, ◌+◌, if◌then◌else◌, List, [], ◌∷◌, ◌++◌, length, take, drop, map}
use Rattle.std.specs.List.{concat, flat_map}
use Rattle.sha2.specs.Sha256.{sha256}
use Rattle.merkle_file.specs.declared.node.Child.{Child}
use Rattle.merkle_file.specs.declared.top.Top.{Top}
use Rattle.merkle_file.specs.Form.{Form, ByCount, Fits, is_whole, most_children, most_level}
use Rattle.merkle_file.specs.Node.{Contents, total, node_digest}

-- A tree over leaves: nothing, a leaf, or a node of a level over its children in order. Where the leaves are
-- segments, a leaf has a segment's bytes.
mutual
  pub data Tree (A : Type 0) : Type 0 where
    Empty : Tree A
    Leaf : A → Tree A
    Node : ℕ → Trees A → Tree A

  pub data Trees (A : Type 0) : Type 0 where
    NoTree : Trees A
    Then : Tree A → Trees A → Trees A

-- a list of trees, as a node has it
abbrev pub trees : {A : Type 0} → List (Tree A) → Trees A
trees [] = NoTree
trees (t ∷ ts) = Then t (trees ts)

abbrev pub joined : {A : Type 0} → ℕ → List (Tree A) → Tree A
joined level ts = Node level (trees ts)

-- ---- what a tree says

-- the leaves of a tree, in order
abbrev mutual
  pub leaves : {A : Type 0} → Tree A → List A
  leaves Empty = []
  leaves (Leaf a) = a ∷ []
  leaves (Node level ts) = leaves_below ts

  pub leaves_below : {A : Type 0} → Trees A → List A
  leaves_below NoTree = []
  leaves_below (Then t ts) = leaves t ++ leaves_below ts

-- the bytes of a tree over segments
abbrev pub bytes_of : Tree (List ℕ) → List ℕ
bytes_of t = flat_map (λ segment. segment) (leaves t)

-- what a node says of a node below it
abbrev pub parent : Contents → Child
parent n = record { digest = node_digest n; length = total n.children }

-- what a node says of a tree below it, by what it says of a leaf. A tree's digest is that of its spelling.
abbrev mutual
  pub child_of : {A : Type 0} → (A → Child) → Tree A → Child
  child_of leaf Empty = record { digest = sha256 []; length = 0 }
  child_of leaf (Leaf a) = leaf a
  child_of leaf (Node level ts) = parent (record { level = level; children = children_of leaf ts })

  pub children_of : {A : Type 0} → (A → Child) → Trees A → List Child
  children_of leaf NoTree = []
  children_of leaf (Then t ts) = child_of leaf t ∷ children_of leaf ts

-- the nodes of a tree, children before parents, from the left
abbrev mutual
  pub nodes_of : {A : Type 0} → (A → Child) → Tree A → List Contents
  nodes_of leaf Empty = []
  nodes_of leaf (Leaf a) = []
  nodes_of leaf (Node level ts) = nodes_below leaf ts ++ record { level = level; children = children_of leaf ts } ∷ []

  pub nodes_below : {A : Type 0} → (A → Child) → Trees A → List Contents
  nodes_below leaf NoTree = []
  nodes_below leaf (Then t ts) = nodes_of leaf t ++ nodes_below leaf ts

-- a leaf and the empty tree have level 0
abbrev pub level_of : {A : Type 0} → Tree A → ℕ
level_of Empty = 0
level_of (Leaf a) = 0
level_of (Node level ts) = level

-- the length, the level and the digest of a tree
abbrev pub root_of : {A : Type 0} → (A → Child) → Tree A → Top
root_of leaf t = record { length = (child_of leaf t).length; level = level_of t; digest = (child_of leaf t).digest }

-- what a node says of a segment, and of an element that says it already
abbrev pub of_segment : List ℕ → Child
of_segment segment = record { digest = sha256 segment; length = length segment }

abbrev pub itself : Child → Child
itself c = c

-- ---- grouping

-- what is left at the end of a list, as a group, if anything is
abbrev pub last_group : {X : Type 0} → List X → List (List X)
last_group [] = []
last_group (x ∷ xs) = (x ∷ xs) ∷ []

-- The groups of a list from the left, where a group is begun already: it takes elements up to the first that makes it
-- whole, and what follows is grouped so in turn.
unfoldable pub grouped_from : {X : Type 0} → Form → (X → Child) → List X → List X → List (List X)
grouped_from form says begun [] = last_group begun
grouped_from form says begun (x ∷ xs) =
    if is_whole form says (begun ++ x ∷ []) then (begun ++ x ∷ []) ∷ grouped_from form says [] xs
    else grouped_from form says (begun ++ x ∷ []) xs

-- all groups of a list, by what a node says of each element
abbrev pub grouped : {X : Type 0} → Form → (X → Child) → List X → List (List X)
grouped form says xs = grouped_from form says [] xs

-- ---- the tree over leaves

-- The tree of a form over trees that have a level: level by level until one is left, at most so many levels up. A node
-- says of a leaf what the function does.
unfoldable pub tree_over : {A : Type 0} → Form → (A → Child) → ℕ → ℕ → List (Tree A) → Tree A
tree_over form leaf levels level [] = Empty
tree_over form leaf levels level (t ∷ []) = t
tree_over form leaf zero level (t ∷ u ∷ ts) = Empty
tree_over form leaf (suc levels) level (t ∷ u ∷ ts) =
    tree_over form leaf levels (level + 1) (map (joined (level + 1)) (grouped form (child_of leaf) (t ∷ u ∷ ts)))

-- the tree of a form over leaves, where it fits
abbrev pub tree_of : {A : Type 0} → Form → (A → Child) → List A → Tree A
tree_of form leaf xs = tree_over form leaf (most_level form) 0 (map Leaf xs)

-- ---- the laws of trees

-- The tree over segments and the tree over what a node says of them have one root and the same nodes.
abbrev pub SegmentsAlike : Type 0
SegmentsAlike = (form : Form) (segments : List (List ℕ)) →
    (root_of itself (tree_of form itself (map of_segment segments)) ≡ root_of of_segment (tree_of form of_segment segments))
    × (nodes_of itself (tree_of form itself (map of_segment segments)) ≡ nodes_of of_segment (tree_of form of_segment segments))

-- The leaves of the tree over a list are the list, in order, if it fits.
abbrev pub LeavesAreSegments : Type 0
LeavesAreSegments = (form : Form) (segments : List (List ℕ)) → Fits form of_segment segments →
    leaves (tree_of form of_segment segments) ≡ segments

-- So its bytes are those of the segments, one after the other.
abbrev pub BytesAreSegments : Type 0
BytesAreSegments = (form : Form) (segments : List (List ℕ)) → Fits form of_segment segments →
    bytes_of (tree_of form of_segment segments) ≡ concat segments

-- Over no segment there is no tree, and over one there is no node.
abbrev pub NoneIsEmpty : Type 0
NoneIsEmpty = (form : Form) → tree_of form of_segment [] ≡ Empty

abbrev pub OneIsLeaf : Type 0
OneIsLeaf = (form : Form) (segment : List ℕ) → tree_of form of_segment (segment ∷ []) ≡ Leaf segment

-- Where a node ends by the number of its children, a group is the first so many trees of a level, or all that are left,
-- and then come the groups of the rest.
abbrev pub GroupsAreTaken : Type 0
GroupsAreTaken = (ts : List (Tree (List ℕ))) → 1 ≤ length ts → grouped ByCount (child_of of_segment) ts
    ≡ take (most_children ByCount) ts ∷ grouped ByCount (child_of of_segment) (drop (most_children ByCount) ts)
