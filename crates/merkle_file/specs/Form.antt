-- Forms of trees: their limits, and which children make a node (docs/FORMAT.md, "Nodes").
use Rattle.std.specs.Prelude.{◌≤◌, ℕ, ◌^◌, ◌==◌, Bool, List, length}
use Rattle.merkle_file.specs.declared.node.Child.{Child}
use Rattle.disk_format.specs.declared.numbers.TheConstants.{NODE_FORM, MOST_CHILDREN, MOST_LEVEL}

-- How the trees over files are made. There is one form: a node ends by the number of its children.
pub data Form : Type 0 where
  ByCount : Form

-- ---- limits

-- the most children of a node
abbrev pub most_children : Form → ℕ
most_children ByCount = MOST_CHILDREN

-- the most levels of nodes above the leaves
abbrev pub most_level : Form → ℕ
most_level ByCount = MOST_LEVEL

-- the form byte of a node
abbrev pub form_byte : Form → ℕ
form_byte ByCount = NODE_FORM

-- the most leaves of a tree
abbrev pub room_of : Form → ℕ
room_of form = most_children form ^ most_level form

-- ---- groups

-- Whether a group of elements is a whole node's, by what the node says of each: then it gets no element more.
abbrev pub is_whole : {X : Type 0} → Form → (X → Child) → List X → Bool
is_whole ByCount says group = length group == MOST_CHILDREN

-- The tree over these leaves needs no more levels than there may be.
abbrev pub Fits : {A : Type 0} → Form → (A → Child) → List A → Type 0
Fits ByCount leaf xs = length xs ≤ room_of ByCount
