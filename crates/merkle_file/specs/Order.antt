-- In which order the nodes of a tree come (docs/FORMAT.md, "Nodes").
use Rattle.std.specs.Prelude.{◌≡◌, ◌≤◌, ◌⊎◌, ℕ, ◌+◌, List, ◌∷◌, ◌++◌, slice_get, Some}
use Rattle.std.specs.List.{AllByRecursion}
use Rattle.merkle_file.specs.declared.node.Child.{Child}
use Rattle.merkle_file.specs.Form.{Form, Fits}
use Rattle.merkle_file.specs.Node.{Contents}
use Rattle.merkle_file.specs.Tree.{parent, nodes_of, itself, tree_of}
use Rattle.merkle_file.specs.Building.{Progress, Holds, built_form}

-- What a builder that was pushed the first elements has finished are the first nodes of the tree over all of them.
abbrev pub NodesComeInOrder : Type 0
NodesComeInOrder = (b : Progress) (pushed more : List Child) (taken : List Contents) → Holds b pushed taken
    → Fits (built_form b) itself (pushed ++ more)
    → (rest : List Contents) × (nodes_of itself (tree_of (built_form b) itself (pushed ++ more)) ≡ (taken ++ b.finished) ++ rest)

-- A child of a node of a level: a leaf, or a node that stands before it.
abbrev pub HasCome : List Child → List Contents → ℕ → Child → Type 0
HasCome leaves before level c =
    ((level ≡ 1) × ((index : ℕ) × (slice_get leaves index ≡ Some c)))
    ⊎ ((m : Contents) × (index : ℕ) × (slice_get before index ≡ Some m) × (1 ≤ m.level) × (level ≡ m.level + 1) × (parent m ≡ c))

-- Of the nodes of a tree each comes after its children.
abbrev pub ChildrenComeFirst : Type 0
ChildrenComeFirst = (form : Form) (xs : List Child) (before after : List Contents) (n : Contents)
    → nodes_of itself (tree_of form itself xs) ≡ before ++ n ∷ after → AllByRecursion (HasCome xs before n.level) n.children
