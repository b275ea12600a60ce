-- A walk down a tree: what is still to come, and what a node puts in its own place (docs/FORMAT.md, "Nodes").
use Rattle.std.specs.Prelude.{◌≡◌, ◌≤◌, ◌<◌, ℕ, ◌+◌, ◌-◌, ◌*◌, ◌==◌, min, if◌then◌else◌, List, [], ◌∷◌, length, map, Option, None, sum_by}
use Rattle.merkle_file.specs.declared.node.Child.{Child}
use Rattle.merkle_file.specs.declared.top.Top.{Top}
use Rattle.merkle_file.specs.declared.fault.FieldFault.{FieldFault}
use Rattle.merkle_file.specs.declared.reading.Asked.{Asked}
use Rattle.merkle_file.specs.declared.want.Want.{Want}
use Rattle.merkle_file.specs.declared.want.Want.TheVariants as wants
use Rattle.disk_format.specs.declared.numbers.TheConstants.{MOST_CHILDREN, MOST_FILE, MOST_LEVEL, MOST_SEGMENT}
use Rattle.merkle_file.specs.declared.stack.TheConstants.{STACK}
use Rattle.merkle_file.specs.Form.{Form}
use Rattle.merkle_file.specs.Node.{Contents, IsNode, spelling, total}
use Rattle.std.specs.List.{flat_map, AllByRecursion}
use Rattle.merkle_file.specs.Tree.{Tree, Trees, Empty, Leaf, Node, NoTree, Then, leaves, level_of, children_of, root_of, of_segment, tree_of}
use Rattle.merkle_file.specs.Reading.{contents_in, first_fault}

-- what a walk asks for: the first tree that is still to come
abbrev pub wanted : List Top → Want
wanted [] = wants.End
wanted (t ∷ ts) = if t.level == 0 then wants.Leaf t.digest t.level t.length else wants.Node t.digest t.level t.length

abbrev pub IsNodeNext : List Top → Type 0
IsNodeNext [] = ⊥
IsNodeNext (t ∷ ts) = 1 ≤ t.level

abbrev pub IsLeafNext : List Top → Type 0
IsLeafNext [] = ⊥
IsLeafNext (t ∷ ts) = t.level ≡ 0

-- which kind of tree comes next, by what a walk asks for
abbrev pub IsNext : Want → List Top → Type 0
IsNext (wants.Node digest level length) ts = IsNodeNext ts
IsNext (wants.Leaf digest level length) ts = IsLeafNext ts
IsNext wants.End ts = ts ≡ []

-- the trees below a node, as it names them
abbrev pub below : ℕ → Child → Top
below level c = record { length = c.length; level = level - 1; digest = c.digest }

abbrev pub opened : Contents → List Top
opened n = map (below n.level) n.children

-- a node is the one that was named
pub record IsNamed (t : Top) (n : Contents) : Type 0 where
  pub level : n.level ≡ t.level
  pub length : total n.children ≡ t.length

-- what is asked of the node that was named: its level and its length, within the limits of all nodes
abbrev pub asked_for : Top → Asked
asked_for t = record {
  lowest = t.level;
  greatest = min t.level MOST_LEVEL;
  least = t.length;
  most = min t.length MOST_FILE;
}

abbrev pub fault_for : List Top → List ℕ → Option FieldFault
fault_for [] bytes = None
fault_for (t ∷ ts) bytes = first_fault (asked_for t) bytes

abbrev pub IsNextNamed : List Top → Contents → Type 0
IsNextNamed [] n = ⊥
IsNextNamed (t ∷ ts) n = IsNamed t n

-- what is to come of a tree: nothing of an empty file
abbrev pub start_of : Top → List Top
start_of t = if t.length == 0 then (if t.level == 0 then [] else t ∷ []) else t ∷ []

-- Below each tree that is to come there are few enough that all of its nodes have room on the stack.
abbrev pub HasRoom : List Top → Type 0
HasRoom [] = Unit {0}
HasRoom (t ∷ ts) = (t.level ≤ MOST_LEVEL → length ts + (MOST_CHILDREN - 1) * t.level < STACK) × HasRoom ts

-- ---- a walk down the tree over segments

abbrev pub list_of : Trees (List ℕ) → List (Tree (List ℕ))
list_of NoTree = []
list_of (Then t ts) = t ∷ list_of ts

-- what a node of the tree says
abbrev pub contents_of : ℕ → Trees (List ℕ) → Contents
contents_of level ts = record { level = level; children = children_of of_segment ts }

-- a tree all of whose nodes keep the rules, and whose segments aren't empty
abbrev mutual
  pub IsTree : Tree (List ℕ) → Type 0
  IsTree Empty = ⊥
  IsTree (Leaf segment) = 1 ≤ length segment
  IsTree (Node level ts) = IsNode (contents_of level ts) × AreBelow level ts

  pub AreBelow : ℕ → Trees (List ℕ) → Type 0
  AreBelow level NoTree = Unit {0}
  AreBelow level (Then t ts) = (level_of t + 1 ≡ level) × IsTree t × AreBelow level ts

-- the trees that a walk begins with: the tree, or none of an empty file
abbrev pub trees_in : Tree (List ℕ) → List (Tree (List ℕ))
trees_in Empty = []
trees_in (Leaf segment) = Leaf segment ∷ []
trees_in (Node level ts) = Node level ts ∷ []

-- bytes are the node that comes next, as it was named
abbrev pub SpellsNext : List Top → List ℕ → Type 0
SpellsNext ts bytes = (bytes ≡ spelling (contents_in bytes)) × IsNode (contents_in bytes) × IsNextNamed ts (contents_in bytes)

-- These trees, in order, are to come.
pub record Ahead (c : List Top) (ts : List (Tree (List ℕ))) : Type 0 where
  pub tops : c ≡ map (root_of of_segment) ts
  pub each : AllByRecursion IsTree ts

-- the segments that are to come
abbrev pub segments_in : List (Tree (List ℕ)) → List (List ℕ)
segments_in ts = flat_map leaves ts

-- The tree over segments of right lengths, no more of them than a file has bytes, has right nodes alone.
abbrev pub TreesAreRight : Type 0
TreesAreRight = (form : Form) (segments : List (List ℕ)) →
    AllByRecursion (λ segment. (1 ≤ length segment) × (length segment ≤ MOST_SEGMENT)) segments
    → sum_by length segments ≤ MOST_FILE → AllByRecursion IsTree (trees_in (tree_of form of_segment segments))
