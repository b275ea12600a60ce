-- Rows of children: what may be placed in them.
use Rattle.std.specs.Prelude.{◌≡◌, ◌≤◌, ◌<◌, ℕ, ◌+◌, ◌*◌, ◌^◌, List, [], ◌∷◌, ◌++◌, length, drop, map, replicate}
use Rattle.std.specs.Global.{Vec}
use Rattle.std.specs.List.{AllByRecursion}
use Rattle.merkle_file.specs.declared.node.Child.{Child}
use Rattle.disk_format.specs.declared.numbers.TheConstants.{MOST_CHILDREN, MOST_FILE, MOST_LEVEL}
use Rattle.merkle_file.specs.Form.{ByCount}
use Rattle.merkle_file.specs.Node.{Contents, total, IsChild, IsNode}
use Rattle.merkle_file.specs.Building.{count_of, total_of, AreRows}
use Rattle.merkle_file.specs.Steps.{place}

-- rows as lists
abbrev pub items_of : List (Vec Child) → List (List Child)
items_of rows = map (λ row. row.items) rows

-- a child may be added to a row of a level
pub record CanTake (level : ℕ) (row : List Child) (c : Child) : Type 0 where
  pub low : level < MOST_LEVEL
  pub few : length row < MOST_CHILDREN
  pub each : AllByRecursion (IsChild (level + 1)) row
  pub child : IsChild (level + 1) c
  pub total : total row + c.length ≤ MOST_FILE

-- a child may be placed in the first of these rows, which go from a level to the last
pub record CanPlace (level : ℕ) (c : Child) (rows : List (List Child)) : Type 0 where
  pub levels : level + length rows ≡ MOST_LEVEL
  pub right : AreRows ByCount level rows
  pub child : IsChild (level + 1) c
  pub room : count_of rows + 1 < MOST_CHILDREN ^ length rows
  pub total : total_of rows + c.length ≤ MOST_FILE

-- these rows, which go from a level to the last, may be closed with a child that the row below became
pub record CanClose (level : ℕ) (carried : List Child) (rows : List (List Child)) : Type 0 where
  pub levels : level + length rows ≡ MOST_LEVEL
  pub some : 0 < length rows
  pub right : AreRows ByCount level rows
  pub one : length carried ≤ 1
  pub each : AllByRecursion (IsChild (level + 1)) carried
  pub room : MOST_CHILDREN * (count_of rows + length carried) ≤ MOST_CHILDREN ^ length rows
  pub total : total_of rows + total carried ≤ MOST_FILE

-- children are a node of a level, if there are any
abbrev pub AreNode : ℕ → List Child → Type 0
AreNode level children = 1 ≤ length children → IsNode (record { level = level; children = children })

-- the row of a level got a child more, and the rows below it are empty
abbrev pub IsSettled : ℕ → Child → List (List Child) → List (List Child) → Type 0
IsSettled level c old new = (row : List Child) → drop level old ≡ row ∷ drop (level + 1) old
    → new ≡ replicate level [] ++ (row ++ c ∷ []) ∷ drop (level + 1) old

-- A leaf leads to a child more in the row of this level, where the rows below become these nodes.
pub record IsPlacement (leaf : Child) (rows : List (List Child)) (level : ℕ) (c : Child) (nodes : List Contents) : Type 0 where
  pub within : level < length rows
  pub rows_then : IsSettled level c rows (place 0 leaf rows).rows
  pub nodes_then : nodes ≡ (place 0 leaf rows).nodes
