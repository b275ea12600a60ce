-- What two private functions of `src/rows.rt` do to rows, step by step. No public contract cites it: those speak
-- of the tree.
use Rattle.std.specs.Prelude.{ℕ, ◌+◌, ◌==◌, nat_le, ◌&&◌, if◌then◌else◌, Bool, List, [], ◌∷◌, ◌++◌, length}
use Rattle.std.specs.List.{list_all}
use Rattle.sha2.specs.Sha256.{sha256}
use Rattle.merkle_file.specs.declared.node.Child.{Child}
use Rattle.merkle_file.specs.declared.top.Top.{Top}
use Rattle.disk_format.specs.declared.numbers.TheConstants.{MOST_CHILDREN}
use Rattle.merkle_file.specs.Node.{Contents}
use Rattle.merkle_file.specs.Tree.{parent}

-- rows and the nodes that were finished, after a child was placed in the first row, which has this level
pub record Placed : Type 0 where
  pub rows : List (List Child)
  pub nodes : List Contents

unfoldable pub place : ℕ → Child → List (List Child) → Placed
place level c [] = record { rows = []; nodes = [] }
place level c (row ∷ rows) =
    if length row + 1 == MOST_CHILDREN then
    (let node : Contents = record { level = level + 1; children = row ++ c ∷ [] } in
    let above = place (level + 1) (parent node) rows in
    record { rows = [] ∷ above.rows; nodes = node ∷ above.nodes })
    else record { rows = (row ++ c ∷ []) ∷ rows; nodes = [] }

-- a root and the nodes that were finished, after rows from a level on were closed from below
pub record Closed : Type 0 where
  pub top : Top
  pub nodes : List Contents

-- the root, where it is the only tree of its level, or there is none
abbrev pub top_of : ℕ → List Child → Top
top_of level [] = record { length = 0; level = 0; digest = sha256 [] }
top_of level (c ∷ cs) = record { length = c.length; level = level; digest = c.digest }

abbrev pub are_empty : List (List Child) → Bool
are_empty rows = list_all (λ row. length row == 0) rows

-- Each row with the node that the row below became is a node, up to the row that is the root alone.
unfoldable pub close : ℕ → List Child → List (List Child) → Closed
close level carried [] = record { top = top_of level carried; nodes = [] }
close level carried (row ∷ rows) =
    if are_empty rows && nat_le (length (row ++ carried)) 1 then record { top = top_of level (row ++ carried); nodes = [] }
    else if length (row ++ carried) == 0 then close (level + 1) [] rows
    else
    (let node : Contents = record { level = level + 1; children = row ++ carried } in
    let above = close (level + 1) (parent node ∷ []) rows in
    record { top = above.top; nodes = node ∷ above.nodes })
