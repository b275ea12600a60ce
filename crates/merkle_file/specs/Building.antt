-- A tree that is built as its leaves come: what is kept of the leaves so far.
use Rattle.std.specs.Prelude.{◌≡◌, ◌≤◌, ◌<◌, ℕ, zero, suc, ◌+◌, ◌*◌, if◌then◌else◌, List, [], ◌∷◌, ◌++◌, length, map}
use Rattle.std.specs.List.{flat_map, AllByRecursion}
use Rattle.merkle_file.specs.declared.node.Child.{Child}
use Rattle.disk_format.specs.declared.numbers.TheConstants.{MOST_CHILDREN, MOST_FILE, MOST_SEGMENT}
use Rattle.merkle_file.specs.declared.top.TheConstants.{MOST_LEAVES}
use Rattle.merkle_file.specs.Form.{Form, ByCount, is_whole, most_children, most_level}
use Rattle.merkle_file.specs.Node.{Contents, total, IsChild}
use Rattle.merkle_file.specs.Tree.{Tree, Leaf, joined, child_of, nodes_of, itself}

-- What a builder keeps: of each level, from the leaves up, the children of the node that isn't whole yet, the nodes
-- that are finished and were not taken, in order, and how many leaves the tree has so far.
pub record Progress : Type 0 where
  pub rows : List (List Child)
  pub finished : List Contents
  pub leaves : ℕ

-- the form of the trees that a builder makes: there is one
abbrev pub built_form : Progress → Form
built_form b = ByCount

-- ---- how much is kept

-- how many leaves lie below rows, where each node below them has the most children
unfoldable pub count_of : List (List Child) → ℕ
count_of [] = 0
count_of (row ∷ rows) = length row + MOST_CHILDREN * count_of rows

-- how many bytes lie below rows
unfoldable pub total_of : List (List Child) → ℕ
total_of [] = 0
total_of (row ∷ rows) = total row + total_of rows

-- how many nodes an end finishes at most: one of each level from the lowest row on that has a child
abbrev pub levels_left : List (List Child) → ℕ
levels_left [] = 0
levels_left ([] ∷ rows) = levels_left rows
levels_left ((c ∷ cs) ∷ rows) = length rows + 1

-- ---- what is kept of the leaves so far

-- the whole groups of a list, from the left, where a group is begun already
unfoldable pub whole_from : {X : Type 0} → Form → (X → Child) → List X → List X → List (List X)
whole_from form says begun [] = []
whole_from form says begun (x ∷ xs) =
    if is_whole form says (begun ++ x ∷ []) then (begun ++ x ∷ []) ∷ whole_from form says [] xs
    else whole_from form says (begun ++ x ∷ []) xs

-- what is left after them
unfoldable pub rest_from : {X : Type 0} → Form → (X → Child) → List X → List X → List X
rest_from form says begun [] = begun
rest_from form says begun (x ∷ xs) =
    if is_whole form says (begun ++ x ∷ []) then rest_from form says [] xs else rest_from form says (begun ++ x ∷ []) xs

abbrev pub whole : {X : Type 0} → Form → (X → Child) → List X → List (List X)
whole form says xs = whole_from form says [] xs

abbrev pub rest : {X : Type 0} → Form → (X → Child) → List X → List X
rest form says xs = rest_from form says [] xs

-- Of so many levels, the trees that are complete and have no parent that is: what is left of each level,
-- where the whole groups of a level are the trees of the next.
unfoldable pub open_trees : {A : Type 0} → Form → (A → Child) → ℕ → ℕ → List (Tree A) → List (List (Tree A))
open_trees form leaf zero level ts = []
open_trees form leaf (suc levels) level ts =
    rest form (child_of leaf) ts ∷ open_trees form leaf levels (level + 1) (map (joined (level + 1)) (whole form (child_of leaf) ts))

-- the nodes in them, those of higher levels first: they stand further to the left
abbrev pub nodes_in_rows : {A : Type 0} → (A → Child) → List (List (Tree A)) → List Contents
nodes_in_rows leaf [] = []
nodes_in_rows leaf (row ∷ rows) = nodes_in_rows leaf rows ++ flat_map (nodes_of leaf) row

abbrev pub open_over : Form → List Child → List (List (Tree Child))
open_over form pushed = open_trees form itself (most_level form) 0 (map Leaf pushed)

-- A builder has been pushed these elements since it was new or finished a tree, and these nodes were taken.
pub record Holds (b : Progress) (pushed : List Child) (taken : List Contents) : Type 0 where
  pub rows : b.rows ≡ map (map (child_of itself)) (open_over (built_form b) pushed)
  pub nodes : taken ++ b.finished ≡ nodes_in_rows itself (open_over (built_form b) pushed)
  pub count : b.leaves ≡ length pushed
  pub length : total_of b.rows ≡ total pushed

-- ---- what may be kept

-- rows from a level on: less than the most children in each, and right ones
abbrev pub AreRows : Form → ℕ → List (List Child) → Type 0
AreRows form level [] = Unit {0}
AreRows form level (row ∷ rows) = (length row < most_children form) × AllByRecursion (IsChild (level + 1)) row
    × AreRows form (level + 1) rows

-- What rows tell of the number of leaves below them. Where nodes end by the number of their children, it is that number.
abbrev pub AreCounted : Form → List (List Child) → ℕ → Type 0
AreCounted ByCount rows leaves = count_of rows ≡ leaves

-- what holds of every builder
pub record IsProgress (b : Progress) : Type 0 where
  pub levels : length b.rows ≡ most_level (built_form b)
  pub rows : AreRows (built_form b) 0 b.rows
  pub counted : AreCounted (built_form b) b.rows b.leaves
  pub count : b.leaves ≤ MOST_LEAVES
  pub total : total_of b.rows ≤ MOST_FILE

-- a segment may be pushed: it has a right length, and is not too much
pub record MayPush (b : Progress) (c : Child) : Type 0 where
  pub some : 1 ≤ c.length
  pub most : c.length ≤ MOST_SEGMENT
  pub count : b.leaves < MOST_LEAVES
  pub total : total_of b.rows + c.length ≤ MOST_FILE
