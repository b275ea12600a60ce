-- What the root of a file says of its segments, and which nodes its tree has (docs/FORMAT.md, "Nodes").
use Rattle.std.specs.Prelude.{◌≡◌, ◌≤◌, ℕ, List, [], length, sum_by}
use Rattle.std.specs.List.{concat, AllByRecursion}
use Rattle.sha2.specs.Sha256.{sha256}
use Rattle.merkle_file.specs.declared.top.Top.{Top}
use Rattle.disk_format.specs.declared.numbers.TheConstants.{MOST_FILE, MOST_SEGMENT}
use Rattle.merkle_file.specs.Form.{Form, Fits, most_level}
use Rattle.merkle_file.specs.Node.{IsNode}
use Rattle.merkle_file.specs.Tree.{nodes_of, of_segment, root_of, tree_of}

-- segments that a file may have: of right lengths, of no more bytes than the greatest file has, and with a tree that fits
pub record MayBeFile (form : Form) (segments : List (List ℕ)) : Type 0 where
  pub each : AllByRecursion (λ segment. (1 ≤ length segment) × (length segment ≤ MOST_SEGMENT)) segments
  pub most : sum_by length segments ≤ MOST_FILE
  pub few : Fits form of_segment segments

-- What the root of a file of these segments says, in a form. Its level is 0 exactly where there is one segment or none, and its
-- digest is then that of the file's bytes.
pub record IsRootOf (form : Form) (segments : List (List ℕ)) (root : Top) : Type 0 where
  pub size : root.length ≡ sum_by length segments
  pub level : root.level ≤ most_level form
  pub digest : length root.digest ≡ 32
  pub one : root.level ≡ 0 → length segments ≤ 1
  pub leaf : length segments ≤ 1 → root.level ≡ 0
  pub whole : root.level ≡ 0 → root.digest ≡ sha256 (concat segments)
  pub short : root.level ≡ 0 → root.length ≤ MOST_SEGMENT
  pub some : 1 ≤ root.level → 1 ≤ root.length
  pub empty : root.length ≡ 0 → root.digest ≡ sha256 []

abbrev pub RootsAreRight : Type 0
RootsAreRight = (form : Form) (segments : List (List ℕ)) → MayBeFile form segments →
    IsRootOf form segments (root_of of_segment (tree_of form of_segment segments))

-- Each node of the tree keeps the rules of nodes.
abbrev pub NodesAreRight : Type 0
NodesAreRight = (form : Form) (segments : List (List ℕ)) → MayBeFile form segments →
    AllByRecursion IsNode (nodes_of of_segment (tree_of form of_segment segments))
