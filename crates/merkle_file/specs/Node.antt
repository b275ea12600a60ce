-- Nodes of a Merkle tree of segments, and how each is spelled (docs/FORMAT.md, "Nodes").
use Rattle.std.specs.Prelude.{◌≡◌, ◌≤◌, ℕ, ◌==◌, if◌then◌else◌, List, ◌∷◌, ◌++◌, length, sum_by}
use Rattle.std.specs.List.{flat_map, AllByRecursion}
use Rattle.std.specs.Int.{w16, w64, to_be_bytes}
use Rattle.sha2.specs.Sha256.{sha256}
use Rattle.merkle_file.specs.declared.node.Child.{Child}
use Rattle.disk_format.specs.declared.numbers.TheConstants.{MOST_FILE, MOST_SEGMENT}
use Rattle.merkle_file.specs.Form.{Form, ByCount, form_byte, most_children, most_level}

-- what a node says: its level, and of each child the digest and the length of its subtree
pub record Contents : Type 0 where
  pub level : ℕ
  pub children : List Child

-- the form of the tree that a node is of: there is one
abbrev pub form_of : Contents → Form
form_of n = ByCount

-- how many bytes of the file lie below these children
abbrev pub total : List Child → ℕ
total children = sum_by (λ c. c.length) children

-- what a node says of one child: 32 bytes of digest and 8 of length
abbrev pub entry : Child → List ℕ
entry c = c.digest ++ to_be_bytes w64 c.length

-- the one spelling of a node: its level, the form, the number of children, and of each its entry
unfoldable pub spelling : Contents → List ℕ
spelling n = (n.level ∷ form_byte (form_of n) ∷ to_be_bytes w16 (length n.children)) ++ flat_map entry n.children

-- the digest of a node is that of its spelling
abbrev pub node_digest : Contents → List ℕ
node_digest n = sha256 (spelling n)

-- the greatest length of a child: those of a node of level 1 are segments
abbrev pub greatest_child : ℕ → ℕ
greatest_child level = if level == 1 then MOST_SEGMENT else MOST_FILE

-- what a node of this level may have as a child
pub record IsChild (level : ℕ) (c : Child) : Type 0 where
  pub digest : length c.digest ≡ 32
  pub some : 1 ≤ c.length
  pub most : c.length ≤ greatest_child level

-- the rules of a node
pub record IsNode (n : Contents) : Type 0 where
  pub above : 1 ≤ n.level
  pub level : n.level ≤ most_level (form_of n)
  pub some : 1 ≤ length n.children
  pub most : length n.children ≤ most_children (form_of n)
  pub each : AllByRecursion (IsChild n.level) n.children
  pub total : total n.children ≤ MOST_FILE

-- A node has one spelling, and bytes spell one node at most.
abbrev pub SpellingsTellNodes : Type 0
SpellingsTellNodes = (n m : Contents) → IsNode n → IsNode m → spelling n ≡ spelling m → n ≡ m
