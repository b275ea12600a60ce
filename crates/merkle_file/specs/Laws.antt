-- Laws of nodes.
use Rattle.std.specs.Prelude.{◌≡◌}
use Rattle.merkle_file.specs.Node.{Contents, IsNode, spelling}
use Rattle.merkle_file.specs.Reading.{IsNodeBytes, contents_in}

-- A node's spelling is bytes of a node, and is read as that node.
abbrev pub NodesAreReadAgain : Type 0
NodesAreReadAgain = (n : Contents) → IsNode n → IsNodeBytes (spelling n) × (contents_in (spelling n) ≡ n)
