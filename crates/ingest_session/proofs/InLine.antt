-- The node whose turn it is is the first in line.
use Rattle.ingest_session.proofs.Prelude.{◌≡◌, List, [], ◌∷◌, ◌++◌, Some, subst, Kind, Leaf, Tree, KindSegment, first_of, IsSpelled, node_in_turn}
use Rattle.std.proofs.Common.{Option}
use Rattle.merkle_file.specs.Node as node

pub turn_is_first : (kind : Kind) (line : List node.Contents) (m : node.Contents) → node_in_turn kind line ≡ Some m → first_of line ≡ Some m
turn_is_first Leaf line m is = absurd (cc)
turn_is_first Tree line m is = is

pub turn_spelled : (kind : Kind) (spelled : Option KindSegment) (line : List node.Contents) → IsSpelled spelled (first_of line) → (m : node.Contents)
    → node_in_turn kind line ≡ Some m → IsSpelled spelled (Some m)
turn_spelled kind spelled line is m turn = subst (IsSpelled spelled) (turn_is_first kind line m turn) is

-- what was put at the end of a line leaves its first node, and so does what is spelled of it
pub first_stays : (line more : List node.Contents) (m : node.Contents) → first_of line ≡ Some m → first_of (line ++ more) ≡ Some m
first_stays [] more m is = absurd (cc)
first_stays (n ∷ ns) more m is = is

-- a line from which the first went
pub first_and_rest : (line : List node.Contents) (m : node.Contents) → first_of line ≡ Some m → (ns : List node.Contents) × (line ≡ m ∷ ns)
first_and_rest [] m is = absurd (cc)
first_and_rest (n ∷ ns) m is = (ns, cc)
