-- What a history says of a session, whatever the answers were (docs/MODEL.md, 'Sessions').
use Rattle.std.specs.Prelude.{◌≡◌, ◌≤◌, ℕ, ◌+◌, ◌*◌, Bool, true, false, List, [], ◌∷◌, ◌++◌, length, slice_get, Some}
use Rattle.std.specs.List.{AllByRecursion}
use Rattle.disk_format.specs.declared.numbers.TheConstants.{MOST_FILE}
use Rattle.container_meta.specs.declared.kind.Kind.{Kind}
use Rattle.container_meta.specs.declared.kind.Kind.TheVariants.{Tree}
use Rattle.container_meta.specs.Segments.{Segment, segment_key}
use Rattle.merkle_file.specs.Node as node
use Rattle.actor_parts.specs.Segments.{KeyPin, children_by, children_of, node_segment, pin_by}
use Rattle.segmenter.specs.Segments.{segments_of}
use Rattle.store_model.specs.Pieces.{Piece, Data, Node, IsPieceOf, HasPieceOf, nodes_of_file, piece_segment}
use Rattle.store_model.specs.Trees.{root_of}
use Rattle.ingest_session.specs.declared.due.Due.TheVariants.{Claim, Nothing}
use Rattle.ingest_session.specs.declared.line.TheConstants.{MOST_LINE}
use Rattle.ingest_session.specs.Calls.{ready_in}
use Rattle.ingest_session.specs.Due.{due_in, due_node, gathered, item_is_held}
use Rattle.ingest_session.specs.History.{History, HasHistory, turn, waiting}
use Rattle.ingest_session.specs.State.{SessionState, turn_node}

-- How many bytes were taken is counted, and a file has no more than the most.
abbrev pub BytesAreCounted : Type 0
BytesAreCounted = (s : SessionState) (h : History) → HasHistory s h → (s.count ≡ length h.given) × (length h.given ≤ MOST_FILE)

-- ---- pieces

-- the segments among some pieces, and the nodes
abbrev pub data_in : List Piece → List (List ℕ)
data_in [] = []
data_in (Data bytes ∷ ps) = bytes ∷ data_in ps
data_in (Node n ∷ ps) = data_in ps

abbrev pub nodes_in : List Piece → List node.Contents
nodes_in [] = []
nodes_in (Data bytes ∷ ps) = nodes_in ps
nodes_in (Node n ∷ ps) = n ∷ nodes_in ps

-- more bytes may follow, as long as the file has not ended
abbrev pub MayFollow : List ℕ → SessionState → Type 0
MayFollow more s = s.ended ≡ true → more ≡ []

-- However the file goes on, the pieces in their place are the first of its segments and the first of its nodes, in order, each
-- once.
pub record ComesFirst (file : List ℕ) (placed : List Piece) : Type 0 where
  pub segments : (rest : List (List ℕ)) × (segments_of file ≡ data_in placed ++ rest)
  pub nodes : (rest : List node.Contents) × (nodes_of_file file ≡ nodes_in placed ++ rest)

abbrev pub PlacedComeFirst : Type 0
PlacedComeFirst = (s : SessionState) (h : History) (more : List ℕ) → HasHistory s h → MayFollow more s →
    ComesFirst (h.given ++ more) h.placed

-- However the file goes on, the item whose turn it is is a piece of it, and so is all that is still to be sealed.
abbrev pub TurnsArePieces : Type 0
TurnsArePieces = (s : SessionState) (h : History) (more : List ℕ) → HasHistory s h → MayFollow more s
    → AllByRecursion (IsPieceOf (h.given ++ more)) (turn s)

abbrev pub OpensArePieces : Type 0
OpensArePieces = (s : SessionState) (h : History) (more : List ℕ) → HasHistory s h → MayFollow more s
    → (kind : Kind)
    → AllByRecursion (λ x. HasPieceOf (h.given ++ more) (record { kind = kind; segment = x })) (gathered s kind).segments

-- ---- what the store keeps

-- what was answered Held, and what was sealed
abbrev pub kept : History → Kind → List Segment
kept h kind = h.held kind ++ h.sealed kind

abbrev pub IsKept : History → Kind → Segment → Type 0
IsKept h kind segment = (index : ℕ) × (slice_get (kept h kind) index ≡ Some segment)

-- a child, as its parent names it, is kept
abbrev pub IsKeptChild : History → KeyPin → Type 0
IsKeptChild h c =
    (kind : Kind) × (segment : Segment) × IsKept h kind segment × (segment_key kind segment ≡ c.key) × (pin_by kind segment ≡ c.pin)

-- The children of a node whose claim is due are kept, and so are those of each node in the open container.
abbrev pub ChildrenComeFirst : Type 0
ChildrenComeFirst = (s : SessionState) (h : History) (n : node.Contents) → HasHistory s h → due_node s ≡ Some n → due_in s ≡ Claim
    → AllByRecursion (IsKeptChild h) (children_of (node_segment n))

abbrev pub OpenNodesHaveChildren : Type 0
OpenNodesHaveChildren = (s : SessionState) (h : History) → HasHistory s h
    → AllByRecursion (λ x. AllByRecursion (IsKeptChild h) (children_by Tree x)) s.nodes.segments

-- ---- seals

-- What was sealed, what was set aside, what lies in the open container and what waits are the segments whose claims were answered
-- Absent, in order, each as often as it was answered so.
abbrev pub SealsWereAbsent : Type 0
SealsWereAbsent = (s : SessionState) (h : History) (kind : Kind) → HasHistory s h
    → (h.sealed kind ++ (gathered s kind).segments) ++ waiting kind s ≡ h.absent kind

-- Nothing of its kind that is still to be sealed has the key of the item that waits.
abbrev pub WaitsForAnother : Type 0
WaitsForAnother = (s : SessionState) (h : History) → HasHistory s h → s.waits ≡ true → item_is_held s (turn_node s) ≡ false

-- one, where it is so
abbrev pub one_if : Bool → ℕ
one_if true = 1
one_if false = 0

-- There are at most two steps for each piece that is in its place, and one for one that waits.
abbrev pub StepsAreFew : Type 0
StepsAreFew = (s : SessionState) (h : History) → HasHistory s h → length h.answers ≤ 2 * length h.placed + one_if s.waits

-- At most so many nodes stand in line.
abbrev pub NodesAreFew : Type 0
NodesAreFew = (s : SessionState) (h : History) → HasHistory s h → length s.line ≤ MOST_LINE

-- ---- the end

-- When the file has ended and nothing is due, each piece of it is kept, and those in their place are all that it has.
pub record EndsKept (s : SessionState) (h : History) : Type 0 where
  pub kept : (p : Piece) → IsPieceOf h.given p → IsKept h (piece_segment p).kind (piece_segment p).segment
  pub segments : segments_of h.given ≡ data_in h.placed
  pub nodes : nodes_of_file h.given ≡ nodes_in h.placed
  pub root : ready_in s ≡ Some (root_of h.given)

abbrev pub AllIsKept : Type 0
AllIsKept = (s : SessionState) (h : History) → HasHistory s h → s.ended ≡ true → due_in s ≡ Nothing → EndsKept s h
