-- What is claimed and sealed are pieces of the file, and the children of each node are kept before it.
use Rattle.ingest_session.proofs.Prelude.{◌++◌, ◌∙◌, append_assoc, arith, Segment, HasPieceOf, gathered, turn_in, data_in, nodes_in}
use Rattle.ingest_session.specs.Facts.{ChildrenComeFirst, NodesAreFew, OpenNodesHaveChildren, OpensArePieces, PlacedComeFirst, TurnsArePieces}
use Rattle.ingest_session.proofs.Answering.{known}
use Rattle.ingest_session.proofs.Following.{taken_of}
use Rattle.ingest_session.proofs.Growing as growing
use Rattle.ingest_session.proofs.InLine.{turn_is_first}
use Rattle.ingest_session.proofs.Knowing.{HasChildren, children_are_kept}
use Rattle.ingest_session.proofs.Members.{all_of}
use Rattle.ingest_session.proofs.Waiting.{claimed_children, session_of}

pub placed_come_first : PlacedComeFirst
placed_come_first s h more has follow =
    let is = session_of s h has in
    let follows = (known s h has).follows in
    let segments = growing.segments_go_on s h.given h.placed is follows more follow in
    let nodes = growing.nodes_go_on s h.given h.placed is follows more follow in
    record {
      segments = (s.queue ++ segments.0, segments.1 ∙ append_assoc (data_in h.placed) s.queue segments.0);
      nodes = (
        s.line ++ (s.built.finished ++ nodes.0),
        nodes.1
            ∙ append_assoc (taken_of s h.placed) s.built.finished nodes.0
            ∙ append_assoc (nodes_in h.placed) s.line (s.built.finished ++ nodes.0),
      );
    }

pub turns_are_pieces : TurnsArePieces
turns_are_pieces s h more has follow =
    growing.turns_are_pieces s h.given h.placed (session_of s h has) (known s h has).follows more follow

pub opens_are_pieces : OpensArePieces
opens_are_pieces s h more has follow kind =
    all_of (λ (x : Segment). HasPieceOf (h.given ++ more) (record { kind = kind; segment = x })) (gathered s kind).segments
    (λ x there.
    let piece = (known s h has).opens kind x there in
    (piece.0, growing.placed_are_pieces s h.given h.placed (session_of s h has) (known s h has).follows more follow piece.0 piece.1, piece.2))

pub children_come_first : ChildrenComeFirst
children_come_first s h n has turn due =
    children_are_kept s h (known s h has) (session_of s h has) n (turn_is_first (turn_in s) s.line n turn) (claimed_children s n turn due)

pub open_nodes_have_children : OpenNodesHaveChildren
open_nodes_have_children s h has = all_of (HasChildren h) s.nodes.segments (known s h has).children

pub nodes_are_few : NodesAreFew
nodes_are_few s h has = let few = (session_of s h has).line in omega (arith, few)
