-- The pieces of a file: its segments, and the nodes of its tree (docs/MODEL.md, 'Files by trees').
use Rattle.std.specs.Prelude.{◌≡◌, ℕ, List, take, slice_get, Some}
use Rattle.container_meta.specs.declared.kind.Kind.TheVariants.{Leaf, Tree}
use Rattle.container_meta.specs.Segments.{KindSegment}
use Rattle.merkle_file.specs.Form.{ByCount, room_of}
use Rattle.merkle_file.specs.Node.{Contents, spelling}
use Rattle.merkle_file.specs.Tree.{nodes_of, of_segment, tree_of}
use Rattle.segmenter.specs.Segments.{segments_of}
use Rattle.store_model.specs.Standing.{IsSegmentOf}
use Rattle.store_model.specs.Trees.{leaf_key, node_key}

pub data Piece : Type 0 where
  Data : List ℕ → Piece
  Node : Contents → Piece

-- what a container has of it
abbrev pub piece_segment : Piece → KindSegment
piece_segment (Data bytes) = record { kind = Leaf; segment = record { level = 0; bytes = bytes } }
piece_segment (Node n) = record { kind = Tree; segment = record { level = n.level; bytes = spelling n } }

-- its key, and its bytes
abbrev pub piece_key : Piece → List ℕ
piece_key (Data bytes) = leaf_key bytes
piece_key (Node n) = node_key n

abbrev pub piece_bytes : Piece → List ℕ
piece_bytes (Data bytes) = bytes
piece_bytes (Node n) = spelling n

-- the nodes of a file's tree: that over its segments, of which no file has more than six levels have room for
abbrev pub nodes_of_file : List ℕ → List Contents
nodes_of_file file = nodes_of of_segment (tree_of ByCount of_segment (take (room_of ByCount) (segments_of file)))

-- a segment of the file, or a node of its tree
abbrev pub IsPieceOf : List ℕ → Piece → Type 0
IsPieceOf file (Data bytes) = IsSegmentOf file bytes
IsPieceOf file (Node n) = (index : ℕ) × (slice_get (nodes_of_file file) index ≡ Some n)

-- what a container has is a piece of the file
abbrev pub HasPieceOf : List ℕ → KindSegment → Type 0
HasPieceOf file seg = (p : Piece) × IsPieceOf file p × (seg ≡ piece_segment p)
