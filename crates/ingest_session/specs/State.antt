-- What a session holds, and what holds of it at every moment.
use Rattle.std.specs.Prelude.{◌≡◌, ◌≤◌, ℕ, ◌+◌, ◌*◌, Bool, true, false, List, [], ◌∷◌, drop, length, sum_by, Option, Some, None, IsSome}
use Rattle.disk_format.specs.declared.numbers.TheConstants.{LEAST_SEGMENT, MOST_SEGMENT}
use Rattle.container_meta.specs.declared.kind.Kind.{Kind}
use Rattle.container_meta.specs.declared.kind.Kind.TheVariants.{Leaf, Tree}
use Rattle.container_meta.specs.Segments.{KindSegment, Contents}
use Rattle.segmenter.specs.Cutting.{Hand}
use Rattle.merkle_file.specs.Node as node
use Rattle.merkle_file.specs.declared.top.Top.{Top}
use Rattle.merkle_file.specs.Building.{Progress, levels_left, total_of}
use Rattle.actor_parts.specs.Segments.{IsStepSegment, node_segment}
use Rattle.ingest_session.specs.Finished.{first_of}

-- What a session holds.
pub record SessionState : Type 0 where
  -- how many bytes were taken, and whether no more are to come
  pub count : ℕ
  pub ended : Bool
  -- the segment whose end is still to come, and the segments that wait for their turn
  pub hand : Hand
  pub queue : List (List ℕ)
  -- how many wait at most while the file goes on
  pub most : ℕ
  -- the first of these as a segment, where the builder of the tree has it already
  pub ahead : Option KindSegment
  -- the finished nodes that aren't in their place, in line, and the first of them as a segment, where that was made
  pub line : List node.Contents
  pub spelled : Option KindSegment
  -- whose turn it is, as it was found last: that of the first node in line, or of the first segment of the queue
  pub turn : Kind
  -- the builder of the tree, which has the nodes that are finished by the segment ahead, and the root where the tree is whole
  pub built : Progress
  pub top : Option Top
  -- the open containers, and those of data that were set aside to be sealed together, in order
  pub leaves : Contents
  pub nodes : Contents
  pub aside : List Contents
  -- whether the item whose turn it is was answered Absent and didn't fit
  pub waits : Bool
  -- how many segments were put in their place by a call that was refused after it
  pub unseen : ℕ

-- The node whose turn it is. Where there is none, it is that of the first segment of the queue.
abbrev pub node_in_turn : Kind → List node.Contents → Option node.Contents
node_in_turn Leaf line = None
node_in_turn Tree line = first_of line

abbrev pub turn_node : SessionState → Option node.Contents
turn_node s = node_in_turn s.turn s.line

-- the segments that the builder doesn't have
abbrev pub rest_after : Option KindSegment → List (List ℕ) → List (List ℕ)
rest_after None queue = queue
rest_after (Some seg) queue = drop 1 queue

abbrev pub rest_of : SessionState → List (List ℕ)
rest_of s = rest_after s.ahead s.queue

-- data as a segment
abbrev pub leaf_segment : List ℕ → KindSegment
leaf_segment bytes = record { kind = Leaf; segment = record { level = 0; bytes = bytes } }

-- a segment isn't empty, and has at most the greatest length
abbrev pub IsSized : List ℕ → Type 0
IsSized bytes = (1 ≤ length bytes) × (length bytes ≤ MOST_SEGMENT)

-- the segment that is ahead is the first of the queue
abbrev pub IsAhead : Option KindSegment → List (List ℕ) → Type 0
IsAhead None queue = Unit {0}
IsAhead (Some seg) [] = ⊥
IsAhead (Some seg) (x ∷ xs) = seg ≡ leaf_segment x

-- the segment that was made of a node is that node's
abbrev pub IsSpelled : Option KindSegment → Option node.Contents → Type 0
IsSpelled None n = Unit {0}
IsSpelled (Some seg) None = ⊥
IsSpelled (Some seg) (Some n) = (seg ≡ node_segment n) × IsStepSegment seg

-- nothing is to come after these segments
abbrev pub is_last : Bool → List (List ℕ) → Bool
is_last false rest = false
is_last true [] = true
is_last true (x ∷ xs) = false

-- each segment but the last of the file has at least the least length
abbrev pub AreLong : Bool → List (List ℕ) → Type 0
AreLong ended [] = Unit {0}
AreLong ended (x ∷ xs) = (is_last ended xs ≡ false → LEAST_SEGMENT ≤ length x) × AreLong ended xs

-- the item whose turn it is has its segment
abbrev pub HasItem : Option node.Contents → Option KindSegment → Option KindSegment → Type 0
HasItem None spelled None = ⊥
HasItem None spelled (Some seg) = Unit {0}
HasItem (Some n) None ahead = ⊥
HasItem (Some n) (Some seg) ahead = Unit {0}

-- What the builder has, and what it is still to be given, are the bytes that were taken.
pub record IsBuilding (s : SessionState) : Type 0 where
  pub bytes : s.top ≡ None → total_of s.built.rows + sum_by length (rest_of s) + length s.hand.bytes ≡ s.count
  pub long : AreLong s.ended (rest_of s)
  pub counted : s.top ≡ None → is_last s.ended (rest_of s) ≡ false → LEAST_SEGMENT * s.built.leaves ≤ total_of s.built.rows

-- the tree is whole only where nothing is to come and the builder has all segments
abbrev pub IsWhole : Option Top → Bool → Type 0
IsWhole None last = Unit {0}
IsWhole (Some top) last = last ≡ true

-- how many nodes the end of the tree may still finish
abbrev pub ends_left : Option Top → Progress → ℕ
ends_left None built = levels_left built.rows
ends_left (Some top) built = 0

-- Where the first segment of the queue has its turn and is the last, the tree is whole.
abbrev pub IsClosed : SessionState → Type 0
IsClosed s = turn_node s ≡ None → is_last s.ended (rest_of s) ≡ true → IsSome s.top
