-- The item whose turn it is.
use Rattle.std.specs.Prelude.{ℕ, Bool, List, [], ◌∷◌, length, Option, Some, None}
use Rattle.container_meta.specs.Segments.{Segment, has_room}
use Rattle.merkle_file.specs.Node as node
use Rattle.actor_parts.specs.Segments.{node_segment}
use Rattle.ingest_session.specs.Due.{item_kind, open_of}
use Rattle.ingest_session.specs.State.{SessionState, leaf_segment, turn_node}

-- the first segment of the queue, and the item whose turn it is: what a container holds of it
abbrev pub front_segment : List (List ℕ) → Segment
front_segment [] = (leaf_segment []).segment
front_segment (x ∷ xs) = (leaf_segment x).segment

abbrev pub item_of : Option node.Contents → List (List ℕ) → Segment
item_of (Some n) queue = (node_segment n).segment
item_of None queue = front_segment queue

-- there is room for it in the open container of its kind
abbrev pub fits : SessionState → Bool
fits s = has_room (open_of s (item_kind (turn_node s))) (length (item_of (turn_node s) s.queue).bytes)
