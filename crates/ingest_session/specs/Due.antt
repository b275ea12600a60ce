-- Which step is due (docs/MODEL.md, 'Sessions').
use Rattle.std.specs.Prelude.{ℕ, Bool, true, false, ◌&&◌, ◌||◌, not, nat_le, nat_lt, ◌==◌, if◌then◌else◌, List, [], ◌∷◌, ◌++◌, length, Option, Some, None}
use Rattle.std.specs.List.{flat_map}
use Rattle.container_meta.specs.declared.kind.Kind.{Kind}
use Rattle.container_meta.specs.declared.kind.Kind.TheVariants.{Leaf, Tree}
use Rattle.container_meta.specs.Segments.{Contents, Segment, has_key, has_segment}
use Rattle.merkle_file.specs.Node as node
use Rattle.actor_parts.specs.declared.step.TheConstants.{MOST_TOGETHER}
use Rattle.actor_parts.specs.Segments.{child_kind, node_segment}
use Rattle.store_model.specs.Trees.{leaf_key, node_key}
use Rattle.ingest_session.specs.declared.due.Due.{Due}
use Rattle.ingest_session.specs.declared.due.Due.TheVariants.{Claim, Seal, Nothing}
use Rattle.ingest_session.specs.declared.line.TheConstants.{LONG_LINE}
use Rattle.ingest_session.specs.Child.{has_child_of}
use Rattle.ingest_session.specs.State.{SessionState, is_last, leaf_segment, node_in_turn, turn_node}

-- the open container of a kind, to which items are added
abbrev pub open_of : SessionState → Kind → Contents
open_of s Leaf = s.leaves
open_of s Tree = s.nodes

-- what a seal of a kind is to seal: of data the containers that were set aside, of nodes the open one
abbrev pub offered_in : SessionState → Kind → List Contents
offered_in s Leaf = s.aside
offered_in s Tree = s.nodes ∷ []

-- the segments of containers, in order
abbrev pub segments_of_all : List Contents → List Segment
segments_of_all containers = flat_map (λ c. c.segments) containers

-- All that is still to be sealed of a kind, as if one container had it: what was set aside, in order, and what lies in the open
-- one.
abbrev pub gathered : SessionState → Kind → Contents
gathered s Leaf = record s.leaves { segments = segments_of_all s.aside ++ s.leaves.segments }
gathered s Tree = s.nodes

-- ---- whose turn it is

-- a child of a node is still to be sealed
abbrev pub child_is_open : SessionState → node.Contents → Bool
child_is_open s n = has_child_of (gathered s (child_kind n.level)) n

-- The first node in line is due where many stand in line, at the end once the queue is empty, and once no child of it is
-- still to be sealed.
abbrev pub is_node_due : SessionState → node.Contents → Bool
is_node_due s n = nat_le LONG_LINE (length s.line) || is_last s.ended s.queue || not (child_is_open s n)

abbrev pub turn_for : SessionState → List node.Contents → Kind
turn_for s [] = Leaf
turn_for s (n ∷ ns) = if is_node_due s n then Tree else Leaf

-- whose turn it is, where no item waits: that of the first node in line where it is due, else that of the queue
abbrev pub turn_in : SessionState → Kind
turn_in s = turn_for s s.line

abbrev pub due_node : SessionState → Option node.Contents
due_node s = node_in_turn (turn_in s) s.line

-- ---- the step

-- The step for a node whose turn it is: the containers with its children are sealed before it is claimed. So is the one that
-- has a node of its key that is not in its place: another of its digest. A claim of it then finds that one in the store.
abbrev pub node_due : SessionState → node.Contents → Due
node_due s n =
    if child_is_open s n then Seal (child_kind n.level)
    else if has_key s.nodes (node_key n) then Seal Tree
    else Claim

-- the steps at the end
abbrev pub end_due : SessionState → Due
end_due s =
    if not s.ended then Nothing
    else if not (length (gathered s Leaf).segments == 0) then Seal Leaf
    else if not (length s.nodes.segments == 0) then Seal Tree
    else Nothing

-- an item has its turn: a node, or else the first of the queue
abbrev pub HasTurn : Option node.Contents → List (List ℕ) → Type 0
HasTurn (Some n) queue = Unit {0}
HasTurn None [] = ⊥
HasTurn None (x ∷ xs) = Unit {0}

-- the kind of the item whose turn it is
abbrev pub item_kind : Option node.Contents → Kind
item_kind None = Leaf
item_kind (Some n) = Tree

-- The step for the segment at the front of the queue: where another of its key is still to be sealed, it is before the claim.
abbrev pub queue_due : SessionState → List (List ℕ) → Due
queue_due s [] = end_due s
queue_due s (x ∷ xs) = if has_key (gathered s Leaf) (leaf_key x) then Seal Leaf else Claim

abbrev pub item_due : SessionState → Option node.Contents → Due
item_due s (Some n) = node_due s n
item_due s None = queue_due s s.queue

-- The step that is due, where every item that needs none is in its place: first that of an item which waits, then that
-- of the first node in line where it is due, then that of the queue's first segment, then those of the end.
abbrev pub due_in : SessionState → Due
due_in s = if s.waits then Seal (item_kind (turn_node s)) else item_due s (due_node s)

-- ---- items that need no step

abbrev pub queue_is_there : SessionState → List (List ℕ) → Bool
queue_is_there s [] = false
queue_is_there s (x ∷ xs) = has_segment (gathered s Leaf) (leaf_segment x).segment

-- a node lies in the open tree container, and no child of it is still to be sealed
abbrev pub node_is_there : SessionState → node.Contents → Bool
node_is_there s n = not (child_is_open s n) && has_segment s.nodes (node_segment n).segment

abbrev pub item_is_there : SessionState → Option node.Contents → Bool
item_is_there s (Some n) = node_is_there s n
item_is_there s None = queue_is_there s s.queue

abbrev pub needs_no_step : SessionState → Bool
needs_no_step s = not s.waits && item_is_there s (turn_node s)

-- the key of the item whose turn it is is one of what is still to be sealed
abbrev pub queue_has_key : SessionState → List (List ℕ) → Bool
queue_has_key s [] = false
queue_has_key s (x ∷ xs) = has_key (gathered s Leaf) (leaf_key x)

abbrev pub item_is_held : SessionState → Option node.Contents → Bool
item_is_held s (Some n) = has_key s.nodes (node_key n)
item_is_held s None = queue_has_key s s.queue

-- its open container has it
abbrev pub queue_is_open : SessionState → List (List ℕ) → Bool
queue_is_open s [] = false
queue_is_open s (x ∷ xs) = has_key s.leaves (leaf_key x)

abbrev pub item_is_open : SessionState → Option node.Contents → Bool
item_is_open s (Some n) = has_key s.nodes (node_key n)
item_is_open s None = queue_is_open s s.queue

-- ---- containers that are set aside

abbrev pub seals_data : Due → Bool
seals_data (Seal Leaf) = true
seals_data due = false

-- A seal of data is due, the open container holds a segment, and there is a place for it among those that are sealed together.
abbrev pub puts_aside : SessionState → Bool
puts_aside s = seals_data (due_in s) && (not (length s.leaves.segments == 0) && nat_lt (length s.aside) MOST_TOGETHER)
