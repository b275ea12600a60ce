-- What an answer does to a session.
use Rattle.std.specs.Prelude.{◌≡◌, ◌≤◌, ℕ, ◌+◌, true, false, if◌then◌else◌, [], ◌∷◌, ◌++◌, drop, length, Option, Some, None}
use Rattle.container_meta.specs.declared.kind.Kind.{Kind}
use Rattle.container_meta.specs.declared.kind.Kind.TheVariants.{Leaf, Tree}
use Rattle.container_meta.specs.Segments.{Contents}
use Rattle.merkle_file.specs.Node as node
use Rattle.actor_parts.specs.declared.step.Answer.{Answer}
use Rattle.actor_parts.specs.declared.step.Answer.TheVariants.{Held, Absent, Sealed}
use Rattle.ingest_session.specs.declared.due.Due.{Due}
use Rattle.ingest_session.specs.declared.due.Due.TheVariants.{Claim, Seal}
use Rattle.ingest_session.specs.State.{SessionState, HasItem, IsClosed, turn_node}
use Rattle.ingest_session.specs.Filling.{with_segment}
use Rattle.ingest_session.specs.Finished.{without_nodes}
use Rattle.ingest_session.specs.Items.{fits, item_of}
use Rattle.ingest_session.specs.Due.{HasTurn, due_in, item_kind, needs_no_step, offered_in, open_of, puts_aside, turn_in}

-- the first node in line goes to its place
abbrev pub placed_node : SessionState → SessionState
placed_node s = record s { line = drop 1 s.line; spelled = None }

-- The first segment of the queue goes to its place, and the nodes that it finishes stand in line. `more` says that this was a
-- call that may still be refused.
abbrev pub placed_front : ℕ → SessionState → SessionState
placed_front more s = record s {
  queue = drop 1 s.queue;
  ahead = None;
  line = s.line ++ s.built.finished;
  built = without_nodes s.built;
  unseen = s.unseen + more;
}

abbrev pub placed_item : ℕ → Option node.Contents → SessionState → SessionState
placed_item more (Some n) s = placed_node s
placed_item more None s = placed_front more s

-- a container with another in its place
abbrev pub with_open : Kind → Contents → SessionState → SessionState
with_open Leaf filled s = record s { leaves = filled }
with_open Tree filled s = record s { nodes = filled }

abbrev pub added_item : SessionState → SessionState
added_item s =
    with_open (item_kind (turn_node s)) (with_segment (open_of s (item_kind (turn_node s))) (item_of (turn_node s) s.queue)) s

-- An item that was answered Absent goes into its container and to its place, or waits where there is no room.
abbrev pub absent_item : ℕ → SessionState → SessionState
absent_item more s = if fits s then placed_item more (turn_node s) (added_item s) else record s { waits = true }

-- an item that waits, where its open container is another now
abbrev pub resumed : ℕ → SessionState → SessionState
resumed more s = if s.waits then absent_item more (record s { waits = false }) else s

-- ---- seals

-- The open container of data is set aside, and an empty one is in its place: the item that waits goes there.
abbrev pub put_aside : SessionState → SessionState
put_aside s = record s { aside = s.aside ++ s.leaves ∷ []; leaves = record s.leaves { segments = [] } }

abbrev pub set_aside : SessionState → SessionState
set_aside s = resumed 1 (put_aside s)

-- the open container of nodes was sealed: it is empty
abbrev pub emptied : SessionState → SessionState
emptied s = record s { nodes = record s.nodes { segments = [] } }

-- So many of those that were offered were sealed. The rest stay aside, and an item that waits for a place there waits on; one
-- that waits for the container of nodes goes there.
abbrev pub sealed_by : ℕ → Due → SessionState → SessionState
sealed_by count (Seal Leaf) s = record s { aside = drop count s.aside }
sealed_by count (Seal Tree) s = resumed 0 (emptied s)
sealed_by count other s = s

-- the session after it was told an answer
abbrev pub told_by : Answer → SessionState → SessionState
told_by Held s = placed_item 0 (turn_node s) s
told_by Absent s = absent_item 0 s
told_by (Sealed id count) s = sealed_by count (due_in s) s
told_by other s = s

-- ---- which answers may be told

-- Everything that needs no step is in its place, and the item whose turn it is has its turn, and its segment.
pub record IsPlaced (s : SessionState) : Type 0 where
  pub turn : s.waits ≡ false → s.turn ≡ turn_in s
  pub none : needs_no_step s ≡ false
  pub item : HasTurn (turn_node s) s.queue → HasItem (turn_node s) s.spelled s.ahead
  pub claim : due_in s ≡ Claim → HasItem (turn_node s) s.spelled s.ahead
  pub closed : IsClosed s

-- And the open container of data is aside where it is to be sealed.
pub record IsSettled (s : SessionState) : Type 0 where
  pub placed : IsPlaced s
  pub aside : puts_aside s ≡ false

-- an answer that the step which is due can have: of what is offered to a seal, one container or more are sealed
abbrev pub IsAnswerFor : Answer → SessionState → Type 0
IsAnswerFor Held s = due_in s ≡ Claim
IsAnswerFor Absent s = due_in s ≡ Claim
IsAnswerFor (Sealed id count) s = (kind : Kind) × (due_in s ≡ Seal kind) × (1 ≤ count) × (count ≤ length (offered_in s kind))
IsAnswerFor other s = ⊥
