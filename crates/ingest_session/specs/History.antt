-- What was done with a session since it was new (docs/MODEL.md, 'Sessions').
use Rattle.std.specs.Prelude.{◌≡◌, ◌≤◌, ℕ, Bool, true, false, if◌then◌else◌, List, [], ◌∷◌, ◌++◌, length, take, Option, Some, None}
use Rattle.std.specs.List.{AllByRecursion}
use Rattle.container_meta.specs.declared.kind.Kind.{Kind}
use Rattle.container_meta.specs.declared.kind.Kind.TheVariants.{Leaf, Tree}
use Rattle.container_meta.specs.Segments.{Segment}
use Rattle.segmenter.specs.Cutting.{HasCut}
use Rattle.merkle_file.specs.Building.{Holds}
use Rattle.merkle_file.specs.Node as node
use Rattle.actor_parts.specs.declared.step.Answer.{Answer}
use Rattle.actor_parts.specs.declared.step.Answer.TheVariants.{Held, Absent, Sealed}
use Rattle.store_model.specs.Pieces.{Piece, Data, Node}
use Rattle.ingest_session.specs.declared.due.Due.{Due}
use Rattle.ingest_session.specs.declared.due.Due.TheVariants.{Seal}
use Rattle.ingest_session.specs.Calls.{IsEnding, IsTaking}
use Rattle.ingest_session.specs.Due.{due_in, gathered, item_kind, offered_in, segments_of_all}
use Rattle.ingest_session.specs.Items.{fits, item_of}
use Rattle.ingest_session.specs.Settling.{SettleStep, Turned, Spelled, Advanced, Closed, PlacedNode, PlacedFront, SetAside}
use Rattle.ingest_session.specs.Sound.{IsSession}
use Rattle.ingest_session.specs.State.{SessionState, turn_node}
use Rattle.ingest_session.specs.Told.{IsAnswerFor, IsSettled, emptied, put_aside, told_by}

pub record History : Type 0 where
  -- the bytes that were taken
  pub given : List ℕ
  -- the pieces of the file that are in their place, in order
  pub placed : List Piece
  -- of each kind, in order: what was answered Held, what was answered Absent, and what lay in containers that were sealed
  pub held : Kind → List Segment
  pub absent : Kind → List Segment
  pub sealed : Kind → List Segment
  -- what the store answered, in order
  pub answers : List Answer

-- that of a new session
abbrev pub no_history : History
no_history = record { given = []; placed = []; held = λ kind. []; absent = λ kind. []; sealed = λ kind. []; answers = [] }

-- ---- the item whose turn it is

-- as a piece of the file
abbrev pub turn_of : Option node.Contents → List (List ℕ) → List Piece
turn_of (Some n) queue = Node n ∷ []
turn_of None [] = []
turn_of None (x ∷ xs) = Data x ∷ []

abbrev pub turn : SessionState → List Piece
turn s = turn_of (turn_node s) s.queue

abbrev pub same_kind : Kind → Kind → Bool
same_kind Leaf Leaf = true
same_kind Leaf Tree = false
same_kind Tree Leaf = false
same_kind Tree Tree = true

-- as a container has it, where it is of a kind
abbrev pub item_if : Kind → SessionState → List Segment
item_if kind s = if same_kind kind (item_kind (turn_node s)) then item_of (turn_node s) s.queue ∷ [] else []

-- the item that waits, where one of a kind does
abbrev pub waiting : Kind → SessionState → List Segment
waiting kind s = if s.waits then item_if kind s else []

-- what was answered Absent of a kind and is not sealed, in order
abbrev pub unsealed : Kind → SessionState → List Segment
unsealed kind s = (gathered s kind).segments ++ waiting kind s

-- ---- what an answer adds to a history

abbrev pub held_by : Kind → Answer → SessionState → List Segment
held_by kind Held s = item_if kind s
held_by kind other s = []

abbrev pub absent_by : Kind → Answer → SessionState → List Segment
absent_by kind Absent s = item_if kind s
absent_by kind other s = []

-- the segments of the first containers that were offered, so many of them
abbrev pub sealed_for : Kind → ℕ → Due → SessionState → List Segment
sealed_for kind count (Seal other) s = if same_kind kind other then segments_of_all (take count (offered_in s kind)) else []
sealed_for kind count due s = []

abbrev pub sealed_by : Kind → Answer → SessionState → List Segment
sealed_by kind (Sealed id count) s = sealed_for kind count (due_in s) s
sealed_by kind other s = []

-- an item that was answered Absent is in its place where it fits, and one that waited where it fits into another container
abbrev pub placed_if : Bool → SessionState → List Piece
placed_if true s = turn s
placed_if false s = []

abbrev pub placed_resumed : SessionState → List Piece
placed_resumed s = if s.waits then placed_if (fits (record s { waits = false })) s else []

abbrev pub placed_after_seal : Due → SessionState → List Piece
placed_after_seal (Seal Tree) s = placed_resumed (emptied s)
placed_after_seal due s = []

abbrev pub placed_by : Answer → SessionState → List Piece
placed_by Held s = turn s
placed_by Absent s = placed_if (fits s) s
placed_by (Sealed id count) s = placed_after_seal (due_in s) s
placed_by other s = []

abbrev pub answered : Answer → SessionState → History → History
answered answer s h = record {
  given = h.given;
  placed = h.placed ++ placed_by answer s;
  held = λ kind. h.held kind ++ held_by kind answer s;
  absent = λ kind. h.absent kind ++ absent_by kind answer s;
  sealed = λ kind. h.sealed kind ++ sealed_by kind answer s;
  answers = h.answers ++ answer ∷ [];
}

-- ---- the calls

-- a new session
pub record IsBegun (s : SessionState) : Type 0 where
  pub count : s.count ≡ 0
  pub ongoing : s.ended ≡ false
  pub cut : HasCut [] [] s.hand
  pub queue : s.queue ≡ []
  pub ahead : s.ahead ≡ None
  pub line : s.line ≡ []
  pub built : Holds s.built [] []
  pub top : s.top ≡ None
  pub leaves : s.leaves.segments ≡ []
  pub nodes : s.nodes.segments ≡ []
  pub aside : s.aside ≡ []
  pub waits : s.waits ≡ false

-- what a move before a step puts in its place
abbrev pub moved : {s t : SessionState} → SettleStep s t → List Piece
moved (Turned s t off is) = []
moved (Spelled s t is) = []
moved (Advanced s t is) = []
moved (Closed s t is) = []
moved (PlacedNode s t none right some is) = turn s
moved (PlacedFront s t none right empty is) = turn s
moved (SetAside s t sound some right puts is) = placed_resumed (put_aside s)

-- each container that is to be sealed holds a segment
abbrev pub SealsSome : Due → SessionState → Type 0
SealsSome (Seal kind) s = AllByRecursion (λ c. 1 ≤ length c.segments) (offered_in s kind)
SealsSome due s = Unit {0}

-- A session after calls in any order since it was new, and what was done by them.
pub data HasHistory : SessionState → History → Type 0 where
  Begun : (s : SessionState) → IsSession s → IsBegun s → HasHistory s no_history
  Pushed : (s t : SessionState) (h : History) (bytes : List ℕ) → HasHistory s h → IsSession t → IsTaking bytes s t
      → HasHistory t (record h { given = h.given ++ bytes })
  Ended : (s t : SessionState) (h : History) → HasHistory s h → IsSession t → IsEnding s t → HasHistory t h
  Moved : (s t : SessionState) (h : History) → HasHistory s h → IsSession t → (step : SettleStep s t)
      → HasHistory t (record h { placed = h.placed ++ moved step })
  Asked : (s t : SessionState) (h : History) → HasHistory s h → IsSession t → t ≡ record s { unseen = 0 } → HasHistory t h
  Told : (s : SessionState) (answer : Answer) (h : History) → HasHistory s h → IsSession (told_by answer s) → IsSettled s
      → s.unseen ≡ 0 → IsAnswerFor answer s → SealsSome (due_in s) s → HasHistory (told_by answer s) (answered answer s h)

-- Pieces went to their place, and nothing else was done.
abbrev pub Places : SessionState → SessionState → Type 0
Places s t = (h : History) → HasHistory s h → (more : List Piece) × HasHistory t (record h { placed = h.placed ++ more })

-- What finding the step that is due leaves as it is: how many bytes were taken, whether the file has ended and how many segments may
-- wait, and what was answered Absent and is not sealed. An item that waits afterwards waited before, and is the same.
pub record KeepsOpen (old new : SessionState) : Type 0 where
  pub count : new.count ≡ old.count
  pub ended : new.ended ≡ old.ended
  pub most : new.most ≡ old.most
  pub unsealed : (kind : Kind) → unsealed kind new ≡ unsealed kind old
  pub item : new.waits ≡ true → (old.waits ≡ true) × (turn_node new ≡ turn_node old)
      × (item_of (turn_node new) new.queue ≡ item_of (turn_node old) old.queue)
