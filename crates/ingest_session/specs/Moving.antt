-- What happens to an item before its step.
use Rattle.std.specs.Prelude.{◌≡◌, ◌≤◌, ℕ, ◌+◌, true, List, [], ◌∷◌, ◌++◌, length, Option, Some, None}
use Rattle.disk_format.specs.declared.numbers.TheConstants.{MOST_LEVEL}
use Rattle.container_meta.specs.Segments.{KindSegment}
use Rattle.merkle_file.specs.declared.node.Child.{Child}
use Rattle.merkle_file.specs.declared.top.Top.{Top}
use Rattle.merkle_file.specs.Form.{ByCount}
use Rattle.merkle_file.specs.Node as node
use Rattle.merkle_file.specs.Building.{Progress, Holds, levels_left}
use Rattle.merkle_file.specs.Tree.{itself, nodes_of, of_segment, root_of, tree_of}
use Rattle.actor_parts.specs.Segments.{IsStepSegment, node_segment}
use Rattle.ingest_session.specs.Due.{turn_in}
use Rattle.ingest_session.specs.Finished.{first_of}
use Rattle.ingest_session.specs.State.{SessionState, is_last, leaf_segment, rest_of, turn_node}

-- the segment of a node, where there is one
abbrev pub spelling_of : Option node.Contents → Option KindSegment
spelling_of None = None
spelling_of (Some n) = Some (node_segment n)

-- whose turn it is was found
abbrev pub IsTurned : SessionState → SessionState → Type 0
IsTurned old new = new ≡ record old { turn = turn_in old }

-- the first node in line has its segment
abbrev pub IsSpelledOut : SessionState → SessionState → Type 0
IsSpelledOut old new = new ≡ record old { spelled = spelling_of (first_of old.line) }

abbrev pub front_of : List (List ℕ) → Option KindSegment
front_of [] = None
front_of (x ∷ xs) = Some (leaf_segment x)

-- A builder was pushed one element more, which may have finished nodes. It and an end right after finish one of each level at most.
pub record Builds (child : Child) (old new : Progress) : Type 0 where
  pub pushed : (pushed : List Child) (taken : List node.Contents) → Holds old pushed taken → Holds new (pushed ++ child ∷ []) taken
  pub few : length new.finished + levels_left new.rows ≤ length old.finished + MOST_LEVEL

-- what the builder is given of the first segment of the queue
abbrev pub BuildsFront : List (List ℕ) → Progress → Progress → Type 0
BuildsFront [] old new = ⊥
BuildsFront (x ∷ xs) old new = Builds (of_segment x) old new

-- The first segment of the queue has its turn, and the builder has it.
pub record IsAdvanced (old new : SessionState) : Type 0 where
  pub none : old.ahead ≡ None
  pub ahead : new.ahead ≡ front_of old.queue
  pub builds : BuildsFront old.queue old.built new.built
  pub others : new ≡ record old { ahead = new.ahead; built = new.built }

-- The tree over all that a builder was pushed is whole: its root, and its nodes.
pub record Finishes (top : Top) (old new : Progress) : Type 0 where
  pub all : (pushed : List Child) (taken : List node.Contents) → Holds old pushed taken
      → (top ≡ root_of itself (tree_of ByCount itself pushed)) × (taken ++ new.finished ≡ nodes_of itself (tree_of ByCount itself pushed))
  pub few : length new.finished ≤ length old.finished + levels_left old.rows

-- so it is of the tree of a session
pub record IsClosing (old new : SessionState) : Type 0 where
  pub none : old.top ≡ None
  pub last : is_last old.ended (rest_of old) ≡ true
  pub root : Top
  pub top : new.top ≡ Some root
  pub finishes : Finishes root old.built new.built
  pub others : new ≡ record old { built = new.built; top = new.top }

-- The segment whose turn it is: the node's, or else the first of the queue. A step may have it.
abbrev pub IsItem : Option node.Contents → List (List ℕ) → KindSegment → Type 0
IsItem (Some n) queue seg = seg ≡ node_segment n
IsItem None [] seg = ⊥
IsItem None (x ∷ xs) seg = seg ≡ leaf_segment x

pub record IsOffered (s : SessionState) (seg : KindSegment) : Type 0 where
  pub is : IsItem (turn_node s) s.queue seg
  pub right : IsStepSegment seg
