-- What the calls of a session do to it.
use Rattle.std.specs.Prelude.{◌≡◌, ◌≤◌, ℕ, ◌+◌, Bool, true, false, nat_lt, if◌then◌else◌, List, [], ◌∷◌, ◌++◌, length, Option, Some, None, Result, Ok, Err, ◌⊎◌}
use Rattle.disk_format.specs.declared.numbers.TheConstants.{MOST_FILE}
use Rattle.refusals.specs.declared.refusal.Refusal.{Refusal}
use Rattle.refusals.specs.declared.refusal.Refusal.TheVariants.{Memory, TooLong, WrongPart}
use Rattle.refusals.specs.declared.refusal.PartKind.TheVariants.{Finished}
use Rattle.disk_format.specs.Cells.{Root}
use Rattle.container_meta.specs.Segments.{KindSegment}
use Rattle.segmenter.specs.Cutting.{empty_hand}
use Rattle.merkle_file.specs.declared.top.Top.{Top}
use Rattle.merkle_file.specs.Building.{Progress}
use Rattle.merkle_file.specs.Node as node
use Rattle.ingest_session.specs.declared.due.Due.{Due}
use Rattle.ingest_session.specs.declared.due.Due.TheVariants.{Nothing}
use Rattle.ingest_session.specs.Due.{due_in}
use Rattle.ingest_session.specs.Finished.{without_nodes}
use Rattle.ingest_session.specs.Items.{item_of}
use Rattle.ingest_session.specs.Moving.{Finishes}
use Rattle.ingest_session.specs.State.{SessionState, rest_of, turn_node}
use Rattle.ingest_session.specs.Stream.{IsCutInto}

-- An item that waits is the same item afterwards.
abbrev pub KeepsItem : SessionState → SessionState → Type 0
KeepsItem old new =
    old.waits ≡ true → (turn_node new ≡ turn_node old) × (item_of (turn_node new) new.queue ≡ item_of (turn_node old) old.queue)

-- These bytes were taken: what is in hand may have changed, and segments may wait after those that waited. Nothing else
-- changed.
pub record IsTaking (bytes : List ℕ) (old new : SessionState) : Type 0 where
  pub ongoing : old.ended ≡ false
  pub count : new.count ≡ old.count + length bytes
  pub more : List (List ℕ)
  pub queue : new.queue ≡ old.queue ++ more
  pub item : KeepsItem old new
  pub cut : (given : List ℕ) (segments : List (List ℕ)) → IsCutInto old.ended given (segments ++ rest_of old) old.hand
      → IsCutInto new.ended (given ++ bytes) (segments ++ rest_of new) new.hand
  pub others : new ≡ record old { count = new.count; hand = new.hand; queue = new.queue }

-- why a push of so many bytes is refused, if it is
abbrev pub push_refusal : SessionState → ℕ → Option Refusal
push_refusal s bytes =
    if s.ended then Some (WrongPart Finished)
    else if nat_lt MOST_FILE (s.count + bytes) then Some TooLong
    else None

-- A push answers how many bytes it took, or is refused exactly so.
abbrev pub IsPushAnswer : SessionState → ℕ → Result ℕ Refusal → Type 0
IsPushAnswer s bytes (Ok n) = (push_refusal s bytes ≡ None) × (n ≤ bytes)
IsPushAnswer s bytes (Err refusal) = push_refusal s bytes ≡ Some refusal

-- A finish is refused exactly after one, or for want of memory.
abbrev pub IsFinishAnswer : SessionState → Result (Unit {0}) Refusal → Type 0
IsFinishAnswer s (Ok u) = s.ended ≡ false
IsFinishAnswer s (Err Memory) = s.ended ≡ false
IsFinishAnswer s (Err (WrongPart Finished)) = s.ended ≡ true
IsFinishAnswer s (Err refusal) = ⊥

-- the tree goes on
pub record GoesOn (old new : SessionState) : Type 0 where
  pub line : new.line ≡ old.line
  pub built : new.built ≡ old.built
  pub top : new.top ≡ old.top

-- The last nodes stand in line, where all segments are in their place.
abbrev pub LinesUp : Option KindSegment → List node.Contents → Progress → SessionState → Type 0
LinesUp None line built new = (new.line ≡ line ++ built.finished) × (new.built ≡ without_nodes built)
LinesUp (Some seg) line built new = (new.line ≡ line) × (new.built ≡ built)

-- the builder has all segments, and the tree is whole
pub record EndsTree (old new : SessionState) : Type 0 where
  pub none : old.top ≡ None
  pub all : rest_of new ≡ []
  pub root : Top
  pub top : new.top ≡ Some root
  pub built : Progress
  pub finishes : Finishes root old.built built
  pub lined : LinesUp old.ahead old.line built new

-- What the end of the file changes: what is in hand is in the queue. Where the builder has all segments, the tree is whole.
pub record IsEnding (old new : SessionState) : Type 0 where
  pub ongoing : old.ended ≡ false
  pub ended : new.ended ≡ true
  pub queue : new.queue ≡ old.queue ++ (if nat_lt 0 (length old.hand.bytes) then old.hand.bytes ∷ [] else [])
  pub item : KeepsItem old new
  pub cut : (given : List ℕ) (segments : List (List ℕ)) → IsCutInto old.ended given (segments ++ rest_of old) old.hand
      → IsCutInto new.ended given (segments ++ rest_of new) new.hand
  pub tree : GoesOn old new ⊎ EndsTree old new
  pub others : new ≡ record old { ended = true; hand = empty_hand; queue = new.queue; line = new.line; built = new.built; top = new.top }

abbrev pub root_by : ℕ → Option Top → Option Root
root_by count None = None
root_by count (Some top) = Some (record { length = count; level = top.level; digest = top.digest })

abbrev pub ready_by : Bool → Due → ℕ → Option Top → Option Root
ready_by true Nothing count top = root_by count top
ready_by ended due count top = None

-- the root, where the file has ended and nothing is due
abbrev pub ready_in : SessionState → Option Root
ready_in s = ready_by s.ended (due_in s) s.count s.top

-- the file has not ended, or something is due
abbrev pub IsUnready : SessionState → Type 0
IsUnready s = (s.ended ≡ false) ⊎ ¬ (due_in s ≡ Nothing)
