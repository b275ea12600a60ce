-- Items that need no step go to their place, and those whose turn it is get their segments.
use Rattle.std.specs.Prelude.{◌≡◌, ◌+◌, ◌-◌, ◌<◌, ℕ, Bool, true, false, length, None, IsSome}
use Rattle.ingest_session.specs.declared.queue.TheConstants.{SPARED}
use Rattle.ingest_session.specs.Sound.{IsSession}
use Rattle.ingest_session.specs.State.{SessionState, turn_node}
use Rattle.ingest_session.specs.Due.{needs_no_step, puts_aside, turn_in}
use Rattle.ingest_session.specs.Told.{IsPlaced, placed_node, placed_front, set_aside}
use Rattle.ingest_session.specs.Moving.{IsAdvanced, IsClosing, IsSpelledOut, IsTurned}
use Rattle.ingest_session.specs.Work.{to_do}

-- What may happen before a step is due: whose turn it is is found; that item gets its segment, and goes to its place where it
-- needs no step; the tree is made whole where its last segment has its turn; the open container of data is set aside where it is
-- to be sealed.
pub data SettleStep : SessionState → SessionState → Type 0 where
  Turned : (old new : SessionState) → old.waits ≡ false → IsTurned old new → SettleStep old new
  Spelled : (old new : SessionState) → IsSpelledOut old new → SettleStep old new
  Advanced : (old new : SessionState) → IsAdvanced old new → SettleStep old new
  Closed : (old new : SessionState) → IsClosing old new → SettleStep old new
  PlacedNode : (old new : SessionState) → needs_no_step old ≡ true → old.turn ≡ turn_in old → IsSome (turn_node old)
      → new ≡ placed_node old → SettleStep old new
  PlacedFront : (old new : SessionState) → needs_no_step old ≡ true → old.turn ≡ turn_in old → turn_node old ≡ None
      → new ≡ placed_front 1 old → SettleStep old new
  SetAside : (old new : SessionState) → IsSession old → needs_no_step old ≡ false
      → (old.waits ≡ false → old.turn ≡ turn_in old) → puts_aside old ≡ true → new ≡ set_aside old → SettleStep old new

-- Any number of these, one after the other.
pub data Settles : SessionState → SessionState → Type 0 where
  Stays : (s : SessionState) → Settles s s
  Then : (first second third : SessionState) → Settles first second → IsSession third → SettleStep second third → Settles first third

-- What trying to put the item whose turn it is in its place does: less is left to do, or it needs a step.
abbrev pub Passes : Bool → SessionState → SessionState → Type 0
Passes true old new = to_do new < to_do old
Passes false old new = IsPlaced new × (new.waits ≡ false)

-- how many segments are seen to wait
abbrev pub seen : SessionState → ℕ
seen s = length s.queue + s.unseen

-- how many are to wait at most before a piece is given, so that it is taken whole
abbrev pub most_waiting : SessionState → ℕ
most_waiting s = s.most - SPARED
