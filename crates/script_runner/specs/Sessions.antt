-- The sessions of the actors that give files.
use Rattle.std.specs.Prelude.{◌≡◌, ℕ, Bool, true, false, List, length, slice_index_or, slice_set, Option, Some, None}
use Rattle.std.specs.List.{AllByRecursion}
use Rattle.actor_parts.specs.declared.actor.TheConstants.{ACTORS}
use Rattle.actor_parts.specs.declared.part.Part.{Part}
use Rattle.actor_parts.specs.Kinds.{kind_of}
use Rattle.actor_parts.specs.Parts.{part_of}
use Rattle.refusals.specs.declared.refusal.PartKind.{PartKind}
use Rattle.refusals.specs.declared.refusal.PartKind.TheVariants.{Idle, Writing, Finished, Reading}
use Rattle.ingest_session.specs.declared.queue.TheConstants.{QUEUE}
use Rattle.ingest_session.specs.State.{SessionState}

-- one for each actor, where it gives a file
abbrev pub Sessions : Type 0
Sessions = List (Option SessionState)

-- the session of a line, if there is one, has as many segments waiting as one that is fed line by line may
abbrev pub IsOfLines : Option SessionState → Type 0
IsOfLines None = Unit {0}
IsOfLines (Some s) = s.most ≡ QUEUE

-- one for each actor, each of lines
pub record AreOfLines (sessions : Sessions) : Type 0 where
  pub many : length sessions ≡ ACTORS
  pub each : AllByRecursion IsOfLines sessions

abbrev pub session_of : Sessions → ℕ → Option SessionState
session_of sessions actor = slice_index_or sessions actor None

abbrev pub with_session : Sessions → ℕ → Option SessionState → Sessions
with_session sessions actor session = slice_set sessions actor session

-- whether it has given all of it
abbrev pub has_ended : Option SessionState → Option Bool
has_ended None = None
has_ended (Some s) = Some s.ended

-- what an actor is at, by whether it has given all, if it gives a file, and by what the core has of it
abbrev pub kind_by : Option Bool → PartKind → PartKind
kind_by (Some false) part = Writing
kind_by (Some true) part = Finished
kind_by None Reading = Reading
kind_by None part = Idle

abbrev pub kind_in : Sessions → List Part → ℕ → PartKind
kind_in sessions parts actor = kind_by (has_ended (session_of sessions actor)) (kind_of (part_of parts actor))
