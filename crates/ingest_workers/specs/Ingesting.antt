-- A file that a caller gives, among the steps of others (docs/MODEL.md, 'Workers').
use Rattle.std.specs.Prelude.{◌≡◌, ℕ, ◌==◌, if◌then◌else◌, List, [], ◌∷◌, ◌++◌}
use Rattle.actor_parts.specs.Asking.{Ask}
use Rattle.load_stream.specs.Load.{LoadState}
use Rattle.ingest_session.specs.History.{History}
use Rattle.store_core.specs.Runs.{FileEvent, events_of}
use Rattle.store_core.specs.State.{Event}
use Rattle.session_turns.specs.Owning.{Ingests}
use Rattle.ingest_workers.specs.Giving.{Gives}

-- a step as its actor asked for it
abbrev pub ask_of : Event → Ask
ask_of e = record { step = e.step; answer = e.answer; buf = e.buf }

-- of steps by any actors, what one of them has asked for
abbrev pub asks_of : ℕ → List Event → List Ask
asks_of actor [] = []
asks_of actor (e ∷ es) = if e.actor == actor then ask_of e ∷ asks_of actor es else asks_of actor es

abbrev pub asks_by : ℕ → List FileEvent → List Ask
asks_by actor fs = asks_of actor (events_of fs)

-- Where the last that an actor has asked for gives a file, the steps and what was done with the session go together, whatever others did
-- between: so the laws of session_turns say that a commit of its root is right.
abbrev pub GivesAreIngests : Type 0
GivesAreIngests = (file : LoadState) (actor : ℕ) (fs : List FileEvent) (before all : List Ask) (h : History)
    → asks_by actor fs ≡ before ++ all → Gives file all h → Ingests actor fs h
