-- What a caller asks for, as a step of a core.
use Rattle.std.specs.Prelude.{ℕ}
use Rattle.actor_parts.specs.Asking.{Ask}
use Rattle.store_core.specs.State.{Event}

-- by this actor
abbrev pub event_of : ℕ → Ask → Event
event_of actor a = record { actor = actor; step = a.step; answer = a.answer; buf = a.buf }
