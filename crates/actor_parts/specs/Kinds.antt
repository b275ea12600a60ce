-- The names of what an actor is at.
use Rattle.refusals.specs.declared.refusal.PartKind.{PartKind}
use Rattle.refusals.specs.declared.refusal.PartKind.TheVariants as kinds
use Rattle.actor_parts.specs.declared.part.Part.{Part}
use Rattle.actor_parts.specs.declared.part.Part.TheVariants.{Idle, Writing, Reading}

abbrev pub kind_of : Part → PartKind
kind_of Idle = kinds.Idle
kind_of (Writing pins) = kinds.Writing
kind_of (Reading reader) = kinds.Reading
