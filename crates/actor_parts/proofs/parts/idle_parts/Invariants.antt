use Rattle.std.proofs.Common.{◌≡◌, replicate}
use Rattle.actor_parts.specs.declared.part.Part.TheVariants.{Idle}
use Rattle.actor_parts.proofs.parts.idle_parts.Given as goal

abbrev pub invariant-loop : goal.invariant-loop
invariant-loop l = l.parts.items ≡ replicate l.counter Idle
