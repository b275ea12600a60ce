-- Steps that neither begin a collection nor are one of it.
use Rattle.actor_parts.specs.StepValue as asked
use Rattle.core_machine.proofs.Prelude.{StepValue, IsNoGcStep}

abbrev pub IsPlainStep : StepValue → Type 0
IsPlainStep (asked.GcStart percent) = ⊥
IsPlainStep asked.GcStep = ⊥
IsPlainStep step = Unit {0}

pub plain_no_gc : (step : StepValue) → IsPlainStep step → IsNoGcStep step
plain_no_gc (asked.GcStart percent) plain = absurd plain
plain_no_gc asked.GcStep plain = absurd plain
plain_no_gc other plain = tt
