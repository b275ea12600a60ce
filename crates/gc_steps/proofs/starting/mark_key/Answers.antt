use Rattle.gc_enumerate.specs.Live.{SharesMark}
use Rattle.gc_steps.proofs.starting.mark_key.Goals as goal

pub returns : goal.returns
unfolding SharesMark
returns c = record { ok = c.mark.ensures.ok; err = c.mark.ensures.err }
