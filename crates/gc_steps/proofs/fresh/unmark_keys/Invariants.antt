use Rattle.gc_steps.proofs.Prelude.{take, Unmarks}
use Rattle.gc_steps.proofs.fresh.unmark_keys.Given as goal

abbrev pub invariant-loop-key : goal.invariant-loop-key
invariant-loop-key l = Unmarks (take l.key-index l.keys) l.fn.live l.live
