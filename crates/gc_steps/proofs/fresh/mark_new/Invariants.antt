use Rattle.gc_steps.proofs.Prelude.{take}
use Rattle.gc_steps.proofs.FreshMarks.{AreMarked}
use Rattle.gc_steps.proofs.fresh.mark_new.Given as goal

abbrev pub invariant-loop-key : goal.invariant-loop-key
invariant-loop-key l = AreMarked (take l.key-index l.keys) l.fresh.items l.fn.live l.live
