use Rattle.gc_steps.proofs.Prelude.{[]}
use Rattle.gc_steps.proofs.RootKeys.{roots_turn}
use Rattle.gc_steps.proofs.starting.mark_roots.Goals as goal

pub loop-root-preserved : goal.loop-root-preserved
loop-root-preserved c =
    roots_turn c.args.roots.now c.loop-root.root-index
    (record { key = []; level = 0 }) c.args.live.now c.loop-root.live c.mark_key.new.live c.loop-root-test.true c.loop-root.invariant
    c.in_ok-mark_key.ensures.ok
