use Rattle.gc_steps.proofs.Prelude.{refl}
use Rattle.gc_enumerate.specs.Live.{SharesMark}
use Rattle.gc_steps.proofs.FreshMarks.{none_unmarked, unmarked_turn, unmarked_whole}
use Rattle.gc_steps.proofs.fresh.unmark_keys.Goals as goal

pub loop-key-init : goal.loop-key-init
loop-key-init c = none_unmarked _ c.args.live.now refl

pub loop-key-preserved : goal.loop-key-preserved
unfolding SharesMark
loop-key-preserved c =
    unmarked_turn c.args.keys.now c.loop-key.key-index c.args.live.now c.loop-key.live c.unmark.new.self c.loop-key-test.true c.loop-key.invariant c.unmark.ensures

pub returns : goal.returns
returns c = unmarked_whole c.args.keys.now c.loop-key.key-index c.args.live.now c.loop-key.live c.loop-key-test.false c.loop-key.invariant
