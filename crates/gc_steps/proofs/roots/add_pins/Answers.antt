use Rattle.gc_steps.proofs.Prelude.{[], keys_of_pin}
use Rattle.gc_steps.proofs.RootKeys.{added}
use Rattle.gc_steps.proofs.roots.add_pins.Goals as goal

pub loop-key-preserved : goal.loop-key-preserved
loop-key-preserved c =
    added (keys_of_pin c.args.pins.now) c.args.keys.now c.loop-key.key-index [] c.args.roots.now.items c.loop-key.roots.items c.add_pin.new.roots.items c.loop-key-test.true
    c.loop-key.invariant c.in_ok-add_pin.ensures
