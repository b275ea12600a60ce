use Rattle.gc_steps.proofs.Prelude.{◌≡◌, ◌++◌, take, flat_map, keys_of_pin}
use Rattle.gc_steps.proofs.roots.add_pins.Given as goal

abbrev pub invariant-loop-key : goal.invariant-loop-key
invariant-loop-key l = l.roots.items ≡ l.fn.roots.items ++ flat_map (keys_of_pin l.pins) (take l.key-index l.keys)
