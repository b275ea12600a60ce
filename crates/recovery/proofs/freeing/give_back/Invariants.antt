use Rattle.recovery.proofs.Prelude.{◌-◌, IsGiving}
use Rattle.recovery.proofs.freeing.give_back.Given as goal

-- some containers were given back
abbrev pub invariant-loop-free : goal.invariant-loop-free
invariant-loop-free g l =
    let view = g.D.Disk.view in
    IsGiving l.initial.ids l.used l.initial.free l.ids l.free (view l.initial.disk) (view l.disk)

abbrev pub decreases-loop-free : goal.decreases-loop-free
decreases-loop-free g l = 2 - l.free
