use Rattle.std.proofs.Common.{List}
use Rattle.std.specs.List.{AllByRecursion}
use Rattle.actor_parts.specs.Asking.{Ask, AsksAll}
use Rattle.shared_work.specs.Working.{GoesOn}
use Rattle.shared_work.proofs.collecting.sweep.Given as goal

abbrev pub invariant-loop : goal.invariant-loop
invariant-loop g l =
    ((all : List Ask) × AsksAll g.S.StoreCalls.asks l.initial.caller all l.caller × AllByRecursion GoesOn all)
    × ((goal.iterator-loop g).can_next l.iterator' × (goal.iterator-loop g).is_finite l.iterator')
