use Rattle.std.proofs.Common.{List}
use Rattle.actor_parts.specs.Asking.{Ask, AsksAll}
use Rattle.ingest_workers.specs.Giving.{Takes}
use Rattle.ingest_workers.proofs.serving.take_all.Given as goal

abbrev pub invariant-loop : goal.invariant-loop
invariant-loop g l =
    ((all : List Ask) × AsksAll g.S.StoreCalls.asks l.initial.caller all l.caller × Takes all)
    × ((goal.iterator-loop g).can_next l.iterator' × (goal.iterator-loop g).is_finite l.iterator')
