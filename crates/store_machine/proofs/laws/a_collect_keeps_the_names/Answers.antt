use Rattle.store_machine.proofs.CollectingAlone.{collects_by_map}
use Rattle.store_machine.proofs.Moments.{collects_through}
use Rattle.store_machine.proofs.laws.a_collect_keeps_the_names.Goals as goal

pub returns-clause-ended : goal.returns-clause-ended
returns-clause-ended c = collects_by_map

pub returns-clause-through : goal.returns-clause-through
returns-clause-through c = collects_through
