use Rattle.store_machine.proofs.Deleting.{deletes_by_map}
use Rattle.store_machine.proofs.Moments.{deletes_through}
use Rattle.store_machine.proofs.laws.a_delete_takes_its_name.Goals as goal

pub returns-clause-ended : goal.returns-clause-ended
returns-clause-ended c = deletes_by_map

pub returns-clause-through : goal.returns-clause-through
returns-clause-through c = deletes_through
