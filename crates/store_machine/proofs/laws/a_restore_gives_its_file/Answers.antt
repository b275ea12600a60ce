use Rattle.store_machine.proofs.Restoring.{restores_by_map}
use Rattle.store_machine.proofs.Moments.{restores_through}
use Rattle.store_machine.proofs.laws.a_restore_gives_its_file.Goals as goal

pub returns-clause-ended : goal.returns-clause-ended
returns-clause-ended c = restores_by_map

pub returns-clause-through : goal.returns-clause-through
returns-clause-through c = restores_through
