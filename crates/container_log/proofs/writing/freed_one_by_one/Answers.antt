use Rattle.container_log.proofs.FreedInTurn.{being_freed, all_freed}
use Rattle.container_log.proofs.writing.freed_one_by_one.Goals as goal

pub returns-clause-some : goal.returns-clause-some
returns-clause-some c = λ size slots old new are long freed. being_freed size slots old new are long freed.0

pub returns-clause-all : goal.returns-clause-all
returns-clause-all c = λ size slots given new are long freed. all_freed size slots given new are long freed
