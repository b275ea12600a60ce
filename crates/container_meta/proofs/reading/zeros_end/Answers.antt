use Rattle.container_meta.proofs.Prelude.{arith}
use Rattle.container_meta.proofs.Lists.{zeros_in_front-le}
use Rattle.container_meta.proofs.reading.zeros_end.Goals as goal

pub overflow_add-result : goal.overflow_add-result
overflow_add-result c = omega (arith, c.zeros_in_front.ensures, zeros_in_front-le c.part.result.now, c.part.ensures.length)

pub returns-clause-within : goal.returns-clause-within
returns-clause-within c = omega (arith, c.zeros_in_front.ensures, zeros_in_front-le c.part.result.now, c.part.ensures.length)
