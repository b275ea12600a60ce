use Rattle.std.proofs.Common.{inl, inr}
use Rattle.container_log.proofs.Left.{left, done}
use Rattle.container_log.proofs.writing.sealed_one_by_one.Goals as goal

pub returns-clause-some : goal.returns-clause-some
returns-clause-some c = λ size id slots filled given image new are many given_long long closed seals. elim seals [
  | inl bodies ↦ inl (left size id slots filled image new are many long bodies.0 (λ i slot contents here there. inl (bodies.1 i slot here (closed i slot here))))
  | inr gates ↦ inr (left size id slots filled given new are many given_long gates.0 gates.1)
]

pub returns-clause-all : goal.returns-clause-all
returns-clause-all c = λ size id slots filled given new are many long sealed. done size id slots filled given new are many long sealed.rest sealed.each
