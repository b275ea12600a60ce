use Rattle.ingest_session.proofs.DueOnes as ones
use Rattle.ingest_session.proofs.laws.due_is_one.Goals as goal

pub returns-clause-due : goal.returns-clause-due
returns-clause-due c = ones.due_is_one

pub returns-clause-offer : goal.returns-clause-offer
returns-clause-offer c = ones.offer_is_one
