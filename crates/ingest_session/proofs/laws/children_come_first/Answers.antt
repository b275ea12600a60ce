use Rattle.ingest_session.proofs.Facts as facts
use Rattle.ingest_session.proofs.laws.children_come_first.Goals as goal

pub returns-clause-claims : goal.returns-clause-claims
returns-clause-claims c = facts.children_come_first

pub returns-clause-seals : goal.returns-clause-seals
returns-clause-seals c = facts.open_nodes_have_children
