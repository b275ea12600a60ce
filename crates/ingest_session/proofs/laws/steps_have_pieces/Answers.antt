use Rattle.ingest_session.proofs.Facts.{opens_are_pieces, placed_come_first, turns_are_pieces}
use Rattle.ingest_session.proofs.laws.steps_have_pieces.Goals as goal

pub returns-clause-first : goal.returns-clause-first
returns-clause-first c = placed_come_first

pub returns-clause-turns : goal.returns-clause-turns
returns-clause-turns c = turns_are_pieces

pub returns-clause-opens : goal.returns-clause-opens
returns-clause-opens c = opens_are_pieces
