use Rattle.ingest_session.proofs.Sealing as sealing
use Rattle.ingest_session.proofs.Waiting.{waits_for_another}
use Rattle.ingest_session.proofs.laws.seals_were_absent.Goals as goal

pub returns-clause-absent : goal.returns-clause-absent
returns-clause-absent c = sealing.seals_were_absent

pub returns-clause-waits : goal.returns-clause-waits
returns-clause-waits c = waits_for_another
