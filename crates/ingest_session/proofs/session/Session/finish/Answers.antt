use Rattle.ingest_session.proofs.Prelude.{Ended}
use Rattle.ingest_session.proofs.session.Session.finish.Goals as goal

pub returns-clause-history : goal.returns-clause-history
returns-clause-history c = λ h has. Ended c.args.self.now c.end.new.self h has c.sound.ensures c.in_ok-end.ensures.ok
