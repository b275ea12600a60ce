use Rattle.ingest_session.proofs.Prelude.{Advanced}
use Rattle.ingest_session.specs.Settling.{Stays}
use Rattle.ingest_session.proofs.Settled.{settles_by}
use Rattle.ingest_session.proofs.session.Session.reach.Goals as goal

pub returns-then-is_some-clause-settles : goal.returns-then-is_some-clause-settles
returns-then-is_some-clause-settles c = Stays c.args.self.now

pub returns-in_err-advance-clause-settles : goal.returns-in_err-advance-clause-settles
returns-in_err-advance-clause-settles c = rw c.in_err-advance.ensures.err (Stays c.args.self.now)

pub returns-clause-settles : goal.returns-clause-settles
returns-clause-settles c = settles_by c.sound.ensures (Advanced c.args.self.now c.advance.new.self c.in_ok-advance.ensures.ok)
