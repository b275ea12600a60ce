use Rattle.ingest_session.proofs.Prelude.{ap, arith, SessionState, to_do}
use Rattle.ingest_session.proofs.Settled.{asking_keeps, asking_places, settling_keeps, settling_places}
use Rattle.ingest_session.proofs.Working.{settling_is_no_more}
use Rattle.ingest_session.proofs.session.Session.due.Goals as goal

pub returns-in_err-settle-clause-places : goal.returns-in_err-settle-clause-places
returns-in_err-settle-clause-places c = settling_places c.args.self.now c.settle.new.self c.settle.ensures.settles

pub returns-in_err-settle-clause-keeps : goal.returns-in_err-settle-clause-keeps
returns-in_err-settle-clause-keeps c = settling_keeps c.args.self.now c.settle.new.self c.settle.ensures.settles

pub returns-in_err-settle-clause-work : goal.returns-in_err-settle-clause-work
returns-in_err-settle-clause-work c = settling_is_no_more c.args.self.now c.settle.new.self c.settle.ensures.settles

pub returns-clause-places : goal.returns-clause-places
returns-clause-places c =
    asking_places c.args.self.now c.settle.new.self _ c.settle.ensures.settles c.sound.ensures
    (ap (λ (s : SessionState). record s { unseen = 0 }) c.self.view_is)

pub returns-clause-keeps : goal.returns-clause-keeps
returns-clause-keeps c =
    asking_keeps c.args.self.now c.settle.new.self _ c.settle.ensures.settles
    (ap (λ (s : SessionState). record s { unseen = 0 }) c.self.view_is)

pub returns-clause-work : goal.returns-clause-work
returns-clause-work c =
    let before = settling_is_no_more c.args.self.now c.settle.new.self c.settle.ensures.settles in
    let same = ap to_do c.self.view_is in omega (arith, before, same)
