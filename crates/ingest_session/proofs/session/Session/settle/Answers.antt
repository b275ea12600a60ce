use Rattle.ingest_session.proofs.Prelude.{refl, rules}
use Rattle.ingest_session.specs.Settling.{Stays}
use Rattle.ingest_session.proofs.Settled.{settles_on}
use Rattle.ingest_session.proofs.session.Session.settle.Goals as goal

pub loop-init : goal.loop-init
loop-init c = record { settles = Stays c.args.self.now; seen_is = refl }

pub loop-preserved : goal.loop-preserved
loop-preserved c =
    let before = c.loop.invariant in
    record { settles = settles_on before.settles c.pass_one.ensures.settles; seen_is = search rules }

pub returns-in_err-pass_one-clause-settles : goal.returns-in_err-pass_one-clause-settles
returns-in_err-pass_one-clause-settles c = settles_on c.loop.invariant.settles c.pass_one.ensures.settles

pub returns-clause-settles : goal.returns-clause-settles
returns-clause-settles c = settles_on c.loop.invariant.settles c.pass_one.ensures.settles
