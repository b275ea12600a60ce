use Rattle.ingest_session.proofs.Prelude.{◌∙◌, SessionState, ap, sym}
use Rattle.ingest_session.proofs.Puts.{waiting_is_placed}
use Rattle.ingest_session.proofs.Settled.{settles_on}
use Rattle.ingest_session.proofs.Working.{less_after}
use Rattle.ingest_session.proofs.session.Session.pass_one.Goals as goal

pub make_way-requires : goal.make_way-requires
make_way-requires c = record {
  placed = waiting_is_placed c.args.self.now c.sound.ensures (sym (ap (λ (s : SessionState). s.waits) c.self.view_is) ∙ c.if-self.true);
}

pub returns-clause-less : goal.returns-clause-less
returns-clause-less c = less_after _ c.args.self.now c.pass_item.new.self c.make_way-2.new.self c.pass_item.ensures.settles c.make_way-2.ensures.less

pub returns-clause-settles : goal.returns-clause-settles
returns-clause-settles c = settles_on c.pass_item.ensures.settles c.make_way-2.ensures.settles
