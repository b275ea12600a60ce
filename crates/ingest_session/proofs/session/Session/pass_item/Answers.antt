use Rattle.ingest_session.proofs.Prelude.{Turned}
use Rattle.ingest_session.proofs.Settled.{settles_by, settles_on}
use Rattle.ingest_session.proofs.session.Session.pass_item.Goals as goal

pub returns-then-is_some-clause-settles : goal.returns-then-is_some-clause-settles
returns-then-is_some-clause-settles c =
    settles_on (settles_by c.sound.ensures (Turned c.args.self.now c.take_turn.new.self c.requires.waits c.take_turn.ensures))
    c.pass_node.ensures.settles

pub returns-then-len-eq0-clause-settles : goal.returns-then-len-eq0-clause-settles
returns-then-len-eq0-clause-settles c =
    settles_by c.sound.ensures (Turned c.args.self.now c.take_turn.new.self c.requires.waits c.take_turn.ensures)

pub returns-clause-settles : goal.returns-clause-settles
returns-clause-settles c =
    settles_on (settles_by c.sound.ensures (Turned c.args.self.now c.take_turn.new.self c.requires.waits c.take_turn.ensures))
    c.pass_front.ensures.settles
