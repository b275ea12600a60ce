use Rattle.ingest_session.proofs.Told.{told_has_history, told_has_less_to_do}
use Rattle.ingest_session.proofs.session.Session.told.Goals as goal

pub returns-clause-history : goal.returns-clause-history
returns-clause-history c = λ h has.
    told_has_history c.args.self.now c.take_answer.new.self c.args.answer.now h c.take_answer.ensures.told c.sound.ensures c.sound-2.ensures
    c.requires.settled c.requires.asked c.requires.answer has

pub returns-clause-work : goal.returns-clause-work
returns-clause-work c =
    told_has_less_to_do c.args.self.now c.take_answer.new.self c.args.answer.now c.take_answer.ensures.told c.sound.ensures
    c.requires.settled c.requires.answer
