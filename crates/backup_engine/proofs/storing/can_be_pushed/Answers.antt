use Rattle.backup_engine.proofs.Prelude.{arith, IsBytes}
use Rattle.backup_engine.proofs.SayingEnds.{digits_for}
use Rattle.backup_engine.proofs.storing.can_be_pushed.Goals as goal

pub returns : goal.returns
returns c =
    let each : IsBytes c.args.bytes.now = λ i. let f = c.type_inv.bytes i in omega arith in
    digits_for c.args.bytes.now each c.requires.some c.requires.few
