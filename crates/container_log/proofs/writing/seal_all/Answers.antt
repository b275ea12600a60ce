use Rattle.store_model.specs.Collisions.{IsIn}
use Rattle.container_log.proofs.Stores.{moves_together}
use Rattle.container_log.proofs.writing.seal_all.Goals as goal

pub returns-in-Ok-clause-moves : goal.returns-in-Ok-clause-moves
returns-in-Ok-clause-moves g c = λ among store files distinct may can.
    moves_together (IsIn among) c.args.slots.now c.args.id c.args.filled.now store files c.requires.each distinct may can _ _ _ c.requires.places c.in-Ok.ensures.writes

pub returns-in-Err-clause-moves : goal.returns-in-Err-clause-moves
returns-in-Err-clause-moves g c = λ among store files distinct may can.
    moves_together (IsIn among) c.args.slots.now c.args.id c.args.filled.now store files c.requires.each distinct may can _ _ _ c.requires.places c.in-Err.ensures.writes
