use Rattle.store_core.proofs.running.Core.stat.Goals as goal

pub returns : goal.returns
returns g c = record { store_has = λ store represents valid free. c.stat.ensures _ _ store represents valid }
