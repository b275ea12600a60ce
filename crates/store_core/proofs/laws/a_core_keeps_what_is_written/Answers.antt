use Rattle.store_core.proofs.Frames.{adds_alone, written_stays}
use Rattle.store_core.proofs.Reserves.{reserve_stays}
use Rattle.store_core.proofs.laws.a_core_keeps_what_is_written.Goals as goal

pub returns-clause-added : goal.returns-clause-added
returns-clause-added g c = adds_alone _ g.C.HasState.state

pub returns-clause-moments : goal.returns-clause-moments
returns-clause-moments g c = written_stays _ g.C.HasState.state

pub returns-clause-reserve : goal.returns-clause-reserve
returns-clause-reserve g c = reserve_stays _ g.C.HasState.state
