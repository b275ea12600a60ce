use Rattle.store_core.proofs.FindingKeys.{finds_keys}
use Rattle.store_core.proofs.FindingMeanwhile.{finds_keys_meanwhile}
use Rattle.store_core.proofs.BeforeSweep.{only_reads_before_sweep}
use Rattle.store_core.proofs.laws.a_core_finds_all_keys.Goals as goal

pub returns-clause-alone : goal.returns-clause-alone
returns-clause-alone g c = finds_keys _ g.C.HasState.state

pub returns-clause-meanwhile : goal.returns-clause-meanwhile
returns-clause-meanwhile g c = finds_keys_meanwhile _ g.C.HasState.state

pub returns-clause-reads : goal.returns-clause-reads
returns-clause-reads g c = only_reads_before_sweep _ g.C.HasState.state
