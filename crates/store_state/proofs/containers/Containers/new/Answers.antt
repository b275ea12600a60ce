use Rattle.std.proofs.Common.{refl}
use Rattle.store_state.proofs.Entered.{represents_none}
use Rattle.store_state.proofs.containers.Containers.new.Goals as goal

pub returns : goal.returns
returns c = represents_none _ c.new.ensures c.new-2.ensures.items c.new-3.ensures.items refl
