use Rattle.std.proofs.Common.{refl}
use Rattle.base_model.specs.Bytes.{zeros}
use Rattle.store_state.proofs.slot_table.closed.Goals as goal

pub returns : goal.returns
unfolding zeros
returns c = refl
