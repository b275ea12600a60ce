-- The number of slots that are kept in memory.
use Rattle.std.proofs.Common.{◌≤◌, ℕ, length, ap, arith}
use Rattle.disk_format.specs.declared.numbers.TheConstants.{MOST_SLOTS}
use Rattle.store_model.specs.Image.{Store, IsValidFor}
use Rattle.store_model.proofs.Free.{as_many}
use Rattle.store_state.specs.declared.open_store.OpenStore.{OpenStore}
use Rattle.store_state.specs.State.{Represents}

-- a disk has no more slots than that
pub few_ids : (size : ℕ) (store : Store) (o : OpenStore) → IsValidFor size store → Represents store o → length o.containers.ids.items ≤ MOST_SLOTS
few_ids size store o valid represents =
    omega (arith, ap length represents.containers.ids, as_many store.held, valid.many, valid.count.1)
