-- What the files of a core need that is at a store, and its tables.
use Rattle.core_machine.proofs.Prelude.{◌≡◌, ℕ, List, Option, Some, subst, PlaceMap, child_keys, HoldsNode, Stored, Store, IsReachable, node_key, Represents, IsAt, CoreState}
use Rattle.std.specs.List.{Contains}
use Rattle.gc_steps.proofs.FileKeys.{reachable_closed}
use Rattle.merkle_file.specs.Node.{Contents}
use Rattle.store_model.specs.Slots.{Copy}
use Rattle.store_model.specs.Standing.{IsStoreOf}

module _ (S : List ℕ → Type 0) (store : Store) (stored : Stored) (c : CoreState) (at : IsAt S store stored c) where
  -- the tables are its, with the map of the index
  pub told_here : Represents store (Some at.index) c.tables
  told_here = subst (λ (known : Option PlaceMap). Represents store known c.tables) at.index_known at.represents

  module _ (image : List ℕ) (content : c.disk.content ≡ Some image) where
    pub needs_here : IsStoreOf store stored.files image
    needs_here = (at.stands.each image (c.disk.as_read image content)).holds

    -- what its files need goes from nodes to their children
    pub needs_closed : (n : Contents) (copy : Copy) → HoldsNode store.held image n copy → IsReachable stored.files (node_key n) → (key : List ℕ) → Contains (child_keys n) key
        → IsReachable stored.files key
    needs_closed n copy node needed key child = reachable_closed store stored.files image needs_here n copy node needed key child
