use Rattle.store_core.proofs.Prelude.{◌≡◌, ◌++◌, map, take}
use Rattle.store_model.specs.Indexing.{entry_key}
use Rattle.store_core.proofs.marking.add_keys.Given as goal

abbrev pub invariant-loop-entry : goal.invariant-loop-entry
invariant-loop-entry l = l.keys.items ≡ l.fn.keys.items ++ map (entry_key l.filled.kind) (take l.entry-index l.entry-items)
