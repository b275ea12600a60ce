-- How many sources a collection has at most, from its beginning on (docs/MODEL.md, 'Collection').
use Rattle.std.specs.Prelude.{◌≤◌, ℕ, length}
use Rattle.store_state.specs.declared.slot_table.SlotTable.{SlotTable}
use Rattle.gc_steps.specs.declared.collection.Collection.{Collection}
use Rattle.gc_steps.specs.declared.collection.Stage.{Stage}
use Rattle.gc_steps.specs.declared.collection.Stage.TheVariants.{Mark, Filter, Select, Sweep}
use Rattle.gc_steps.specs.StepsToCome.{old_from}

-- the sources are still to be chosen
abbrev pub IsToChoose : Stage → Type 0
IsToChoose (Mark level slot) = Unit {0}
IsToChoose (Filter slot) = Unit {0}
IsToChoose Select = Unit {0}
IsToChoose Sweep = ⊥

-- As long as the sources are to be chosen, so many containers at most are there that were there when it began; no more sources are chosen.
pub record HasFewSources (most : ℕ) (t : SlotTable) (c : Collection) : Type 0 where
  pub old : IsToChoose c.stage → old_from c.snapshot t 0 ≤ most
  pub chosen : length c.sweep.sources.items ≤ most
