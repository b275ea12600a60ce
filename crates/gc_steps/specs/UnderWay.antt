-- How far a collection has come, by the table of slots (docs/MODEL.md, 'Collection').
use Rattle.std.specs.Prelude.{◌≡◌, ℕ, ◌+◌, ◌<◌, ◌≤◌, Bool, true, List, [], length, take, filter, nat_eq}
use Rattle.std.specs.List.{IsDistinct}
use Rattle.disk_format.specs.declared.numbers.TheConstants.{MOST_LEVEL, RESERVE}
use Rattle.gc_select.specs.Selecting.{ids_of, selected, sources_of}
use Rattle.store_state.specs.declared.slot_table.SlotTable.{SlotTable}
use Rattle.gc_steps.specs.declared.collection.Collection.{Collection}
use Rattle.gc_steps.specs.declared.collection.Stage.{Stage}
use Rattle.gc_steps.specs.declared.collection.Stage.TheVariants.{Mark, Filter, Select, Sweep}
use Rattle.gc_sweep.specs.UnderWay.{IsSweeping, free_in, is_old}
use Rattle.gc_steps.specs.Stages.{is_old_slot, is_tree_slot}

-- those of these ids that are of containers that were there when the collection began
abbrev pub old_ids : ℕ → List ℕ → List ℕ
old_ids snapshot ids = filter (is_old snapshot) ids

-- the table has this slot, and it passes a test
abbrev pub IsSlot : SlotTable → (ℕ → Bool) → ℕ → Type 0
IsSlot t test slot = (slot < length t.ids.items) × (test slot ≡ true)

-- Just the containers in the slots before this one that were there were recorded: each once, in the order of slots.
abbrev pub IsRecordedTo : SlotTable → Collection → ℕ → Type 0
IsRecordedTo t c slot = ids_of c.liveness ≡ old_ids c.snapshot (take slot t.ids.items)

-- the slots of the reserve are closed
abbrev pub HasRoom : SlotTable → Type 0
HasRoom t = RESERVE ≤ free_in t

-- What holds of a collection that is at a stage; as long as it doesn't sweep the slots of the reserve are closed:
-- - marking goes on at a tree container that was there, on a level from 1 on; nothing was recorded;
-- - filtering at a container that was there, where just those before it were recorded, and for the choice all were;
-- - and its sweep is under way.
abbrev pub HasStage : SlotTable → Collection → Stage → Type 0
HasStage t c (Mark level slot) =
    (1 ≤ level) × (level ≤ MOST_LEVEL) × IsSlot t (is_tree_slot c.snapshot t) slot × (c.liveness ≡ []) × HasRoom t
HasStage t c (Filter slot) = IsSlot t (is_old_slot c.snapshot t) slot × IsRecordedTo t c slot × HasRoom t
HasStage t c Select = IsRecordedTo t c (length t.ids.items) × HasRoom t
HasStage t c Sweep = IsSweeping t c.snapshot c.sweep

-- once it sweeps, its sources are those that are selected by what was recorded
abbrev pub HasChosen : Stage → Collection → Type 0
HasChosen Sweep c = c.sweep.sources.items ≡ sources_of (selected c.snapshot c.percent c.liveness)
HasChosen stage c = Unit {0}

-- A collection is under way: its snapshot is no greater than the next id; no two of the containers that were there have one id; what its
-- stage says holds; and so it is of its sources, once they are chosen.
pub record IsUnderWay (t : SlotTable) (c : Collection) : Type 0 where
  pub began : c.snapshot ≤ t.last_id + 1
  pub ids_differ : IsDistinct nat_eq (old_ids c.snapshot t.ids.items)
  pub stage_is : HasStage t c c.stage
  pub sources_are : HasChosen c.stage c
