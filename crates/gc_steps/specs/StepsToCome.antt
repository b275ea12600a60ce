-- How many steps of a collection come at most (docs/MODEL.md, 'Collection').
use Rattle.std.specs.Prelude.{◌≡◌, ℕ, zero, suc, ◌+◌, ◌-◌, ◌*◌, ◌<◌, Bool, if◌then◌else◌, length}
use Rattle.store_state.specs.declared.slot_table.SlotTable.{SlotTable}
use Rattle.gc_steps.specs.declared.collection.Collection.{Collection}
use Rattle.gc_steps.specs.declared.collection.Stage.{Stage}
use Rattle.gc_steps.specs.declared.collection.Stage.TheVariants.{Mark, Filter, Select, Sweep}
use Rattle.gc_steps.specs.declared.phase.StepDone.{StepDone}
use Rattle.gc_steps.specs.declared.phase.StepDone.TheVariants.{Did, Done}
use Rattle.gc_sweep.specs.StepsLeft.{steps_left}
use Rattle.gc_steps.specs.Stages.{is_old_slot, is_tree_slot}

-- how many of so many numbers, from one on, pass a test
unfoldable pub count_from : (ℕ → Bool) → ℕ → ℕ → ℕ
count_from test from zero = 0
count_from test from (suc count) = if test from then 1 + count_from test (from + 1) count else count_from test (from + 1) count

-- how many slots from one on have a container that was there when the collection began; how many of these are of trees
abbrev pub old_from : ℕ → SlotTable → ℕ → ℕ
old_from snapshot t from = count_from (is_old_slot snapshot t) from (length t.ids.items - from)

abbrev pub trees_from : ℕ → SlotTable → ℕ → ℕ
trees_from snapshot t from = count_from (is_tree_slot snapshot t) from (length t.ids.items - from)

-- the records from a slot on, the choice, and the sweep of so many sources
abbrev pub filter_steps : ℕ → ℕ → SlotTable → ℕ → ℕ
filter_steps chosen snapshot t from = old_from snapshot t from + 1 + 4 * chosen

-- So many steps come at most from a stage on, where so many sources are chosen; once they are chosen their number counts.
abbrev pub steps_at : ℕ → SlotTable → Collection → Stage → ℕ
steps_at chosen t c (Mark level slot) =
    trees_from c.snapshot t slot + (level - 1) * trees_from c.snapshot t 0 + filter_steps chosen c.snapshot t 0
steps_at chosen t c (Filter slot) = filter_steps chosen c.snapshot t slot
steps_at chosen t c Select = 1 + 4 * chosen
steps_at chosen t c Sweep = steps_left c.sweep

abbrev pub steps_to_come : ℕ → SlotTable → Collection → ℕ
steps_to_come chosen t c = steps_at chosen t c c.stage

-- a step that did something leaves fewer; at the end there are none
abbrev pub Nears : StepDone → ℕ → ℕ → Type 0
Nears (Did phase) before after = after < before
Nears (Done freed copied) before after = (before ≡ 0) × (after ≡ 0)
