-- What the steps of a collection do, one after the other (docs/MODEL.md, 'Collection').
use Rattle.std.specs.Prelude.{ℕ, zero, suc, ◌+◌, ◌-◌, ◌==◌, ◌&&◌, if◌then◌else◌, Bool, false, length, get_or, slice_get, Option, None, Some}
use Rattle.container_meta.specs.Format.{kind_byte}
use Rattle.store_state.specs.declared.slot_table.SlotCount.{SlotCount}
use Rattle.store_state.specs.declared.slot_table.SlotTable.{SlotTable}
use Rattle.gc_sweep.specs.UnderWay.{is_old}
use Rattle.gc_steps.specs.declared.collection.Stage.{Stage}
use Rattle.gc_steps.specs.declared.collection.Stage.TheVariants.{Mark, Filter, Select}

-- ---- the containers that a collection goes over

abbrev pub is_tree : Option SlotCount → Bool
is_tree None = false
is_tree (Some c) = kind_byte c.kind == 1

-- the slot has such a container
abbrev pub is_old_slot : ℕ → SlotTable → ℕ → Bool
is_old_slot snapshot t slot = is_old snapshot (get_or t.ids.items slot 0)

-- and it is one of a tree
abbrev pub is_tree_slot : ℕ → SlotTable → ℕ → Bool
is_tree_slot snapshot t slot = is_old_slot snapshot t slot && is_tree (slice_get t.counts.items slot)

-- the first of so many numbers, from one on, that passes a test
unfoldable pub first_from : (ℕ → Bool) → ℕ → ℕ → Option ℕ
first_from test from zero = None
first_from test from (suc count) = if test from then Some from else first_from test (from + 1) count

-- the first slot from one on that passes a test
abbrev pub first_slot : SlotTable → (ℕ → Bool) → ℕ → Option ℕ
first_slot t test from = first_from test from (length t.ids.items - from)

-- ---- what comes next

-- the containers from a slot on are still to be filtered
abbrev pub filter_at : Option ℕ → Stage
filter_at None = Select
filter_at (Some slot) = Filter slot

abbrev pub filter_from : ℕ → SlotTable → ℕ → Stage
filter_from snapshot t from = filter_at (first_slot t (is_old_slot snapshot t) from)

-- a level is still to be marked, in this tree container
abbrev pub mark_at : ℕ → SlotTable → ℕ → Option ℕ → Stage
mark_at snapshot t level None = filter_from snapshot t 0
mark_at snapshot t level (Some slot) = Mark level slot

-- in those from the first on; where none is left, and the levels below it were marked, filtering comes
abbrev pub mark_level : ℕ → SlotTable → ℕ → Stage
mark_level snapshot t zero = filter_from snapshot t 0
mark_level snapshot t (suc level) = mark_at snapshot t (suc level) (first_slot t (is_tree_slot snapshot t) 0)

-- in those from a slot on, and then the levels below it
abbrev pub mark_on : ℕ → SlotTable → ℕ → Option ℕ → Stage
mark_on snapshot t level None = mark_level snapshot t (level - 1)
mark_on snapshot t level (Some slot) = Mark level slot

abbrev pub mark_from : ℕ → SlotTable → ℕ → ℕ → Stage
mark_from snapshot t level from = mark_on snapshot t level (first_slot t (is_tree_slot snapshot t) from)
