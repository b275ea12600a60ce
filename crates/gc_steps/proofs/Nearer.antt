-- Each step of a collection leaves fewer to come.
use Rattle.gc_steps.proofs.Prelude.{◌≡◌, ℕ, zero, suc, ◌+◌, ◌-◌, ◌*◌, ◌<◌, ◌≤◌, Bool, true, false, [], ◌∷◌, ◌++◌, length, Option, Some, None, refl, sym, ◌∙◌, ap, subst, arith, if◌then◌else◌, PlaceMap, DiskView, MOST_LEVEL, SlotTable, Collection, Stage, Mark, Filter, Records, recorded, Scans, first_slot, filter_at, filter_from, is_old_slot, is_tree_slot, mark_at, mark_from, mark_level, mark_on, old_from, steps_at, steps_to_come, steps_left, IsUnderWay}
use Rattle.gc_steps.specs.declared.collection.Stage.TheVariants.{Sweep}
use Rattle.gc_steps.specs.Stages.{first_from}
use Rattle.gc_steps.specs.StepsToCome.{count_from, filter_steps, trees_from}
use Rattle.gc_steps.proofs.UnderWay.{at_stage}

-- ---- counts

counted : (test : ℕ → Bool) (from count : ℕ) → test from ≡ true → count_from test from (suc count) ≡ 1 + count_from test (from + 1) count
unfolding count_from
counted test from count passes = ap (λ (b : Bool). if b then 1 + count_from test (from + 1) count else count_from test (from + 1) count) passes

-- one that passes, and those after it
one_fewer : (test : ℕ → Bool) (end slot : ℕ) → slot < end → test slot ≡ true → count_from test slot (end - slot) ≡ 1 + count_from test (slot + 1) (end - (slot + 1))
one_fewer test end slot within passes =
    let left : end - slot ≡ suc (end - (slot + 1)) = omega (arith, within) in
    ap (count_from test slot) left ∙ counted test slot (end - (slot + 1)) passes

-- from the first that passes on there are as many
abbrev AsMany : (ℕ → Bool) → ℕ → ℕ → Option ℕ → Type 0
AsMany test end count None = Unit {0}
AsMany test end count (Some slot) = count_from test slot (end - slot) ≡ count

first_as_many : (test : ℕ → Bool) (from count end : ℕ) → from + count ≡ end → AsMany test end (count_from test from count) (first_from test from count)
unfolding first_from count_from
first_as_many test from zero end ends = tt
first_as_many test from (suc count) end ends =
    elim (test from) as
    (λ b. test from ≡ b
    → AsMany test end (if b then 1 + count_from test (from + 1) count else count_from test (from + 1) count) (if b then Some from else first_from test (from + 1) count)) [
      | true ↦ λ passes.
          let left : end - from ≡ suc count = omega (arith, ends) in
          ap (count_from test from) left ∙ counted test from count passes
      | false ↦ λ fails. first_as_many test (from + 1) count end (omega (arith, ends))
    ] refl

once_more : (n count : ℕ) → suc n * count ≡ count + n * count
once_more n count = omega arith

-- ---- what comes next

module _ (chosen : ℕ) (t : SlotTable) (c : Collection) where
  to_filter : (from : ℕ) → from ≤ length t.ids.items → steps_at chosen t c (filter_from c.snapshot t from) ≤ filter_steps chosen c.snapshot t from
  to_filter from within = by_found (first_slot t (is_old_slot c.snapshot t) from)
      (first_as_many (is_old_slot c.snapshot t) from (length t.ids.items - from) (length t.ids.items) (omega (arith, within)))
    where
      by_found : (found : Option ℕ) → AsMany (is_old_slot c.snapshot t) (length t.ids.items) (old_from c.snapshot t from) found
          → steps_at chosen t c (filter_at found) ≤ filter_steps chosen c.snapshot t from
      by_found None many = omega arith
      by_found (Some slot) many = omega (arith, many)

  to_level : (level : ℕ) → steps_at chosen t c (mark_level c.snapshot t level) ≤ level * trees_from c.snapshot t 0 + filter_steps chosen c.snapshot t 0
  to_level zero = omega (arith, to_filter 0 (omega arith))
  to_level (suc level) = by_found (first_slot t (is_tree_slot c.snapshot t) 0)
      (first_as_many (is_tree_slot c.snapshot t) 0 (length t.ids.items - 0) (length t.ids.items) (omega arith))
    where
      by_found : (found : Option ℕ) → AsMany (is_tree_slot c.snapshot t) (length t.ids.items) (trees_from c.snapshot t 0) found
          → steps_at chosen t c (mark_at c.snapshot t (suc level) found) ≤ suc level * trees_from c.snapshot t 0 + filter_steps chosen c.snapshot t 0
      by_found None many = omega (arith, to_filter 0 (omega arith))
      by_found (Some slot) many =
          let below : suc level - 1 ≡ level = omega arith in
          omega (arith, many, once_more level (trees_from c.snapshot t 0), ap (λ (n : ℕ). n * trees_from c.snapshot t 0) below)

  to_mark : (level from : ℕ) → from ≤ length t.ids.items
      → steps_at chosen t c (mark_from c.snapshot t level from) ≤ trees_from c.snapshot t from + (level - 1) * trees_from c.snapshot t 0 + filter_steps chosen c.snapshot t 0
  to_mark level from within = by_found (first_slot t (is_tree_slot c.snapshot t) from)
      (first_as_many (is_tree_slot c.snapshot t) from (length t.ids.items - from) (length t.ids.items) (omega (arith, within)))
    where
      by_found : (found : Option ℕ) → AsMany (is_tree_slot c.snapshot t) (length t.ids.items) (trees_from c.snapshot t from) found
          → steps_at chosen t c (mark_on c.snapshot t level found) ≤ trees_from c.snapshot t from + (level - 1) * trees_from c.snapshot t 0 + filter_steps chosen c.snapshot t 0
      by_found None many = omega (arith, to_level (level - 1))
      by_found (Some slot) many = omega (arith, many)

-- ---- the steps

module _ (chosen : ℕ) (t now : SlotTable) (c after : Collection) (under : IsUnderWay t c) where
  -- by the stage, and by what the collection is then
  fewer : (stage : Stage) (new : Collection) → c.stage ≡ stage → after ≡ new → steps_to_come chosen now new < steps_at chosen t c stage
      → steps_to_come chosen now after < steps_to_come chosen t c
  fewer stage new at is less =
      subst (λ (x : Collection). steps_to_come chosen now x < steps_to_come chosen t c) (sym is)
      (subst (λ (s : Stage). steps_to_come chosen now new < steps_at chosen t c s) (sym at) less)

  -- the sweep goes on
  pub fewer_to_sweep : c.stage ≡ Sweep → after ≡ record c { sweep = after.sweep } → steps_left after.sweep < steps_left c.sweep
      → steps_to_come chosen now after < steps_to_come chosen t c
  fewer_to_sweep at is less =
      let next : Collection = record c { sweep = after.sweep } in
      fewer Sweep next at is (subst (λ (s : Stage). steps_at chosen now next s < steps_left c.sweep) (sym at) less)

module _ (chosen : ℕ) (t : SlotTable) (c after : Collection) (under : IsUnderWay t c) where
  pub fewer_to_mark : (level slot : ℕ) (known : Option PlaceMap) (old new : DiskView) → c.stage ≡ Mark level slot → Scans t known old new level slot c after
      → steps_to_come chosen t after < steps_to_come chosen t c
  fewer_to_mark level slot known old new at scans =
      let was = at_stage t c (Mark level slot) under at in
      let next : Collection = record c { live = after.live; stage = mark_from c.snapshot t level (slot + 1) } in
      fewer chosen t t c after under (Mark level slot) next at scans.collection_is
      (omega (arith, to_mark chosen t next level (slot + 1) (omega (arith, was.2.0)), one_fewer (is_tree_slot c.snapshot t) (length t.ids.items) slot was.2.0 was.2.1))

  pub fewer_to_record : (slot : ℕ) (known : Option PlaceMap) (old new : DiskView) → c.stage ≡ Filter slot → Records t known old new slot c after
      → steps_to_come chosen t after < steps_to_come chosen t c
  fewer_to_record slot known old new at records =
      let was = at_stage t c (Filter slot) under at in
      let next : Collection = record c { liveness = c.liveness ++ recorded t slot records.live ∷ []; stage = filter_from c.snapshot t (slot + 1) } in
      fewer chosen t t c after under (Filter slot) next at records.collection_is
      (omega (arith, to_filter chosen t next (slot + 1) (omega (arith, was.0.0)), one_fewer (is_old_slot c.snapshot t) (length t.ids.items) slot was.0.0 was.0.1))

-- ---- at the beginning

pub begun : (chosen : ℕ) (t : SlotTable) (c : Collection) → c.stage ≡ mark_level c.snapshot t MOST_LEVEL
    → steps_to_come chosen t c ≤ 6 * trees_from c.snapshot t 0 + old_from c.snapshot t 0 + 1 + 4 * chosen
begun chosen t c is =
    subst (λ (s : Stage). steps_at chosen t c s ≤ 6 * trees_from c.snapshot t 0 + old_from c.snapshot t 0 + 1 + 4 * chosen) (sym is) (omega (arith, to_level chosen t c MOST_LEVEL))
