-- How many containers a collection that marks has to scan still: as many as the machine has.
use Rattle.core_machine.proofs.Prelude.{◌≡◌, ℕ, zero, suc, ◌+◌, ◌-◌, ◌*◌, ◌<◌, ◌≤◌, Bool, true, false, List, [], ◌∷◌, length, Option, Some, None, refl, sym, ◌∙◌, ap, arith, ◌==◌, slice_get, lt-ltb, Kind, kind_byte, HeaderValue, MOST_LEVEL, CoreSweep, is_old, CoreStage, filter_at, first_slot, is_old_slot, is_tree_slot, mark_from, mark_level, trees_from, AreHeaders, ids_of, last_id, as_many, RepresentsSlots, count_of, SlotCount, SlotTable, marking, marks_of, SameStage}
use Rattle.std.proofs.Common.{◌&&◌, get_or, map}
use Rattle.std.specs.Prelude.{if◌then◌else◌}
use Rattle.container_meta.specs.declared.kind.Kind.TheVariants.{Leaf, Tree}
use Rattle.gc_steps.specs.declared.collection.Stage.TheVariants as core
use Rattle.gc_steps.specs.Stages.{filter_from, first_from, is_tree, mark_at, mark_on}
use Rattle.gc_steps.specs.StepsToCome.{count_from}
use Rattle.store_machine.specs.Collecting.{one_tree, trees_in}
use Rattle.core_machine.proofs.OldIds.{old_is}

-- ---- counts

counted : (test : ℕ → Bool) (from count : ℕ) → test from ≡ true → count_from test from (suc count) ≡ 1 + count_from test (from + 1) count
unfolding count_from
counted test from count passes = ap (λ (b : Bool). if b then 1 + count_from test (from + 1) count else count_from test (from + 1) count) passes

-- one that passes, and those after it
pub one_fewer : (test : ℕ → Bool) (end slot : ℕ) → slot < end → test slot ≡ true → count_from test slot (end - slot) ≡ 1 + count_from test (slot + 1) (end - (slot + 1))
one_fewer test end slot within passes =
    let left : end - slot ≡ suc (end - (slot + 1)) = omega (arith, within) in
    ap (count_from test slot) left ∙ counted test slot (end - (slot + 1)) passes

-- from the first that passes on there are as many; where none does there are none
abbrev CountsFrom : (ℕ → Bool) → ℕ → ℕ → Option ℕ → Type 0
CountsFrom test end count None = count ≡ 0
CountsFrom test end count (Some slot) = (count_from test slot (end - slot) ≡ count) × (1 ≤ count)

counts_first : (test : ℕ → Bool) (from count end : ℕ) → from + count ≡ end → CountsFrom test end (count_from test from count) (first_from test from count)
unfolding first_from count_from
counts_first test from zero end ends = refl
counts_first test from (suc count) end ends =
    let rest = count_from test (from + 1) count in
    elim (test from) as (λ b. test from ≡ b → CountsFrom test end (if b then 1 + rest else rest) (if b then Some from else first_from test (from + 1) count)) [
      | true ↦ λ passes.
          let left : end - from ≡ suc count = omega (arith, ends) in
          (ap (count_from test from) left ∙ counted test from count passes, omega arith)
      | false ↦ λ fails. counts_first test (from + 1) count end (omega (arith, ends))
    ] refl

once_more : (n count : ℕ) → suc n * count ≡ count + n * count
once_more n count = omega arith

-- ---- stages

module _ (t : SlotTable) (snapshot : ℕ) where
  -- so many scans are to come from a stage on
  abbrev pub Left : ℕ → CoreStage → Type 0
  Left n (core.Mark level slot) = (n ≡ trees_from snapshot t slot + (level - 1) * trees_from snapshot t 0) × (1 ≤ n)
  Left n (core.Filter slot) = n ≡ 0
  Left n core.Select = n ≡ 0
  Left n core.Sweep = ⊥

  left_filter : (n from : ℕ) → n ≡ 0 → Left n (filter_from snapshot t from)
  left_filter n from none = by_found (first_slot t (is_old_slot snapshot t) from)
    where
      by_found : (found : Option ℕ) → Left n (filter_at found)
      by_found None = none
      by_found (Some slot) = none

  pub left_level : (level n : ℕ) → n ≡ level * trees_from snapshot t 0 → Left n (mark_level snapshot t level)
  left_level zero n is = left_filter n 0 (omega (arith, is))
  left_level (suc level) n is =
      by_found (first_slot t (is_tree_slot snapshot t) 0) (counts_first (is_tree_slot snapshot t) 0 (length t.ids.items - 0) (length t.ids.items) (omega arith))
    where
      by_found : (found : Option ℕ) → CountsFrom (is_tree_slot snapshot t) (length t.ids.items) (trees_from snapshot t 0) found → Left n (mark_at snapshot t (suc level) found)
      by_found None none = left_filter n 0 (is ∙ ap (λ (k : ℕ). suc level * k) none ∙ omega arith)
      by_found (Some slot) many =
          let below : suc level - 1 ≡ level = omega arith in
          let all : n ≡ trees_from snapshot t 0 + level * trees_from snapshot t 0 = is ∙ once_more level (trees_from snapshot t 0) in (
            all ∙ ap (λ (k : ℕ). k + level * trees_from snapshot t 0) (sym many.0) ∙ ap (λ (k : ℕ). trees_from snapshot t slot + k * trees_from snapshot t 0) (sym below),
            omega (arith, all, many.1),
          )

  pub left_mark : (level from n : ℕ) → from ≤ length t.ids.items → n ≡ trees_from snapshot t from + (level - 1) * trees_from snapshot t 0
      → Left n (mark_from snapshot t level from)
  left_mark level from n within is =
      by_found (first_slot t (is_tree_slot snapshot t) from) (counts_first (is_tree_slot snapshot t) from (length t.ids.items - from) (length t.ids.items) (omega (arith, within)))
    where
      by_found : (found : Option ℕ) → CountsFrom (is_tree_slot snapshot t) (length t.ids.items) (trees_from snapshot t from) found → Left n (mark_on snapshot t level found)
      by_found None none = left_level (level - 1) n (omega (arith, is, none))
      by_found (Some slot) many = (is ∙ ap (λ (k : ℕ). k + (level - 1) * trees_from snapshot t 0) (sym many.0), omega (arith, is, many.1))

  -- so the machine's stage is the one of so many
  pub same_marking : (swept : Bool) (sources : List ℕ) (sweep : CoreSweep) (n : ℕ) (at : CoreStage) → Left n at
      → SameStage t swept sources [] snapshot sweep (marking n) at
  same_marking swept sources sweep zero (core.Mark level slot) left = absurd (omega (arith, left.1))
  same_marking swept sources sweep zero (core.Filter slot) left = refl
  same_marking swept sources sweep zero core.Select left = refl
  same_marking swept sources sweep zero core.Sweep left = absurd left
  same_marking swept sources sweep (suc n) (core.Mark level slot) left = (left.0, refl)
  same_marking swept sources sweep (suc n) (core.Filter slot) left = absurd (omega (arith, left))
  same_marking swept sources sweep (suc n) core.Select left = absurd (omega (arith, left))
  same_marking swept sources sweep (suc n) core.Sweep left = absurd left

-- ---- as a collection begins each container of nodes was there

abbrev tree_there : Option HeaderValue → Bool
tree_there None = false
tree_there (Some h) = kind_byte h.kind == 1

trees_counted : (held : List (Option HeaderValue)) (test : ℕ → Bool) (from : ℕ) → ((i : ℕ) → i < length held → test (from + i) ≡ tree_there (get_or held i None))
    → count_from test from (length held) ≡ trees_in held
unfolding count_from
trees_counted [] test from same = refl
trees_counted (c ∷ cs) test from same =
    ap (λ (n : ℕ). if test from then 1 + n else n) (trees_counted cs test (from + 1) later)
    ∙ ap (λ (b : Bool). if b then 1 + trees_in cs else trees_in cs) (ap test (let same_place : from ≡ from + 0 = omega arith in same_place) ∙ same 0 (omega arith))
    ∙ one c
  where
    later : (i : ℕ) → i < length cs → test (from + 1 + i) ≡ tree_there (get_or cs i None)
    later i within = ap test (let same_place : from + 1 + i ≡ from + suc i = omega arith in same_place) ∙ same (suc i) (omega (arith, within))

    by_kind : (kind : Kind) → (if kind_byte kind == 1 then 1 + trees_in cs else trees_in cs) ≡ one_tree kind + trees_in cs
    by_kind Leaf = omega arith
    by_kind Tree = refl

    one : (o : Option HeaderValue) → (if tree_there o then 1 + trees_in cs else trees_in cs) ≡ trees_in (o ∷ cs)
    one None = refl
    one (Some h) = by_kind h.kind

both_true : (a b : Bool) → a ≡ true → (a && b) ≡ b
both_true true b is = refl
both_true false b is = absurd cc

tree_in_slot : (held : List (Option HeaderValue)) (snapshot : ℕ) → AreHeaders held → last_id held < snapshot → (i : ℕ) → i < length held
    → (is_old snapshot (get_or (ids_of held) i 0) && is_tree (slice_get (map count_of held) i)) ≡ tree_there (get_or held i None)
tree_in_slot [] snapshot right above i within = absurd (omega (arith, within))
tree_in_slot (None ∷ cs) snapshot right above zero within = refl
tree_in_slot (Some h ∷ cs) snapshot right above zero within =
    both_true (is_old snapshot h.id) (kind_byte h.kind == 1) (old_is snapshot h right.0 ∙ lt-ltb h.id snapshot (omega (arith, above)))
tree_in_slot (None ∷ cs) snapshot right above (suc i) within = tree_in_slot cs snapshot right above i (omega (arith, within))
tree_in_slot (Some h ∷ cs) snapshot right above (suc i) within = tree_in_slot cs snapshot right.1 (omega (arith, above)) i (omega (arith, within))

module _ (held : List (Option HeaderValue)) (t : SlotTable) (snapshot : ℕ) (right : AreHeaders held) (slots : RepresentsSlots held t) (above : last_id held < snapshot) where
  trees_all : trees_from snapshot t 0 ≡ trees_in held
  trees_all =
      ap (count_from (is_tree_slot snapshot t) 0) (let many : length t.ids.items - 0 ≡ length held = omega (arith, ap length slots.ids_are, as_many held) in many)
      ∙ trees_counted held (is_tree_slot snapshot t) 0 each
    where
      each : (i : ℕ) → i < length held → is_tree_slot snapshot t (0 + i) ≡ tree_there (get_or held i None)
      each i within =
          ap (is_tree_slot snapshot t) (let same_place : 0 + i ≡ i = omega arith in same_place)
          ∙ ap (λ (ids : List ℕ). is_old snapshot (get_or ids i 0) && is_tree (slice_get t.counts.items i)) slots.ids_are
          ∙ ap (λ (counts : List SlotCount). is_old snapshot (get_or (ids_of held) i 0) && is_tree (slice_get counts i)) slots.counts_are
          ∙ tree_in_slot held snapshot right above i within

  -- so as many scans are to come as the machine has at first
  pub left_first : Left t snapshot (marks_of held) (mark_level snapshot t MOST_LEVEL)
  left_first = left_level t snapshot MOST_LEVEL (marks_of held) (ap (λ (n : ℕ). MOST_LEVEL * n) (sym trees_all))
