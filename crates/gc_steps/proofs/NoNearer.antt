-- As many steps of a collection come after a container is sealed as before.
use Rattle.gc_steps.proofs.Prelude.{◌≡◌, ◌≢◌, ℕ, zero, suc, ◌+◌, ◌-◌, ◌*◌, ◌<◌, ◌≤◌, Bool, true, false, List, [], ◌∷◌, length, set, Option, Some, None, refl, sym, ◌∙◌, ap, subst, arith, nat_lt, if◌then◌else◌, slice_get, eqb-true, ltb-true, get_or-set_other, length-set, HeaderValue, with_slot, ids_held, IsFirstFree, RepresentsSlots, count_of, SlotCount, SlotTable, Collection, Stage, Mark, Filter, Select, is_old, slice_get-set, is_old_slot, is_tree, is_tree_slot, old_from, steps_at, steps_to_come, IsUnderWay}
use Rattle.std.proofs.Common.{get_or}
use Rattle.std.specs.Prelude.{◌&&◌, not, ◌==◌}
use Rattle.std.proofs.lemmas.Bool.{eqb-false}
use Rattle.store_state.proofs.Taken.{counts_with, ids_with}
use Rattle.gc_steps.specs.declared.collection.Stage.TheVariants.{Sweep}
use Rattle.gc_sweep.proofs.Taken.{closed_slot}
use Rattle.gc_steps.specs.StepsToCome.{count_from}

-- of two tests that agree
count_same : (a b : ℕ → Bool) → ((n : ℕ) → a n ≡ b n) → (from count : ℕ) → count_from a from count ≡ count_from b from count
unfolding count_from
count_same a b same from zero = refl
count_same a b same from (suc count) =
    ap (λ (n : ℕ). if a from then 1 + n else n) (count_same a b same (from + 1) count)
    ∙ ap (λ (yes : Bool). if yes then 1 + count_from b (from + 1) count else count_from b (from + 1) count) (same from)

both_false : (a b : Bool) → a ≡ false → (a && b) ≡ false
both_false true b is = absurd cc
both_false false b is = refl

second_false : (a b : Bool) → b ≡ false → (a && b) ≡ false
second_false true b is = is
second_false false b is = refl

not_below : (id snapshot : ℕ) → snapshot ≤ id → nat_lt id snapshot ≡ false
not_below id snapshot above = by_test (nat_lt id snapshot) refl
  where
    by_test : (b : Bool) → nat_lt id snapshot ≡ b → b ≡ false
    by_test true below = absurd (omega (arith, above, ltb-true id snapshot below))
    by_test false new = refl

get_set : (ids : List ℕ) (slot id : ℕ) → slot < length ids → get_or (set ids slot id) slot 0 ≡ id
get_set [] slot id within = absurd (omega (arith, within))
get_set (x ∷ xs) zero id within = refl
get_set (x ∷ xs) (suc slot) id within = get_set xs slot id (omega (arith, within))

module _ (t now : SlotTable) (snapshot slot id : ℕ) (count : SlotCount) (closed : get_or t.ids.items slot 0 ≡ 0) (within : slot < length t.ids.items) (above : snapshot ≤ id)
    (ids_are : now.ids.items ≡ set t.ids.items slot id) (counts_are : now.counts.items ≡ set t.counts.items slot count) where
  was_new : (n : ℕ) → n ≡ slot → is_old_slot snapshot t n ≡ false
  was_new n is = ap (λ (k : ℕ). is_old snapshot (get_or t.ids.items k 0)) is ∙ ap (is_old snapshot) closed

  is_new : (n : ℕ) → n ≡ slot → is_old_slot snapshot now n ≡ false
  is_new n is =
      ap (λ (k : ℕ). is_old snapshot (get_or now.ids.items k 0)) is ∙ ap (λ (ids : List ℕ). is_old snapshot (get_or ids slot 0)) ids_are
      ∙ ap (is_old snapshot) (get_set t.ids.items slot id within)
      ∙ second_false (not (id == 0)) (nat_lt id snapshot) (not_below id snapshot above)

  id_same : (n : ℕ) → n ≢ slot → get_or now.ids.items n 0 ≡ get_or t.ids.items n 0
  id_same n other = ap (λ (ids : List ℕ). get_or ids n 0) ids_are ∙ get_or-set_other t.ids.items slot n id 0 other

  count_stays : (n : ℕ) → n ≢ slot → slice_get now.counts.items n ≡ slice_get t.counts.items n
  count_stays n other = ap (λ (counts : List SlotCount). slice_get counts n) counts_are ∙ slice_get-set t.counts.items slot n count other

  old_same : (n : ℕ) → is_old_slot snapshot now n ≡ is_old_slot snapshot t n
  old_same n = by_test (n == slot) refl
    where
      by_test : (b : Bool) → n == slot ≡ b → is_old_slot snapshot now n ≡ is_old_slot snapshot t n
      by_test true is = is_new n (eqb-true n slot is) ∙ sym (was_new n (eqb-true n slot is))
      by_test false is = ap (is_old snapshot) (id_same n (eqb-false n slot is))

  tree_same : (n : ℕ) → is_tree_slot snapshot now n ≡ is_tree_slot snapshot t n
  tree_same n = by_test (n == slot) refl
    where
      by_test : (b : Bool) → n == slot ≡ b → is_tree_slot snapshot now n ≡ is_tree_slot snapshot t n
      by_test true is =
          both_false (is_old_slot snapshot now n) (is_tree (slice_get now.counts.items n)) (is_new n (eqb-true n slot is))
          ∙ sym (both_false (is_old_slot snapshot t n) (is_tree (slice_get t.counts.items n)) (was_new n (eqb-true n slot is)))
      by_test false is =
          ap (λ (old : Bool). old && is_tree (slice_get now.counts.items n)) (old_same n)
          ∙ ap (λ (found : Option SlotCount). is_old_slot snapshot t n && is_tree found) (count_stays n (eqb-false n slot is))

  many : length now.ids.items ≡ length t.ids.items
  many = ap length ids_are ∙ length-set t.ids.items slot id

  count_on : (now_test test : ℕ → Bool) → ((n : ℕ) → now_test n ≡ test n) → (from : ℕ)
      → count_from now_test from (length now.ids.items - from) ≡ count_from test from (length t.ids.items - from)
  count_on now_test test same from = ap (λ (n : ℕ). count_from now_test from (n - from)) many ∙ count_same now_test test same from (length t.ids.items - from)

  pub old_from_same : (from : ℕ) → old_from snapshot now from ≡ old_from snapshot t from
  old_from_same from = count_on (is_old_slot snapshot now) (is_old_slot snapshot t) old_same from

  pub steps_same : (chosen : ℕ) (c : Collection) → c.snapshot ≡ snapshot → (stage : Stage) → steps_at chosen now c stage ≡ steps_at chosen t c stage
  steps_same chosen c at (Mark level other) = subst
      (λ (s : ℕ). (let d : Collection = record c { snapshot = s } in steps_at chosen now d (Mark level other) ≡ steps_at chosen t d (Mark level other))) (sym at) (
      let old = count_on (is_old_slot snapshot now) (is_old_slot snapshot t) old_same 0 in
      let tree = count_on (is_tree_slot snapshot now) (is_tree_slot snapshot t) tree_same in
      ap (λ (n : ℕ). n + (level - 1) * count_from (is_tree_slot snapshot now) 0 (length now.ids.items - 0) +
      (count_from (is_old_slot snapshot now) 0 (length now.ids.items - 0) + 1 + 4 * chosen)) (tree other)
      ∙ ap (λ (n : ℕ). count_from (is_tree_slot snapshot t) other (length t.ids.items - other) + (level - 1) * n +
      (count_from (is_old_slot snapshot now) 0 (length now.ids.items - 0) + 1 + 4 * chosen)) (tree 0)
      ∙ ap (λ (n : ℕ). count_from (is_tree_slot snapshot t) other (length t.ids.items - other) + (level - 1) * count_from (is_tree_slot snapshot t) 0 (length t.ids.items - 0) +
      (n + 1 + 4 * chosen)) old
      )
  steps_same chosen c at (Filter other) = subst
      (λ (s : ℕ). (let d : Collection = record c { snapshot = s } in steps_at chosen now d (Filter other) ≡ steps_at chosen t d (Filter other))) (sym at)
      (ap (λ (n : ℕ). n + 1 + 4 * chosen) (count_on (is_old_slot snapshot now) (is_old_slot snapshot t) old_same other))
  steps_same chosen c at Select = refl
  steps_same chosen c at Sweep = refl

many_ids : (held : List (Option HeaderValue)) → length (ids_held held) ≡ length held
many_ids [] = refl
many_ids (None ∷ cs) = ap suc (many_ids cs)
many_ids (Some h ∷ cs) = ap suc (many_ids cs)

pub as_many : (held : List (Option HeaderValue)) (t now : SlotTable) (c : Collection) (slot : ℕ) (h : HeaderValue) (chosen : ℕ) → IsFirstFree slot held → RepresentsSlots held t
    → RepresentsSlots (with_slot slot h held) now → t.last_id < h.id → IsUnderWay t c → steps_to_come chosen now c ≡ steps_to_come chosen t c
as_many held t now c slot h chosen free was is next under =
    steps_same t now c.snapshot slot h.id (count_of (Some h)) (ap (λ (ids : List ℕ). get_or ids slot 0) was.ids_are ∙ closed_slot held slot free.closed)
    (omega (arith, free.within, ap length was.ids_are, many_ids held)) (omega (arith, under.began, next))
    (is.ids_are ∙ ids_with slot h held ∙ ap (λ (ids : List ℕ). set ids slot h.id) (sym was.ids_are))
    (is.counts_are ∙ counts_with slot h held ∙ ap (λ (counts : List SlotCount). set counts slot (count_of (Some h))) (sym was.counts_are)) chosen c refl c.stage
