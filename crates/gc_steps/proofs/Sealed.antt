-- A container that is sealed while a collection is under way leaves it so.
use Rattle.gc_steps.proofs.Prelude.{◌≡◌, ◌≢◌, ℕ, zero, suc, ◌<◌, ◌≤◌, Bool, true, false, cond, List, [], ◌∷◌, length, take, set, Option, Some, refl, sym, ◌∙◌, ap, subst, arith, nat_eq, nat_lt, slice_get, ltb-true, get_or-set_other, length-set, take_all, HeaderValue, IsHeader, AreHeaders, with_slot, IsFirstFree, RepresentsSlots, count_of, SlotCount, SlotTable, Collection, Stage, Mark, Filter, Select, IsSweeping, is_old, is_old_slot, is_tree, is_tree_slot, HasStage, IsUnderWay, old_ids, slice_get-set}
use Rattle.std.proofs.Common.{max, get_or}
use Rattle.std.specs.Prelude.{◌&&◌, not, ◌==◌}
use Rattle.std.specs.List.{IsDistinct}
use Rattle.disk_format.specs.declared.numbers.TheConstants.{RESERVE}
use Rattle.gc_steps.specs.declared.collection.Stage.TheVariants.{Sweep}
use Rattle.gc_sweep.specs.UnderWay.{free_in}
use Rattle.gc_steps.specs.UnderWay.{IsSlot}
use Rattle.gc_sweep.proofs.Taken.{counts_set, free_less, ids_set, old_not_zero, sealed_by_other, slot_closed}

-- an id from the snapshot on is that of no container that was there
not_old : (snapshot id : ℕ) → snapshot ≤ id → is_old snapshot id ≡ false
not_old snapshot id above = by_test (is_old snapshot id) refl
  where
    below : is_old snapshot id ≡ true → nat_lt id snapshot ≡ true
    below old = second (not (id == 0)) (nat_lt id snapshot) old
      where
        second : (a b : Bool) → (a && b) ≡ true → b ≡ true
        second true b both = both
        second false b both = absurd cc

    by_test : (b : Bool) → is_old snapshot id ≡ b → b ≡ false
    by_test true old = absurd (omega (arith, above, ltb-true id snapshot (below old)))
    by_test false new = refl

-- of the containers that were there, the same are in the first slots
old_same : (snapshot : ℕ) (ids : List ℕ) (slot id n : ℕ) → get_or ids slot 0 ≡ 0 → is_old snapshot id ≡ false
    → old_ids snapshot (take n (set ids slot id)) ≡ old_ids snapshot (take n ids)
old_same snapshot [] slot id n closed new = refl
old_same snapshot (x ∷ xs) zero id zero closed new = refl
old_same snapshot (x ∷ xs) (suc slot) id zero closed new = refl
old_same snapshot (x ∷ xs) zero id (suc n) closed new =
    ap (λ b. cond b (id ∷ old_ids snapshot (take n xs)) (old_ids snapshot (take n xs))) new
    ∙ sym (ap (λ y. cond (is_old snapshot y) (x ∷ old_ids snapshot (take n xs)) (old_ids snapshot (take n xs))) closed)
old_same snapshot (x ∷ xs) (suc slot) id (suc n) closed new = ap (λ (rest : List ℕ). cond (is_old snapshot x) (x ∷ rest) rest) (old_same snapshot xs slot id n closed new)

module _ (t now : SlotTable) (c : Collection) (slot id : ℕ) (count : SlotCount) (closed : get_or t.ids.items slot 0 ≡ 0) (above : c.snapshot ≤ id)
    (ids_are : now.ids.items ≡ set t.ids.items slot id)
    (counts_are : now.counts.items ≡ set t.counts.items slot count) where
  many : length now.ids.items ≡ length t.ids.items
  many = ap length ids_are ∙ length-set t.ids.items slot id

  same_old : (n : ℕ) → old_ids c.snapshot (take n now.ids.items) ≡ old_ids c.snapshot (take n t.ids.items)
  same_old n = ap (λ (ids : List ℕ). old_ids c.snapshot (take n ids)) ids_are ∙ old_same c.snapshot t.ids.items slot id n closed (not_old c.snapshot id above)

  all_same : old_ids c.snapshot now.ids.items ≡ old_ids c.snapshot t.ids.items
  all_same =
      ap (old_ids c.snapshot) (sym (take_all (length now.ids.items) now.ids.items (omega arith))) ∙ same_old (length now.ids.items)
      ∙ ap (old_ids c.snapshot) (take_all (length now.ids.items) t.ids.items (omega (arith, many)))

  -- a slot that has such a container is another one
  other_slot : (other : ℕ) → is_old_slot c.snapshot t other ≡ true → other ≢ slot
  other_slot other old = λ same. old_not_zero c.snapshot (get_or t.ids.items other 0) old (ap (λ (n : ℕ). get_or t.ids.items n 0) same ∙ closed)

  id_same : (other : ℕ) → is_old_slot c.snapshot t other ≡ true → get_or now.ids.items other 0 ≡ get_or t.ids.items other 0
  id_same other old = ap (λ (ids : List ℕ). get_or ids other 0) ids_are ∙ get_or-set_other t.ids.items slot other id 0 (other_slot other old)

  slot_same : (other : ℕ) → IsSlot t (is_old_slot c.snapshot t) other → IsSlot now (is_old_slot c.snapshot now) other
  slot_same other (within, old) = (omega (arith, many, within), ap (is_old c.snapshot) (id_same other old) ∙ old)

  old_first : (a b : Bool) → (a && b) ≡ true → a ≡ true
  old_first true b both = refl
  old_first false b both = both

  tree_same : (other : ℕ) → IsSlot t (is_tree_slot c.snapshot t) other → IsSlot now (is_tree_slot c.snapshot now) other
  tree_same other (within, tree) =
      let old = old_first (is_old_slot c.snapshot t other) (is_tree (slice_get t.counts.items other)) tree in
      let count_same : slice_get now.counts.items other ≡ slice_get t.counts.items other =
      ap (λ (counts : List SlotCount). slice_get counts other) counts_are ∙ slice_get-set t.counts.items slot other count (other_slot other old) in (
        omega (arith, many, within),
        ap (λ (n : ℕ). is_old c.snapshot n && is_tree (slice_get now.counts.items other)) (id_same other old)
            ∙ ap (λ (found : Option SlotCount). is_old_slot c.snapshot t other && is_tree found) count_same ∙ tree,
      )

  stage_same : RESERVE < free_in t → suc (free_in now) ≡ free_in t → (IsSweeping t c.snapshot c.sweep → IsSweeping now c.snapshot c.sweep) → (stage : Stage) → HasStage t c stage
      → HasStage now c stage
  stage_same spare less sweeping (Mark level other) was = (was.0, was.1, tree_same other was.2, was.3, omega (arith, spare, less))
  stage_same spare less sweeping (Filter other) was = (slot_same other was.0, was.1 ∙ sym (same_old other), omega (arith, spare, less))
  stage_same spare less sweeping Select was = (
    was.0 ∙ ap (old_ids c.snapshot) (take_all (length t.ids.items) t.ids.items (omega arith)) ∙ sym all_same
        ∙ ap (old_ids c.snapshot) (sym (take_all (length now.ids.items) now.ids.items (omega arith))),
    omega (arith, spare, less),
  )
  stage_same spare less sweeping Sweep was = sweeping was

  sealed_on : RESERVE < free_in t → suc (free_in now) ≡ free_in t → (IsSweeping t c.snapshot c.sweep → IsSweeping now c.snapshot c.sweep) → t.last_id ≤ now.last_id
      → IsUnderWay t c → IsUnderWay now c
  sealed_on spare less sweeping later under = record {
    began = omega (arith, under.began, later);
    ids_differ = subst (IsDistinct nat_eq) (sym all_same) under.ids_differ;
    stage_is = stage_same spare less sweeping c.stage under.stage_is;
    sources_are = under.sources_are;
  }

-- A container that is sealed into the first free slot under the next id, or a later one, beside the slots of the reserve.
pub sealed : (held : List (Option HeaderValue)) (t now : SlotTable) (c : Collection) (slot : ℕ) (h : HeaderValue) → IsFirstFree slot held → AreHeaders held → IsHeader h
    → RepresentsSlots held t
    → RepresentsSlots (with_slot slot h held) now → now.last_id ≡ max t.last_id h.id → t.last_id < h.id → RESERVE < free_in t → IsUnderWay t c → IsUnderWay now c
sealed held t now c slot h free headers right was is last next spare under =
    sealed_on t now c slot h.id (count_of (Some h)) (slot_closed held t now slot h free was is) (omega (arith, under.began, next)) (ids_set held t now slot h free was is)
    (counts_set held t now slot h free was is) spare (free_less held t now slot h free was is headers right)
    (λ sweeping. sealed_by_other held t now c.snapshot c.sweep slot h free headers right was is spare sweeping) (omega (arith, last)) under
