-- Which containers were there when a collection began: by the table of slots, and by what the slots hold.
use Rattle.core_machine.proofs.Prelude.{◌≡◌, ℕ, zero, suc, ◌<◌, ◌≤◌, Bool, true, false, cond, not, List, [], ◌∷◌, ◌++◌, length, take, Option, Some, None, refl, sym, ◌∙◌, ap, subst, arith, ◌==◌, nat_le, slice_get, eqb-true, leb-true, length-map, HeaderValue, ContainerLiveness, is_old, CoreCollection, AreHeaders, ids_of, some_same, RepresentsSlots, SlotTable, ids_before}
use Rattle.std.proofs.Common.{◌&&◌, get_or}
use Rattle.std.specs.Prelude.{if◌then◌else◌, nat_lt}
use Rattle.std.proofs.lemmas.List.{length-append, take_all}
use Rattle.container_meta.specs.Spelling.{IsHeader}
use Rattle.gc_select.specs.Selecting as selecting
use Rattle.gc_steps.specs.UnderWay.{IsRecordedTo, old_ids}

-- ---- headers

pub right_at : (held : List (Option HeaderValue)) (slot : ℕ) (h : HeaderValue) → AreHeaders held → slice_get held slot ≡ Some (Some h) → IsHeader h
right_at [] slot h right there = absurd cc
right_at (None ∷ cs) zero h right there = absurd (let wrong : None ≡ Some h = some_same None (Some h) there in cc)
right_at (Some g ∷ cs) zero h right there = subst IsHeader (some_same g h (some_same (Some g) (Some h) there)) right.0
right_at (None ∷ cs) (suc slot) h right there = right_at cs slot h right there
right_at (Some g ∷ cs) (suc slot) h right there = right_at cs slot h right.1 there

first_true : (a b : Bool) → (a && b) ≡ true → a ≡ true
first_true true b both = refl
first_true false b both = both

pub id_some : (h : HeaderValue) → IsHeader h → 1 ≤ h.id
id_some h right = leb-true 1 h.id (first_true (nat_le 1 h.id) _ right.id)

-- one of an id below the snapshot was there
pub old_is : (snapshot : ℕ) (h : HeaderValue) → IsHeader h → is_old snapshot h.id ≡ nat_lt h.id snapshot
old_is snapshot h right = by_test (h.id == 0) refl
  where
    by_test : (b : Bool) → (h.id == 0) ≡ b → is_old snapshot h.id ≡ nat_lt h.id snapshot
    by_test true is = absurd (omega (arith, eqb-true h.id 0 is, id_some h right))
    by_test false is = ap (λ (b : Bool). not b && nat_lt h.id snapshot) is

-- ---- ids

pub ids_before_so : (snapshot : ℕ) (held : List (Option HeaderValue)) → AreHeaders held → ids_before snapshot held ≡ old_ids snapshot (ids_of held)
ids_before_so snapshot [] right = refl
ids_before_so snapshot (None ∷ cs) right = ids_before_so snapshot cs right
ids_before_so snapshot (Some h ∷ cs) right =
    ap (λ (ids : List ℕ). if nat_lt h.id snapshot then h.id ∷ ids else ids) (ids_before_so snapshot cs right.1)
    ∙ ap (λ (b : Bool). cond b (h.id ∷ old_ids snapshot (ids_of cs)) (old_ids snapshot (ids_of cs))) (sym (old_is snapshot h right.0))

-- those before one that was there, it, and those after it
abbrev Splits : ℕ → List ℕ → ℕ → Type 0
Splits snapshot ids slot = (rest : List ℕ) × (old_ids snapshot ids ≡ old_ids snapshot (take slot ids) ++ get_or ids slot 0 ∷ rest)

one_before : (snapshot x : ℕ) (xs : List ℕ) (slot : ℕ) → Splits snapshot xs slot → Splits snapshot (x ∷ xs) (suc slot)
one_before snapshot x xs slot after = (after.0, by_test (is_old snapshot x))
  where
    by_test : (b : Bool) → cond b (x ∷ old_ids snapshot xs) (old_ids snapshot xs)
        ≡ cond b (x ∷ old_ids snapshot (take slot xs)) (old_ids snapshot (take slot xs)) ++ get_or xs slot 0 ∷ after.0
    by_test true = ap (λ (ids : List ℕ). x ∷ ids) after.1
    by_test false = after.1

pub old_split : (snapshot : ℕ) (ids : List ℕ) (slot : ℕ) → slot < length ids → is_old snapshot (get_or ids slot 0) ≡ true → Splits snapshot ids slot
old_split snapshot [] slot within old = absurd (omega (arith, within))
old_split snapshot (x ∷ xs) zero within old = (old_ids snapshot xs, ap (λ (b : Bool). cond b (x ∷ old_ids snapshot xs) (old_ids snapshot xs)) old)
old_split snapshot (x ∷ xs) (suc slot) within old = one_before snapshot x xs slot (old_split snapshot xs slot (omega (arith, within)) old)

-- ---- what was recorded

module _ (held : List (Option HeaderValue)) (t : SlotTable) (k : CoreCollection) (right : AreHeaders held) (slots : RepresentsSlots held t) where
  old_so : ids_before k.snapshot held ≡ old_ids k.snapshot t.ids.items
  old_so = ids_before_so k.snapshot held right ∙ ap (old_ids k.snapshot) (sym slots.ids_are)

  -- up to a container that was there: it comes next
  pub recorded_to : (slot : ℕ) → slot < length t.ids.items → is_old k.snapshot (get_or t.ids.items slot 0) ≡ true → IsRecordedTo t k slot
      → (rest : List ℕ) × (ids_before k.snapshot held ≡ selecting.ids_of k.liveness ++ get_or t.ids.items slot 0 ∷ rest)
  recorded_to slot within old recorded =
      let split = old_split k.snapshot t.ids.items slot within old in
      (split.0, old_so ∙ split.1 ∙ ap (λ (ids : List ℕ). ids ++ get_or t.ids.items slot 0 ∷ split.0) (sym recorded))

  many_recorded : length (selecting.ids_of k.liveness) ≡ length k.liveness
  many_recorded = length-map k.liveness (λ (c : ContainerLiveness). c.id)

  pub fewer_recorded : (slot : ℕ) → slot < length t.ids.items → is_old k.snapshot (get_or t.ids.items slot 0) ≡ true → IsRecordedTo t k slot
      → length k.liveness < length (ids_before k.snapshot held)
  fewer_recorded slot within old recorded =
      let rest = recorded_to slot within old recorded in
      omega (arith, ap length rest.1, length-append (selecting.ids_of k.liveness) (get_or t.ids.items slot 0 ∷ rest.0), many_recorded)

  -- all of them
  pub all_recorded : IsRecordedTo t k (length t.ids.items) → selecting.ids_of k.liveness ≡ ids_before k.snapshot held
  all_recorded recorded = recorded ∙ ap (old_ids k.snapshot) (take_all (length t.ids.items) t.ids.items (omega arith)) ∙ sym old_so

  pub as_many_recorded : IsRecordedTo t k (length t.ids.items) → length (ids_before k.snapshot held) ≤ length k.liveness
  as_many_recorded recorded = omega (arith, ap length (all_recorded recorded), many_recorded)
