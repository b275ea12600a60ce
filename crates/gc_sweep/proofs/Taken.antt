-- A container more in a closed slot: what a sweep needs of the table stays.
use Rattle.gc_sweep.proofs.Prelude.{◌≡◌, ◌≢◌, inl, inr, ℕ, zero, suc, ◌<◌, ◌≤◌, true, List, [], ◌∷◌, ◌++◌, length, get_or, set, count_by, Option, Some, None, option_map, refl, ap, sym, subst, ◌∙◌, arith, ◌==◌, AllByRecursion, get_or_default_zero, get_or-set_other, length-set, Kind, HeaderValue, IsHeader, RESERVE, AreHeaders, first_free, free_slots, ids_of, with_slot, zeros_free, SlotCount, SlotTable, IsFirstFree, RepresentsSlots, count_of, Next, Sweep, kind_in, AreLeft, HasNext, IsSweeping, IsTaken, free_in, is_old, sources_before}
use Rattle.std.specs.Prelude.{slice_get, Contains}
use Rattle.store_model.proofs.Filled.{free_less as filled_less, headers_with}
use Rattle.store_state.proofs.Taken.{counts_with, ids_with}
use Rattle.gc_sweep.specs.declared.sweep.Next.TheVariants.{Copy}
use Rattle.gc_sweep.specs.Next.{IsOfKind}
use Rattle.gc_sweep.proofs.Arrives.{all_by}

-- ---- lists

pub slice_get-set : {X : Type 0} (xs : List X) (i j : ℕ) (x : X) → j ≢ i → slice_get (set xs i x) j ≡ slice_get xs j
slice_get-set [] i j x other = refl
slice_get-set (y ∷ ys) zero zero x other = absurd (other refl)
slice_get-set (y ∷ ys) zero (suc j) x other = refl
slice_get-set (y ∷ ys) (suc i) zero x other = refl
slice_get-set (y ∷ ys) (suc i) (suc j) x other = slice_get-set ys i j x (λ same. other (ap suc same))

pub contains_set : (ids : List ℕ) (slot new id : ℕ) → Contains ids id → get_or ids slot 0 ≢ id → Contains (set ids slot new) id
contains_set ids slot new id (k, within, is) other =
    let apart : k ≢ slot = λ same. other (ap (λ (n : ℕ). get_or ids n 0) (sym same) ∙ sym (get_or_default_zero ids k id within) ∙ is) in
    (k, subst (λ (n : ℕ). k < n) (sym (length-set ids slot new)) within, get_or-set_other ids slot k new id apart ∙ is)

-- ---- the table

pub old_not_zero : (snapshot id : ℕ) → is_old snapshot id ≡ true → id ≢ 0
old_not_zero snapshot zero old = absurd cc
old_not_zero snapshot (suc id) old = λ zero. omega (arith, zero)

module _ (t now : SlotTable) (snapshot slot id : ℕ) (count : SlotCount) (closed : get_or t.ids.items slot 0 ≡ 0)
    (ids_are : now.ids.items ≡ set t.ids.items slot id) (counts_are : now.counts.items ≡ set t.counts.items slot count) where
  many : length now.ids.items ≡ length t.ids.items
  many = ap length ids_are ∙ length-set t.ids.items slot id

  -- a slot of another id is another one
  other_slot : (other : ℕ) → get_or t.ids.items other 0 ≢ 0 → other ≢ slot
  other_slot other some same = some (ap (λ (n : ℕ). get_or t.ids.items n 0) same ∙ closed)

  id_same : (other : ℕ) → get_or t.ids.items other 0 ≢ 0 → get_or now.ids.items other 0 ≡ get_or t.ids.items other 0
  id_same other some = ap (λ (ids : List ℕ). get_or ids other 0) ids_are ∙ get_or-set_other t.ids.items slot other id 0 (other_slot other some)

  kind_same : (other : ℕ) → get_or t.ids.items other 0 ≢ 0 → kind_in now other ≡ kind_in t other
  kind_same other some =
      ap (λ (counts : List SlotCount). option_map (λ (c : SlotCount). c.kind) (slice_get counts other)) counts_are
      ∙ ap (option_map (λ (c : SlotCount). c.kind)) (slice_get-set t.counts.items slot other count (other_slot other some))

  pub left_same : (sources : List ℕ) (from : ℕ) → AreLeft t snapshot sources from → AreLeft now snapshot sources from
  left_same sources from left = record {
    old = left.old;
    there = λ i more below.
        let differs : get_or t.ids.items slot 0 ≢ get_or sources i 0 = λ same. old_not_zero snapshot (get_or sources i 0) (left.old i below) (sym same ∙ closed) in
        subst (λ (ids : List ℕ). Contains ids (get_or sources i 0)) (sym ids_are) (contains_set t.ids.items slot id (get_or sources i 0) (left.there i more below) differs);
  }

  module _ (sources : List ℕ) (old : (i : ℕ) → i < length sources → is_old snapshot (get_or sources i 0) ≡ true) where
    -- the slot of a source's id has a container
    some_there : (i other : ℕ) → i < length sources → get_or t.ids.items other 0 ≡ get_or sources i 0 → get_or t.ids.items other 0 ≢ 0
    some_there i other below is none = old_not_zero snapshot (get_or sources i 0) (old i below) (sym is ∙ none)

    pub taken_same : (before : ℕ) → before ≤ length sources → (slots : List ℕ) → AllByRecursion (IsTaken t sources before) slots → AllByRecursion (IsTaken now sources before) slots
    taken_same before few slots all = all_by (IsTaken t sources before) (IsTaken now sources before) each slots all
      where
        each : (w : ℕ) → IsTaken t sources before w → IsTaken now sources before w
        each w is = record {
          within = omega (arith, many, is.within);
          number = is.number;
          taken = is.taken;
          id_is = id_same w (some_there is.number w (omega (arith, is.taken, few)) is.id_is) ∙ is.id_is;
        }

    pub of_kind_same : (i : ℕ) (kind : Kind) → i < length sources → IsOfKind t (get_or sources i 0) kind → IsOfKind now (get_or sources i 0) kind
    of_kind_same i kind below is =
        let some = some_there i is.slot below is.id_is in record {
          slot = is.slot;
          within = omega (arith, many, is.within);
          id_is = id_same is.slot some ∙ is.id_is;
          kind_is = kind_same is.slot some ∙ is.kind_is;
        }

  next_same : (s : Sweep) (n : Next) → ((i : ℕ) → i < length s.sources.items → is_old snapshot (get_or s.sources.items i 0) ≡ true) → HasNext t s n → HasNext now s n
  next_same s (Copy source entry) old (below, none, first, inl empty) = (below, none, first, inl empty)
  next_same s (Copy source entry) old (below, none, first, inr kind) = (below, none, first, inr (of_kind_same s.sources.items old source s.buffer.kind below kind))
  next_same s other old was = was

  -- a container of another who wrote it leaves a sweep under way
  pub sealed_on : (s : Sweep) → suc (free_in now) ≡ free_in t → RESERVE < free_in t → IsSweeping t snapshot s → IsSweeping now snapshot s
  sealed_on s less spare under = record {
    once = under.once;
    few = under.few;
    before = under.before;
    left = left_same s.sources.items (sources_before s s.next) under.left;
    taken = taken_same s.sources.items under.left.old (sources_before s s.next) under.before (s.waiting.items ++ s.ready.items) under.taken;
    apart = under.apart;
    counted = under.counted;
    waits = under.waits;
    fills = under.fills;
    few_copied = under.few_copied;
    next_is = next_same s s.next under.left.old under.next_is;
    room = omega (arith, spare, less);
  }

-- ---- what a container that is sealed does to the table

-- a closed slot has no id
pub closed_slot : (held : List (Option HeaderValue)) (slot : ℕ) → slice_get held slot ≡ Some None → get_or (ids_of held) slot 0 ≡ 0
closed_slot [] slot is = refl
closed_slot (None ∷ cs) zero is = refl
closed_slot (Some h ∷ cs) zero is = absurd cc
closed_slot (None ∷ cs) (suc slot) is = closed_slot cs slot is
closed_slot (Some h ∷ cs) (suc slot) is = closed_slot cs slot is

some_closed : (held : List (Option HeaderValue)) (slot : ℕ) → slice_get held slot ≡ Some None → 1 ≤ free_slots held
some_closed [] slot is = absurd cc
some_closed (None ∷ cs) slot is = omega arith
some_closed (Some h ∷ cs) zero is = absurd cc
some_closed (Some h ∷ cs) (suc slot) is = some_closed cs slot is

module _ (held : List (Option HeaderValue)) (t now : SlotTable) (slot : ℕ) (h : HeaderValue) (free : IsFirstFree slot held) (was : RepresentsSlots held t)
    (is : RepresentsSlots (with_slot slot h held) now) where
  pub slot_closed : get_or t.ids.items slot 0 ≡ 0
  slot_closed = ap (λ (ids : List ℕ). get_or ids slot 0) was.ids_are ∙ closed_slot held slot free.closed

  pub ids_set : now.ids.items ≡ set t.ids.items slot h.id
  ids_set = is.ids_are ∙ ids_with slot h held ∙ ap (λ (ids : List ℕ). set ids slot h.id) (sym was.ids_are)

  pub counts_set : now.counts.items ≡ set t.counts.items slot (count_of (Some h))
  counts_set = is.counts_are ∙ counts_with slot h held ∙ ap (λ (counts : List SlotCount). set counts slot (count_of (Some h))) (sym was.counts_are)

  -- one slot fewer is closed
  pub free_less : AreHeaders held → IsHeader h → suc (free_in now) ≡ free_in t
  free_less headers right =
      let some : 1 ≤ free_slots held = some_closed held slot free.closed in
      let with_right = subst (λ (n : ℕ). AreHeaders (with_slot n h held)) free.first (headers_with slot h held headers right) in
      ap (λ (ids : List ℕ). suc (count_by (λ id. id == 0) ids)) is.ids_are ∙ ap (λ (n : ℕ). suc (count_by (λ id. id == 0) (ids_of (with_slot n h held)))) free.first
      ∙ ap suc (zeros_free (with_slot (first_free held) h held) with_right) ∙ filled_less h held some ∙ sym (zeros_free held headers)
      ∙ ap (λ (ids : List ℕ). count_by (λ id. id == 0) ids) (sym was.ids_are)

-- A container that another seals leaves a sweep under way.
pub sealed_by_other : (held : List (Option HeaderValue)) (t now : SlotTable) (snapshot : ℕ) (s : Sweep) (slot : ℕ) (h : HeaderValue) → IsFirstFree slot held → AreHeaders held
    → IsHeader h → RepresentsSlots held t
    → RepresentsSlots (with_slot slot h held) now → RESERVE < free_in t → IsSweeping t snapshot s → IsSweeping now snapshot s
sealed_by_other held t now snapshot s slot h free headers right was is spare under =
    sealed_on t now snapshot slot h.id (count_of (Some h)) (slot_closed held t now slot h free was is) (ids_set held t now slot h free was is)
    (counts_set held t now slot h free was is) s
    (free_less held t now slot h free was is headers right) spare under
