-- A collection stays under way from step to step.
use Rattle.gc_steps.proofs.Prelude.{◌≡◌, ℕ, zero, suc, ◌+◌, ◌-◌, ◌<◌, ◌≤◌, Bool, true, false, cond, List, [], ◌∷◌, ◌++◌, length, take, Option, Some, None, Vec, Global, refl, sym, ◌∙◌, ap, subst, arith, nat_eq, if◌then◌else◌, slice_get, AllByRecursion, append-nil, map_push, take_all, take_more, PlaceMap, HeaderValue, MOST_LEVEL, LiveKeys, ContainerLiveness, DifferentIds, ids_held, Runs, SlotCount, SlotTable, Tables, Collection, Stage, Mark, Filter, Select, Chooses, recorded, recorded_by, IsSweeping, is_old, first_slot, filter_at, filter_from, is_old_slot, is_tree_slot, mark_at, mark_from, mark_level, mark_on, HasStage, IsRecordedTo, IsUnderWay, old_ids}
use Rattle.std.proofs.Common.{get_or}
use Rattle.std.specs.List.{IsDistinct}
use Rattle.std.proofs.lemmas.Bool.Decides.{Decides-eqb}
use Rattle.std.proofs.lemmas.List.Elements.{filter-append}
use Rattle.gc_select.specs.Selecting.{ids_of}
use Rattle.store_model.specs.Slots.{IsUnusedId}
use Rattle.gc_steps.specs.declared.collection.Stage.TheVariants.{Sweep}
use Rattle.gc_steps.specs.Stages.{first_from}
use Rattle.gc_steps.specs.UnderWay.{HasChosen, HasRoom}

pub at_stage : (t : SlotTable) (c : Collection) (stage : Stage) → IsUnderWay t c → c.stage ≡ stage → HasStage t c stage
at_stage t c stage under is = subst (HasStage t c) is under.stage_is

-- ---- the ids of containers that were there

module _ (snapshot : ℕ) where
  -- no container of an id that none has
  unused_old : (id : ℕ) (held : List (Option HeaderValue)) → IsUnusedId id held → AllByRecursion (λ other. nat_eq id other ≡ false) (old_ids snapshot (ids_held held))
  unused_old id [] unused = tt
  unused_old id (None ∷ cs) unused = unused_old id cs unused
  unused_old id (Some h ∷ cs) (other, unused) =
      elim (is_old snapshot h.id) as (λ b. AllByRecursion (λ n. nat_eq id n ≡ false) (cond b (h.id ∷ old_ids snapshot (ids_held cs)) (old_ids snapshot (ids_held cs)))) [
        | true ↦ (differ (nat_eq id h.id) refl, unused_old id cs unused)
        | false ↦ unused_old id cs unused
      ]
    where
      differ : (b : Bool) → nat_eq id h.id ≡ b → b ≡ false
      differ true same = absurd (other (sym ((Decides-eqb id h.id).0 same)))
      differ false same = refl

  held_apart : (held : List (Option HeaderValue)) → DifferentIds held → IsDistinct nat_eq (old_ids snapshot (ids_held held))
  unfolding IsDistinct
  held_apart [] different = tt
  held_apart (None ∷ cs) different = held_apart cs different
  held_apart (Some h ∷ cs) (unused, different) =
      elim (is_old snapshot h.id) as (λ b. IsDistinct nat_eq (cond b (h.id ∷ old_ids snapshot (ids_held cs)) (old_ids snapshot (ids_held cs)))) [
        | true ↦ (unused_old h.id cs unused, held_apart cs different)
        | false ↦ held_apart cs different
      ]

  pub ids_apart : (size : ℕ) (known : Option PlaceMap) (t : Tables) → Runs size known t → IsDistinct nat_eq (old_ids snapshot t.held.ids.items)
  ids_apart size known t runs = subst (λ (ids : List ℕ). IsDistinct nat_eq (old_ids snapshot ids)) (sym runs.represents.slots_hold.ids_are)
      (held_apart runs.store.held runs.valid.different)

  module _ (ids : List ℕ) where
    -- those in the slots before one, and in this slot
    one_more : (slot : ℕ) → slot < length ids → old_ids snapshot (take (slot + 1) ids) ≡ old_ids snapshot (take slot ids) ++ old_ids snapshot (get_or ids slot 0 ∷ [])
    one_more slot within = ap (old_ids snapshot) (take_more ids slot 0 within) ∙ filter-append (is_old snapshot) (take slot ids) (get_or ids slot 0 ∷ [])

    more_old : (slot : ℕ) → slot < length ids → is_old snapshot (get_or ids slot 0) ≡ true
        → old_ids snapshot (take (slot + 1) ids) ≡ old_ids snapshot (take slot ids) ++ get_or ids slot 0 ∷ []
    more_old slot within old = one_more slot within ∙ ap (λ b. old_ids snapshot (take slot ids) ++ cond b (get_or ids slot 0 ∷ []) []) old

    more_new : (slot : ℕ) → slot < length ids → is_old snapshot (get_or ids slot 0) ≡ false → old_ids snapshot (take (slot + 1) ids) ≡ old_ids snapshot (take slot ids)
    more_new slot within new = one_more slot within ∙ ap (λ b. old_ids snapshot (take slot ids) ++ cond b (get_or ids slot 0 ∷ []) []) new
        ∙ append-nil (old_ids snapshot (take slot ids))

    -- before the first from one on there are no others
    abbrev Passed : ℕ → Option ℕ → Type 0
    Passed from None = old_ids snapshot ids ≡ old_ids snapshot (take from ids)
    Passed from (Some slot) = (slot < length ids) × (is_old snapshot (get_or ids slot 0) ≡ true) × (old_ids snapshot (take slot ids) ≡ old_ids snapshot (take from ids))

    passed_on : (from : ℕ) (found : Option ℕ) → old_ids snapshot (take (from + 1) ids) ≡ old_ids snapshot (take from ids) → Passed (from + 1) found → Passed from found
    passed_on from None same passed = passed ∙ same
    passed_on from (Some slot) same passed = (passed.0, passed.1, passed.2 ∙ same)

    first_passed : (from count : ℕ) → from + count ≡ length ids → Passed from (first_from (λ slot. is_old snapshot (get_or ids slot 0)) from count)
    unfolding first_from
    first_passed from zero ends = ap (old_ids snapshot) (sym (take_all from ids (omega (arith, ends))))
    first_passed from (suc count) ends =
        elim (is_old snapshot (get_or ids from 0)) as
        (λ b. is_old snapshot (get_or ids from 0) ≡ b → Passed from (if b then Some from else first_from (λ slot. is_old snapshot (get_or ids slot 0)) (from + 1) count)) [
          | true ↦ λ old. (omega (arith, ends), old, refl)
          | false ↦ λ new. passed_on from (first_from (λ slot. is_old snapshot (get_or ids slot 0)) (from + 1) count) (more_new from (omega (arith, ends)) new)
              (first_passed (from + 1) count (omega (arith, ends)))
        ] refl

-- the first that passes a test passes it
abbrev Found : (ℕ → Bool) → ℕ → Option ℕ → Type 0
Found test end None = Unit {0}
Found test end (Some slot) = (slot < end) × (test slot ≡ true)

first_found : (test : ℕ → Bool) (from count end : ℕ) → from + count ≡ end → Found test end (first_from test from count)
unfolding first_from
first_found test from zero end ends = tt
first_found test from (suc count) end ends =
    elim (test from) as (λ b. test from ≡ b → Found test end (if b then Some from else first_from test (from + 1) count)) [
      | true ↦ λ passes. (omega (arith, ends), passes)
      | false ↦ λ fails. first_found test (from + 1) count end (omega (arith, ends))
    ] refl

-- ---- what comes next

module _ (t : SlotTable) (c : Collection) where
  stage_filter : (from : ℕ) → from ≤ length t.ids.items → IsRecordedTo t c from → HasRoom t → HasStage t c (filter_from c.snapshot t from)
  stage_filter from within recorded none =
      by_found (first_slot t (is_old_slot c.snapshot t) from) (first_passed c.snapshot t.ids.items from (length t.ids.items - from) (omega (arith, within)))
    where
      by_found : (found : Option ℕ) → Passed c.snapshot t.ids.items from found → HasStage t c (filter_at found)
      by_found None passed = (recorded ∙ sym passed ∙ ap (old_ids c.snapshot) (sym (take_all (length t.ids.items) t.ids.items (omega arith))), none)
      by_found (Some slot) passed = ((passed.0, passed.1), recorded ∙ sym passed.2, none)

  stage_level : (level : ℕ) → level ≤ MOST_LEVEL → c.liveness ≡ [] → HasRoom t → HasStage t c (mark_level c.snapshot t level)
  stage_level zero most nothing none = stage_filter 0 (omega arith) (ap ids_of nothing) none
  stage_level (suc level) most nothing none =
      by_found (first_slot t (is_tree_slot c.snapshot t) 0) (first_found (is_tree_slot c.snapshot t) 0 (length t.ids.items - 0) (length t.ids.items) (omega arith))
    where
      by_found : (found : Option ℕ) → Found (is_tree_slot c.snapshot t) (length t.ids.items) found → HasStage t c (mark_at c.snapshot t (suc level) found)
      by_found None is = stage_filter 0 (omega arith) (ap ids_of nothing) none
      by_found (Some slot) is = (omega arith, most, is, nothing, none)

  stage_mark : (level from : ℕ) → 1 ≤ level → level ≤ MOST_LEVEL → from ≤ length t.ids.items → c.liveness ≡ [] → HasRoom t → HasStage t c (mark_from c.snapshot t level from)
  stage_mark level from least most within nothing none =
      by_found (first_slot t (is_tree_slot c.snapshot t) from)
      (first_found (is_tree_slot c.snapshot t) from (length t.ids.items - from) (length t.ids.items) (omega (arith, within)))
    where
      by_found : (found : Option ℕ) → Found (is_tree_slot c.snapshot t) (length t.ids.items) found → HasStage t c (mark_on c.snapshot t level found)
      by_found None is = stage_level (level - 1) (omega (arith, most)) nothing none
      by_found (Some slot) is = (least, most, is, nothing, none)

-- no sources are chosen before it sweeps
module _ (c : Collection) where
  filter_chose : (found : Option ℕ) → HasChosen (filter_at found) c
  filter_chose None = tt
  filter_chose (Some slot) = tt

  level_chose : (t : SlotTable) (level : ℕ) → HasChosen (mark_level c.snapshot t level) c
  level_chose t zero = filter_chose (first_slot t (is_old_slot c.snapshot t) 0)
  level_chose t (suc level) = by_found (first_slot t (is_tree_slot c.snapshot t) 0)
    where
      by_found : (found : Option ℕ) → HasChosen (mark_at c.snapshot t (suc level) found) c
      by_found None = filter_chose (first_slot t (is_old_slot c.snapshot t) 0)
      by_found (Some slot) = tt

  mark_chose : (t : SlotTable) (level from : ℕ) → HasChosen (mark_from c.snapshot t level from) c
  mark_chose t level from = by_found (first_slot t (is_tree_slot c.snapshot t) from)
    where
      by_found : (found : Option ℕ) → HasChosen (mark_on c.snapshot t level found) c
      by_found None = level_chose t (level - 1)
      by_found (Some slot) = tt

-- ---- the steps

pub started : (size : ℕ) (known : Option PlaceMap) (t : Tables) (c : Collection) → Runs size known t → c.snapshot ≤ t.held.last_id + 1 → c.liveness ≡ [] → HasRoom t.held
    → c.stage ≡ mark_level c.snapshot t.held MOST_LEVEL → IsUnderWay t.held c
started size known t c runs began nothing none is = record {
  began = began;
  ids_differ = ids_apart c.snapshot size known t runs;
  stage_is = subst (HasStage t.held c) (sym is) (stage_level t.held c MOST_LEVEL (omega arith) nothing none);
  sources_are = subst (λ (s : Stage). HasChosen s c) (sym is) (level_chose c t.held MOST_LEVEL);
}

module _ (t : SlotTable) (c : Collection) (under : IsUnderWay t c) where
  -- as it was, but for its stage, and what that says
  goes_on : (after : Collection) → after.snapshot ≡ c.snapshot → HasStage t after after.stage → HasChosen after.stage after → IsUnderWay t after
  goes_on after same is chose = record {
    began = subst (λ (n : ℕ). n ≤ t.last_id + 1) (sym same) under.began;
    ids_differ = subst (λ (n : ℕ). IsDistinct nat_eq (old_ids n t.ids.items)) (sym same) under.ids_differ;
    stage_is = is;
    sources_are = chose;
  }

  pub marked : (after : Collection) (level slot : ℕ) → c.stage ≡ Mark level slot → after ≡ record c { live = after.live; stage = mark_from c.snapshot t level (slot + 1) }
      → IsUnderWay t after
  marked after level slot at is =
      let was = at_stage t c (Mark level slot) under at in
      let new : Collection = record c { live = after.live; stage = mark_from c.snapshot t level (slot + 1) } in
      subst (IsUnderWay t) (sym is) (goes_on new refl (stage_mark t new level (slot + 1) was.0 was.1 (omega (arith, was.2.0)) was.3 was.4) (mark_chose new t level (slot + 1)))

  recorded_id : (id live : ℕ) (found : Option SlotCount) → (recorded_by id found live).id ≡ id
  recorded_id id live None = refl
  recorded_id id live (Some count) = refl

  pub recorded_on : (after : Collection) (slot live : ℕ) → c.stage ≡ Filter slot
      → after ≡ record c { liveness = c.liveness ++ recorded t slot live ∷ []; stage = filter_from c.snapshot t (slot + 1) } → IsUnderWay t after
  recorded_on after slot live at is =
      let was = at_stage t c (Filter slot) under at in
      let new : Collection = record c { liveness = c.liveness ++ recorded t slot live ∷ []; stage = filter_from c.snapshot t (slot + 1) } in
      let all : IsRecordedTo t new (slot + 1) =
      map_push (λ (x : ContainerLiveness). x.id) c.liveness (recorded t slot live)
      ∙ ap (λ (id : ℕ). ids_of c.liveness ++ id ∷ []) (recorded_id (get_or t.ids.items slot 0) live (slice_get t.counts.items slot))
      ∙ ap (λ (ids : List ℕ). ids ++ get_or t.ids.items slot 0 ∷ []) was.1 ∙ sym (more_old c.snapshot t.ids.items slot was.0.0 was.0.1) in
      subst (IsUnderWay t) (sym is)
      (goes_on new refl (stage_filter t new (slot + 1) (omega (arith, was.0.0)) all was.2) (filter_chose new (first_slot t (is_old_slot c.snapshot t) (slot + 1))))

  -- the sources are chosen, and their sweep is under way
  pub chosen : (after : Collection) → c.stage ≡ Select → Chooses t c after → IsSweeping t c.snapshot after.sweep → IsUnderWay t after
  chosen after at chooses sweeping =
      let new : Collection = record c { stage = Sweep; sweep = after.sweep } in
      subst (IsUnderWay t) (sym chooses.collection_is) (goes_on new refl sweeping chooses.sources_are)

-- ---- keys become live

pub live_on : (t : SlotTable) (c : Collection) (live : LiveKeys) → IsUnderWay t c → IsUnderWay t (record c { live = live })
live_on t c live under = record { began = under.began; ids_differ = under.ids_differ; stage_is = by_stage c.stage under.stage_is; sources_are = chose c.stage under.sources_are }
  where
    chose : (stage : Stage) → HasChosen stage c → HasChosen stage (record c { live = live })
    chose (Mark level slot) was = was
    chose other was = was

    by_stage : (stage : Stage) → HasStage t c stage → HasStage t (record c { live = live }) stage
    by_stage (Mark level slot) was = was
    by_stage other was = was

-- ---- the sweep goes on

-- by tables that run, of which no less is the last id; the sources stay
pub swept_on : (size : ℕ) (known : Option PlaceMap) (t : SlotTable) (now : Tables) (c after : Collection) → Runs size known now → t.last_id ≤ now.held.last_id → IsUnderWay t c
    → c.stage ≡ Sweep
    → after ≡ record c { sweep = after.sweep } → after.sweep.sources ≡ c.sweep.sources → IsSweeping now.held c.snapshot after.sweep → IsUnderWay now.held after
swept_on size known t now c after runs last under stage is sources sweeping =
    let next : Collection = record c { sweep = after.sweep } in
    subst (IsUnderWay now.held) (sym is) (record {
      began = omega (arith, under.began, last);
      ids_differ = ids_apart c.snapshot size known now runs;
      stage_is = subst (HasStage now.held next) (sym stage) sweeping;
      sources_are = subst (λ (s : Stage). HasChosen s next) (sym stage)
          (ap (λ (v : Vec ℕ Global). v.items) sources ∙ subst (λ (s : Stage). HasChosen s c) stage under.sources_are);
    })

-- tables run whatever the index has
pub runs_alone : (size : ℕ) (known : Option PlaceMap) (t : Tables) → Runs size known t → Runs size None t
runs_alone size known t runs = record {
  store = runs.store;
  represents = record {
    slots_are = runs.represents.slots_are;
    names_are = runs.represents.names_are;
    slots_hold = runs.represents.slots_hold;
    index_is_newest = λ index is. absurd cc;
  };
  valid = runs.valid;
  has_free = runs.has_free;
}
