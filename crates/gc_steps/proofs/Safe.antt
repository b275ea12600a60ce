-- A collection that is safe: as it begins, and after the steps of others.
use Rattle.gc_steps.proofs.Prelude.{◌≡◌, ◌^◌, ◌+◌, ◌-◌, min, ℕ, zero, suc, List, Option, Some, None, refl, sym, subst, MOST_LEVEL, Part, Place, PlaceMap, LiveKeys, child_keys, All, node_key, Files, Store, IsStoreOf, CoreInvariant, Represents, SlotTable, Tables, Collection, Stage, Mark, Filter, Select, IsToChoose, IsLive, MarksAreClosed, NewAreLive, WasScanned, IsRoot, IsSafe, IsSafeAt, filter_at, filter_from, first_slot, is_old_slot, is_tree_slot, mark_at, mark_from, mark_level, mark_on, HoldsAt, SweepIsSafe}
use Rattle.std.proofs.Common.{◌↔◌}
use Rattle.gc_enumerate.specs.Live.{IsLiveAt}
use Rattle.merkle_file.specs.Node.{Contents}
use Rattle.gc_steps.specs.declared.collection.Stage.TheVariants.{Sweep}
use Rattle.gc_steps.proofs.Carried.{KeepsBoth}
use Rattle.gc_steps.proofs.MarkedAll.{marked_all}
use Rattle.gc_steps.proofs.Started.{started}

-- ---- which stages come while it marks, and right after it

module _ (snapshot : ℕ) (t : SlotTable) where
  early_found : (found : Option ℕ) → IsToChoose (filter_at found)
  early_found None = tt
  early_found (Some slot) = tt

  early_filter : (from : ℕ) → IsToChoose (filter_from snapshot t from)
  early_filter from = early_found (first_slot t (is_old_slot snapshot t) from)

  early_at : (level : ℕ) (found : Option ℕ) → IsToChoose (mark_at snapshot t level found)
  early_at level None = early_filter 0
  early_at level (Some slot) = tt

  pub early_level : (level : ℕ) → IsToChoose (mark_level snapshot t level)
  early_level zero = early_filter 0
  early_level (suc level) = early_at (suc level) (first_slot t (is_tree_slot snapshot t) 0)

  early_on : (level : ℕ) (found : Option ℕ) → IsToChoose (mark_on snapshot t level found)
  early_on level None = early_level (level - 1)
  early_on level (Some slot) = tt

  pub early_from : (level from : ℕ) → IsToChoose (mark_from snapshot t level from)
  early_from level from = early_on level (first_slot t (is_tree_slot snapshot t) from)

-- ---- what is safe at a stage

module _ (index : PlaceMap) (store : Store) (parts : List Part) (image : List ℕ) where
  -- closed marks, while it marks and right after it
  module _ (c : Collection) (marks : MarksAreClosed index store parts image c) where
    over : ((level slot : ℕ) → WasScanned c.stage level slot) → HoldsAt c.stage index store.held image c → SweepIsSafe index store parts image c
    over scanned sweep = marked_all index store parts image c scanned sweep marks

    marks_at : (stage : Stage) → c.stage ≡ stage → IsToChoose stage → IsSafeAt stage index store parts image c
    marks_at (Mark level slot) is early = marks
    marks_at (Filter slot) is early =
        over (λ l s. subst (λ (x : Stage). WasScanned x l s) (sym is) tt) (subst (λ (x : Stage). HoldsAt x index store.held image c) (sym is) tt)
    marks_at Select is early = over (λ l s. subst (λ (x : Stage). WasScanned x l s) (sym is) tt) (subst (λ (x : Stage). HoldsAt x index store.held image c) (sym is) tt)
    marks_at Sweep is early = absurd early

    pub marks_safe : (stage : Stage) → c.stage ≡ stage → IsToChoose stage → IsSafe index store parts image c
    marks_safe stage is early = marks_at c.stage refl (subst IsToChoose (sym is) early)

  -- a safe sweep, from filtering on
  sweep_at : (c : Collection) (stage : Stage) → ((level slot : ℕ) → stage ≡ Mark level slot → ⊥) → SweepIsSafe index store parts image c → IsSafeAt stage index store parts image c
  sweep_at c (Mark level slot) none safe = absurd (none level slot refl)
  sweep_at c other none safe = safe

  pub sweep_safe : (c : Collection) → ((level slot : ℕ) → c.stage ≡ Mark level slot → ⊥) → SweepIsSafe index store parts image c → IsSafe index store parts image c
  sweep_safe c none safe = sweep_at c c.stage none safe

  -- another stage, of the same live keys and the same snapshot
  pub restaged : (c after : Collection) → after.live ≡ c.live → after.snapshot ≡ c.snapshot → HoldsAt after.stage index store.held image after
      → SweepIsSafe index store parts image c
      → SweepIsSafe index store parts image after
  restaged c after live snapshot sweep safe = record {
    roots_are_live = λ key root. on key (safe.roots_are_live key root);
    live_is_closed = λ n copy holds is. all_on n (safe.live_is_closed n copy holds (subst (λ (l : LiveKeys). IsLive index l (node_key n)) live is));
    sweep_holds = sweep;
    new_are_live = subst (λ (l : LiveKeys). NewAreLive index l after.snapshot store.held) (sym live)
        (subst (λ (s : ℕ). NewAreLive index c.live s store.held) (sym snapshot) safe.new_are_live);
  }
    where
      on : (key : List ℕ) → IsLive index c.live key → IsLive index after.live key
      on key is = subst (λ (l : LiveKeys). IsLive index l key) (sym live) is

      all_on : (n : Contents) → All (IsLive index c.live) (child_keys n) → All (IsLive index after.live) (child_keys n)
      all_on n all = subst (λ (l : LiveKeys). All (IsLive index l) (child_keys n)) (sym live) all

  -- As it begins, by what `start` says, a collection is safe.
  pub start_safe : (files : Files) → CoreInvariant index store files parts image → IsStoreOf store files image → (t : Tables) (c : Collection) → Represents store (Some index) t
      → c.snapshot ≡ min (t.held.last_id + 1) (2 ^ 64 - 1) → c.stage ≡ mark_level c.snapshot t.held MOST_LEVEL
      → ((key : List ℕ) (place : Place) → IsLiveAt c.live key place ↔ IsRoot t.names parts key) → IsSafe index store parts image c
  start_safe files core holds t c represents snapshot stage live =
      marks_safe c (started index store files parts image core holds (Some index) t c represents snapshot stage live) (mark_level c.snapshot t.held MOST_LEVEL) stage
      (early_level c.snapshot t.held MOST_LEVEL)

-- What leaves both invariants leaves it safe, where the stage stays.
pub others_safe : (index later : PlaceMap) (s t : Store) (before after : List Part) (old new : List ℕ) (c d : Collection) → KeepsBoth index later s t before after old new c d
    → d.stage ≡ c.stage
    → IsSafe index s before old c → IsSafe later t after new d
others_safe index later s t before after old new c d keeps same safe = subst (λ (x : Stage). IsSafeAt x later t after new d) (sym same) (by_stage c.stage safe)
  where
    by_stage : (stage : Stage) → IsSafeAt stage index s before old c → IsSafeAt stage later t after new d
    by_stage (Mark level slot) marks = keeps.0 marks
    by_stage other sweep = keeps.1 sweep
