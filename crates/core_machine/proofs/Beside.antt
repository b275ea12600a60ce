-- A container of a later id in a closed slot leaves what a collection that runs has of the table.
use Rattle.core_machine.proofs.Prelude.{◌≡◌, ◌≢◌, ℕ, ◌+◌, ◌-◌, ◌*◌, ◌<◌, ◌≤◌, Bool, List, [], ◌∷◌, length, Option, Some, None, sym, ◌∙◌, ap, refl, arith, AllByRecursion, get_or-set_other, Root, HeaderValue, StoreChange, as_many, all_first, all_second, IsFirstFree, RepresentsSlots, count_of, SlotTable, CoreSweep, IsSweeping, IsTaken, sources_before, old_not_zero, CoreCollection, CoreStage, trees_from, HasStage, IsUnderWay, Phase, IsUnderWayIn, sources_in, Marking, Recording, Sweeping, SameCollection, SameStage, SameSweep, ids_at}
use Rattle.std.proofs.Common.{get_or}
use Rattle.store_model.specs.Slots.{with_slot}
use Rattle.gc_sweep.proofs.Taken.{counts_set, ids_set, slot_closed}
use Rattle.gc_steps.specs.declared.collection.Stage.TheVariants as core
use Rattle.gc_steps.proofs.NoNearer.{old_from_same, steps_same}
use Rattle.store_machine.specs.Machine.{Collection, Stage, Sweep}

module _ (held : List (Option HeaderValue)) (t now : SlotTable) (slot : ℕ) (h : HeaderValue) (free : IsFirstFree slot held) (was : RepresentsSlots held t)
    (is : RepresentsSlots (with_slot slot h held) now) where
  -- ---- containers that were there

  module _ (k : CoreCollection) (next : t.last_id < h.id) (under : IsUnderWay t k) where
    -- as many of these are of trees
    trees_same : (from : ℕ) → trees_from k.snapshot now from ≡ trees_from k.snapshot t from
    trees_same from =
        let closed = slot_closed held t now slot h free was is in
        let within : slot < length t.ids.items = omega (arith, free.within, ap length was.ids_are, as_many held) in
        let above : k.snapshot ≤ h.id = omega (arith, under.began, next) in
        let ids = ids_set held t now slot h free was is in
        let counts = counts_set held t now slot h free was is in
        let steps = steps_same t now k.snapshot slot h.id (count_of (Some h)) closed within above ids counts 0 k refl (core.Mark 1 from) in
        let old = old_from_same t now k.snapshot slot h.id (count_of (Some h)) closed within above ids counts 0 in
        omega (arith, steps, old)

  -- ---- sources that came to their end

  module _ (snapshot : ℕ) (s : CoreSweep) (sweeping : IsSweeping t snapshot s) where
    -- they are in other slots
    id_same : (w : ℕ) → IsTaken t s.sources.items (sources_before s s.next) w → get_or now.ids.items w 0 ≡ get_or t.ids.items w 0
    id_same w taken =
        let closed = slot_closed held t now slot h free was is in
        let below : taken.number < length s.sources.items = omega (arith, taken.taken, sweeping.before) in
        let some : get_or s.sources.items taken.number 0 ≢ 0 = old_not_zero snapshot (get_or s.sources.items taken.number 0) (sweeping.left.old taken.number below) in
        let other : w ≢ slot = λ same. some (sym taken.id_is ∙ ap (λ (n : ℕ). get_or t.ids.items n 0) same ∙ closed) in
        ap (λ (ids : List ℕ). get_or ids w 0) (ids_set held t now slot h free was is) ∙ get_or-set_other t.ids.items slot w h.id 0 other

    pub ids_same : (ws : List ℕ) → AllByRecursion (IsTaken t s.sources.items (sources_before s s.next)) ws → ids_at now ws ≡ ids_at t ws
    ids_same [] all = refl
    ids_same (w ∷ ws) all =
        ap (λ (id : ℕ). id ∷ ids_at now ws) (id_same w all.0) ∙ ap (λ (ids : List ℕ). get_or t.ids.items w 0 ∷ ids) (ids_same ws all.1)

    pub same_sweep_beside : (swept : Bool) (sources : List ℕ) (changes : List StoreChange) (next : Phase) (p : Sweep) → SameSweep t swept sources changes next p s
        → SameSweep now swept sources changes next p s
    same_sweep_beside swept sources changes next p same = record {
      next_is = same.next_is;
      sources_are = same.sources_are;
      source_is = same.source_is;
      entry_is = same.entry_is;
      filled_is = same.filled_is;
      waiting_is = same.waiting_is ∙ sym (ids_same s.waiting.items (all_first (IsTaken t s.sources.items (sources_before s s.next)) s.waiting.items s.ready.items sweeping.taken));
      ready_is = same.ready_is ∙ sym (ids_same s.ready.items (all_second (IsTaken t s.sources.items (sources_before s s.next)) s.waiting.items s.ready.items sweeping.taken));
      freed_is = same.freed_is;
      copied_is = same.copied_is;
      swept_is = same.swept_is;
    }

  -- ---- the collection

  module _ (swept : Bool) (k : CoreCollection) (next : t.last_id < h.id) (under : IsUnderWay t k) (sources : List ℕ) (changes : List StoreChange) where
    stage_beside : (stage : Stage) (at : CoreStage) → HasStage t k at → SameStage t swept sources changes k.snapshot k.sweep stage at
        → SameStage now swept sources changes k.snapshot k.sweep stage at
    stage_beside (Marking left) (core.Mark level from) has same = (
      same.0 ∙ ap (λ (n : ℕ). n + (level - 1) * trees_from k.snapshot t 0) (sym (trees_same k next under from))
          ∙ ap (λ (n : ℕ). trees_from k.snapshot now from + (level - 1) * n) (sym (trees_same k next under 0)),
      same.1,
    )
    stage_beside (Marking left) (core.Filter from) has same = absurd same
    stage_beside Recording (core.Mark level from) has same = absurd same
    stage_beside Recording (core.Filter from) has same = same
    stage_beside Recording core.Select has same = same
    stage_beside (Sweeping phase p) core.Sweep has same = same_sweep_beside k.snapshot k.sweep has swept sources changes phase p same
    stage_beside other it has same = absurd same

  -- It is the machine's still, by the table with that container.
  pub same_beside : (swept : Bool) (a : Option (Collection Root)) (b : Option CoreCollection) → t.last_id < h.id → IsUnderWayIn t b → SameCollection t swept a b
      → SameCollection now swept a b
  same_beside swept None None next under same = tt
  same_beside swept None (Some k) next under same = absurd same
  same_beside swept (Some c) None next under same = absurd same
  same_beside swept (Some c) (Some k) next under same = record {
    percent_is = same.percent_is;
    snapshot_is = same.snapshot_is;
    recorded_is = same.recorded_is;
    stage_is = stage_beside swept k next under (sources_in c) c.changes c.stage k.stage under.stage_is same.stage_is;
  }
