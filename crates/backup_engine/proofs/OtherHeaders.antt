-- Another header that was read than the store has in a slot, as the collection left it.
use Rattle.backup_engine.proofs.Prelude.{◌≡◌, ◌≢◌, ℕ, Bool, true, false, List, get_or, Some, Err, refl, sym, ◌∙◌, subst, HeaderValue, Shows, DiskView, Why, Collection, Mark, Filter, SweepStage, is_old_slot, HasStage, HasNext, Store, HoldsSlot, SlotTable, StoreChange, ShownSince}
use Rattle.std.specs.Prelude.{◌&&◌}
use Rattle.base_model.specs.Checks.{passes}
use Rattle.copy_forward.specs.Headers.{IsOtherHeader, header_checks}
use Rattle.copy_forward.proofs.Tabled.{held_tabled}
use Rattle.gc_sweep.specs.declared.sweep.Next.TheVariants.{Copy}
use Rattle.gc_sweep.proofs.InSlots.{header_at, old_id}
use Rattle.store_state.specs.declared.slot_table.SlotCount.{SlotCount}
use Rattle.store_state.specs.Tables.{RepresentsSlots, count_of}
use Rattle.backup_engine.specs.AnyDisk.{HasOtherHeader, SweepsTo}

-- what a collection made of the store, and the tables of then
pub record CameTo (store : Store) (t : SlotTable) : Type 0 where
  pub changes : List StoreChange
  pub sweeps : SweepsTo store changes
  pub slots : RepresentsSlots sweeps.after.held t

same_some : (a b : SlotCount) → Some a ≡ Some b → a ≡ b
same_some a b same = cc

pub other_header : (store : Store) (t : SlotTable) (v w old new : DiskView) (slot : ℕ) (why : Why) → CameTo store t → get_or t.ids.items slot 0 ≢ 0
    → ((h : HeaderValue) → Shows old new (λ image. HoldsSlot image slot (Some h)) → ShownSince v w (λ image. HoldsSlot image slot (Some h)))
    → IsOtherHeader t old new slot why → HasOtherHeader store v w slot why
other_header store t v w old new slot why came some since other =
    let held = came.sweeps.after.held in
    let at = header_at held t came.slots slot (get_or t.ids.items slot 0) refl some in
    let tabled = held_tabled held t slot at.0 came.slots at.1.0 in
    let same : other.count ≡ count_of (Some at.0) = same_some other.count (count_of (Some at.0)) (sym other.there ∙ tabled.count_is) in
    record {
      changes = came.changes;
      sweeps = came.sweeps;
      wanted = at.0;
      stands = at.1.0;
      header = other.header;
      right = other.right;
      shown = since other.header other.shown;
      first = subst (λ (id : ℕ). passes (header_checks id (count_of (Some at.0)) other.header) ≡ Err why) tabled.id_is
          (subst (λ (c : SlotCount). passes (header_checks (get_or t.ids.items slot 0) c other.header) ≡ Err why) same other.first);
    }

-- ---- a slot that is looked at has a container

first_true : (a b : Bool) → a && b ≡ true → a ≡ true
first_true true b e = refl
first_true false b e = absurd cc

module _ (t : SlotTable) (c : Collection) where
  pub marked_some : (level slot : ℕ) → HasStage t c (Mark level slot) → get_or t.ids.items slot 0 ≢ 0
  marked_some level slot has = (old_id c.snapshot (get_or t.ids.items slot 0) (first_true (is_old_slot c.snapshot t slot) _ has.2.1)).0

  pub recorded_some : (slot : ℕ) → HasStage t c (Filter slot) → get_or t.ids.items slot 0 ≢ 0
  recorded_some slot has = (old_id c.snapshot (get_or t.ids.items slot 0) has.0.1).0

  pub copied_some : (source entry slot : ℕ) → HasStage t c SweepStage → c.sweep.next ≡ Copy source entry → get_or t.ids.items slot 0 ≡ get_or c.sweep.sources.items source 0 →
      get_or t.ids.items slot 0 ≢ 0
  copied_some source entry slot has next_is id_is =
      let at : HasNext t c.sweep (Copy source entry) = subst (HasNext t c.sweep) next_is has.next_is in
      let some : get_or c.sweep.sources.items source 0 ≢ 0 = (old_id c.snapshot (get_or c.sweep.sources.items source 0) (has.left.old source at.0)).0 in
      λ none. some (sym id_is ∙ none)
