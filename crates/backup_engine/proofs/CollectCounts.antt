-- The snapshot of a collection, how many containers it gave back and how many copies it wrote, after a step of it.
use Rattle.backup_engine.proofs.Prelude.{◌≡◌, inl, inr, ◌+◌, ℕ, List, length, Option, Some, None, refl, sym, ◌∙◌, ap, subst, arith, Kind, Segment, Collection, Stage, Mark, Filter, Select, filter_at, is_old_slot, Moment, StepsTo, phase_at, Flush, Release, End, SlotTable}
use Rattle.container_meta.specs.Segments.{Contents}
use Rattle.copy_forward.specs.declared.plan.Plan.{Plan}
use Rattle.copy_forward.specs.Copying.{PlansSource, copy_task}
use Rattle.gc_steps.specs.declared.collection.Stage.TheVariants.{Sweep}
use Rattle.gc_steps.specs.FewSources.{IsToChoose}
use Rattle.gc_steps.specs.Stages.{first_slot, mark_from}
use Rattle.gc_steps.proofs.Safe.{early_from}
use Rattle.gc_sweep.specs.declared.sweep.Next.{Next}
use Rattle.gc_sweep.specs.declared.sweep.Next.TheVariants.{Copy}
use Rattle.gc_sweep.specs.declared.sweep.Sweep.{Sweep as SweepValue}
use Rattle.gc_sweep.specs.Copying.{CopiesSource, IsFilling, TakesBy, copy_step}

-- So many sources were given back, and so many segments copied and written: of those that were copied the others are to be written. None of
-- either before it sweeps.
abbrev pub HasCounted : Stage → SweepValue → ℕ → ℕ → Type 0
HasCounted Sweep s freed copied = (s.freed ≡ freed) × (s.copied ≡ copied + length s.buffer.segments)
HasCounted stage s freed copied = (freed ≡ 0) × (copied ≡ 0)

-- how many containers a step gives back
abbrev pub freed_by : Stage → Next → SweepValue → ℕ
freed_by Sweep (Release source entry) s = length s.ready.items
freed_by stage next s = 0

-- how many copies a step writes
abbrev pub copies_by : Stage → Next → SweepValue → ℕ
copies_by Sweep (Flush source entry) s = length s.buffer.segments
copies_by stage next s = 0

-- what is filled has as many segments as there were
filling_many : (buffer filling : Contents) (kind : Kind) → IsFilling buffer kind filling → length filling.segments ≡ length buffer.segments
filling_many buffer filling kind (inl (empty, is)) = ap (λ (c : Contents). length c.segments) is ∙ sym (ap (λ (l : List Segment). length l) empty)
filling_many buffer filling kind (inr (some, is)) = ap (λ (c : Contents). length c.segments) is

-- before it sweeps nothing was
early_counted : (stage : Stage) (s : SweepValue) (freed copied : ℕ) → IsToChoose stage → freed ≡ 0 → copied ≡ 0 → HasCounted stage s freed copied
early_counted (Mark level slot) s freed copied early none_freed none_copied = (none_freed, none_copied)
early_counted (Filter slot) s freed copied early none_freed none_copied = (none_freed, none_copied)
early_counted Select s freed copied early none_freed none_copied = (none_freed, none_copied)
early_counted Sweep s freed copied early none_freed none_copied = absurd early

at_filter : (found : Option ℕ) → IsToChoose (filter_at found)
at_filter None = tt
at_filter (Some slot) = tt

module _ (old new : Moment) (freed copied : ℕ) where
  abbrev before : Collection
  before = old.collection

  abbrev after : Collection
  after = new.collection

  abbrev Counted : Stage → Next → Type 0
  Counted stage next = HasCounted after.stage after.sweep (freed + freed_by stage next before.sweep) (copied + copies_by stage next before.sweep)

  -- the sources are still to be chosen
  still_none : (stage : Stage) → after.stage ≡ stage → IsToChoose stage → freed ≡ 0 → copied ≡ 0 → HasCounted after.stage after.sweep (freed + 0) (copied + 0)
  still_none stage is early none_freed none_copied =
      early_counted after.stage after.sweep (freed + 0) (copied + 0) (subst IsToChoose (sym is) early) (omega (arith, none_freed)) (omega (arith, none_copied))

  -- it sweeps
  sweeping : (more copies : ℕ) → after.stage ≡ Sweep → after.sweep.freed ≡ freed + more → after.sweep.copied ≡ copied + copies + length after.sweep.buffer.segments
      → HasCounted after.stage after.sweep (freed + more) (copied + copies)
  sweeping more copies is freed_is copied_is = subst (λ (stage : Stage). HasCounted stage after.sweep (freed + more) (copied + copies)) (sym is) (freed_is, copied_is)

  -- a source was copied: as many more are to be written
  taken_many : (t : SlotTable) (slot source : ℕ) (found : Option Plan) (filling : Contents) (kind : Kind) → IsFilling before.sweep.buffer kind filling
      → ((plan : Plan) → found ≡ Some plan → length plan.buffer.segments ≡ length filling.segments + plan.copied) → TakesBy t slot source found before.sweep after.sweep
      → after.sweep.copied + length before.sweep.buffer.segments ≡ before.sweep.copied + length after.sweep.buffer.segments
  taken_many t slot source None filling kind fills planned takes =
      omega (arith, takes.3, ap (λ (c : Contents). length c.segments) takes.0)
  taken_many t slot source (Some plan) filling kind fills planned takes =
      omega (arith, takes.1, ap (λ (c : Contents). length c.segments) takes.0, planned plan refl, filling_many before.sweep.buffer filling kind fills)

  -- the snapshot stays
  pub snapshot_on : (stage : Stage) (next : Next) → StepsTo stage next old new → after.snapshot ≡ before.snapshot
  snapshot_on (Mark level slot) next steps = ap (λ (c : Collection). c.snapshot) steps.0.collection_is
  snapshot_on (Filter slot) next steps = ap (λ (c : Collection). c.snapshot) steps.0.collection_is
  snapshot_on Select next steps = ap (λ (c : Collection). c.snapshot) steps.0.collection_is
  snapshot_on Sweep (Copy source entry) steps = ap (λ (c : Collection). c.snapshot) steps.1
  snapshot_on Sweep (Flush source entry) steps = ap (λ (c : Collection). c.snapshot) steps.sweeps
  snapshot_on Sweep (Release source entry) steps = ap (λ (c : Collection). c.snapshot) steps.1
  snapshot_on Sweep End steps = ap (λ (c : Collection). c.snapshot) steps.0

  pub counted_on : (stage : Stage) (next : Next) → before.stage ≡ stage → before.sweep.next ≡ next → HasCounted stage before.sweep freed copied → StepsTo stage next old new →
      (phase_at stage next ≡ phase_at Sweep End → ⊥) → Counted stage next
  counted_on (Mark level slot) next is next_is counted steps other =
      still_none (mark_from before.snapshot old.tables.held level (slot + 1)) (ap (λ (c : Collection). c.stage) steps.0.collection_is)
      (early_from before.snapshot old.tables.held level (slot + 1)) counted.0 counted.1
  counted_on (Filter slot) next is next_is counted steps other =
      let found : Option ℕ = first_slot old.tables.held (is_old_slot before.snapshot old.tables.held) (slot + 1) in
      still_none (filter_at found) (ap (λ (c : Collection). c.stage) steps.0.collection_is) (at_filter found) counted.0 counted.1
  counted_on Select next is next_is counted steps other =
      let begins = steps.0.begins in
      sweeping 0 0 (ap (λ (c : Collection). c.stage) steps.0.collection_is) (omega (arith, begins.none_freed, counted.0))
      (omega (arith, begins.none_copied, counted.1, ap (λ (l : List Segment). length l) begins.empty))
  counted_on Sweep (Copy source entry) is next_is counted steps other =
      let copies = steps.0 in
      let many = taken_many old.tables.held copies.slot source copies.found copies.filling copies.kind copies.is_source.filling_is (planned_many copies) copies.takes in
      sweeping 0 0 (ap (λ (c : Collection). c.stage) steps.1 ∙ is) (omega (arith, copies.others.freed_is, counted.0)) (omega (arith, many, counted.1))
    where
      planned_by : (found : Option Plan) (copies : CopiesSource (copy_step old.tables.held before.live old.known source entry before.sweep) new.known old.disk new.disk after.sweep)
          → PlansSource (copy_task old.tables.held old.known before.live copies.slot entry copies.filling) old.disk new.disk found → (plan : Plan) → found ≡ Some plan →
          length plan.buffer.segments ≡ length copies.filling.segments + plan.copied
      planned_by None copies plans plan is = absurd (let wrong : None ≡ Some plan = is in cc)
      planned_by (Some found) copies plans plan is =
          let same : found ≡ plan = (let both : Some found ≡ Some plan = is in cc) in
          subst (λ (p : Plan). length p.buffer.segments ≡ length copies.filling.segments + p.copied) same plans.plans.1.copied_is

      planned_many : (copies : CopiesSource (copy_step old.tables.held before.live old.known source entry before.sweep) new.known old.disk new.disk after.sweep)
          → (plan : Plan) → copies.found ≡ Some plan → length plan.buffer.segments ≡ length copies.filling.segments + plan.copied
      planned_many copies = planned_by copies.found copies copies.plans
  counted_on Sweep (Flush source entry) is next_is counted steps other =
      sweeping 0 (length before.sweep.buffer.segments) (ap (λ (c : Collection). c.stage) steps.sweeps ∙ is) (omega (arith, steps.flushed.freed_is, counted.0))
      (omega (arith, steps.flushed.copied_is, counted.1, ap (λ (l : List Segment). length l) steps.flushed.emptied))
  counted_on Sweep (Release source entry) is next_is counted steps other =
      sweeping (length before.sweep.ready.items) 0 (ap (λ (c : Collection). c.stage) steps.1 ∙ is) (omega (arith, steps.0.freed_is, counted.0))
      (omega (arith, steps.0.copied_is, counted.1, ap (λ (c : Contents). length c.segments) steps.0.buffer_is))
  counted_on Sweep End is next_is counted steps other = absurd (other refl)
