-- A collection that runs in a core is the machine's, and its next step is of the same kind.
use Rattle.core_machine.proofs.Prelude.{◌≡◌, ℕ, ◌<◌, ◌≤◌, Bool, List, length, Option, Some, None, refl, sym, ◌∙◌, ap, subst, le-ltb, lt-ltb, Root, HeaderValue, ContainerLiveness, CoreCollection, CoreStage, phase_at, HasStage, IsUnderWay, Phase, Store, AreHeaders, RepresentsSlots, SlotTable, IsCollecting, ids_before, phase_by, sources_in, Marking, Recording, Sweeping, SameCollection, SameRun, SameStage}
use Rattle.std.specs.Prelude.{if◌then◌else◌, nat_lt}
use Rattle.gc_steps.specs.declared.collection.Stage.TheVariants as core
use Rattle.refusals.specs.declared.refusal.Phase.TheVariants as phases
use Rattle.store_machine.specs.Machine.{Collection, Stage}
use Rattle.core_machine.proofs.OldIds.{as_many_recorded, fewer_recorded}

-- ---- whether one runs

pub none_runs : (t : SlotTable) (swept : Bool) (a : Option (Collection Root)) (b : Option CoreCollection) → SameCollection t swept a b → b ≡ None → a ≡ None
none_runs t swept None b same none = refl
none_runs t swept (Some c) b same none = absurd (subst (SameCollection t swept (Some c)) none same)

-- the machine's, where one runs in the core
pub record Runs (t : SlotTable) (swept : Bool) (a : Option (Collection Root)) (k : CoreCollection) : Type 0 where
  pub c : Collection Root
  pub ran : a ≡ Some c
  pub same : SameRun t swept c k

pub one_runs : (t : SlotTable) (swept : Bool) (a : Option (Collection Root)) (b : Option CoreCollection) (k : CoreCollection) → SameCollection t swept a b → b ≡ Some k
    → Runs t swept a k
one_runs t swept None b k same is = absurd (subst (SameCollection t swept None) is same)
one_runs t swept (Some c) b k same is = record { c = c; ran = refl; same = subst (SameCollection t swept (Some c)) is same }

-- ---- its next step

module _ (held : List (Option HeaderValue)) (t : SlotTable) (swept : Bool) (c : Collection Root) (k : CoreCollection) (right : AreHeaders held) (slots : RepresentsSlots held t)
    (same : SameRun t swept c k) where
  more_left : length k.liveness < length (ids_before k.snapshot held) → phase_by held c Recording ≡ phases.Filter
  more_left few =
      ap (λ (n : ℕ). if nat_lt (length c.recorded) (length (ids_before n held)) then phases.Filter else phases.Select) same.snapshot_is
      ∙ ap (λ (r : List ContainerLiveness). if nat_lt (length r) (length (ids_before k.snapshot held)) then phases.Filter else phases.Select) same.recorded_is
      ∙ ap (λ (b : Bool). if b then phases.Filter else phases.Select) (lt-ltb (length k.liveness) (length (ids_before k.snapshot held)) few)

  none_left : length (ids_before k.snapshot held) ≤ length k.liveness → phase_by held c Recording ≡ phases.Select
  none_left all =
      ap (λ (n : ℕ). if nat_lt (length c.recorded) (length (ids_before n held)) then phases.Filter else phases.Select) same.snapshot_is
      ∙ ap (λ (r : List ContainerLiveness). if nat_lt (length r) (length (ids_before k.snapshot held)) then phases.Filter else phases.Select) same.recorded_is
      ∙ ap (λ (b : Bool). if b then phases.Filter else phases.Select) (le-ltb (length k.liveness) (length (ids_before k.snapshot held)) all)

  by_stage : (stage : Stage) (at : CoreStage) → HasStage t k at → SameStage t swept (sources_in c) c.changes k.snapshot k.sweep stage at
      → phase_by held c stage ≡ phase_at at k.sweep.next
  by_stage (Marking left) (core.Mark level from) has is = refl
  by_stage Recording (core.Filter from) has is = more_left (fewer_recorded held t k right slots from has.0.0 has.0.1 has.1)
  by_stage Recording core.Select has is = none_left (as_many_recorded held t k right slots has.0)
  by_stage (Sweeping next p) core.Sweep has is = is.next_is
  by_stage other it has is = absurd is

  pub phase_so : IsUnderWay t k → phase_by held c c.stage ≡ phase_at k.stage k.sweep.next
  phase_so under = by_stage c.stage k.stage under.stage_is same.stage_is

pub is_collecting : (store : Store) (t : SlotTable) (swept : Bool) (a : Option (Collection Root)) (k : CoreCollection) (phase : Phase) → AreHeaders store.held
    → RepresentsSlots store.held t → IsUnderWay t k → Runs t swept a k → phase ≡ phase_at k.stage k.sweep.next → IsCollecting phase store a
is_collecting store t swept a k phase right slots under runs is =
    subst (IsCollecting phase store) (sym runs.ran) (is ∙ sym (phase_so store.held t swept runs.c k right slots runs.same under))
