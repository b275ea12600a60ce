-- After each step that did not stop it a core writes nothing twice, if it did not before.
use Rattle.core_machine.proofs.Prelude.{◌≡◌, inl, inr, ℕ, List, Option, Some, None, option_map, Result, Ok, Err, refl, sym, ◌∙◌, ap, subst, Bool, Root, Answer, StepValue, CoreCollection, Refusal, ByteSet, SlotTable, Collects, MarksIn, StartRow, Row, Steps, FileEvent, IsNoGcStep, CoreState, running_step, same_some, FileMachine, forget_collection, RootMachine, SameCollection, WroteOnce}
use Rattle.actor_parts.specs.declared.step.Answer.TheVariants as answers
use Rattle.actor_parts.specs.StepValue as steps
use Rattle.refusals.specs.declared.refusal.Refusal.TheVariants as refusals
use Rattle.store_core.proofs.AnySteps.{gc_or_not}
use Rattle.store_machine.specs.Machine.{Collection}
use Rattle.core_machine.proofs.FileKept.{comes, next}
use Rattle.core_machine.proofs.FileSteps.{StepsTo}
use Rattle.core_machine.proofs.FileSwept.{swept_wrote}
use Rattle.core_machine.proofs.FileWritten.{SweepKept, same_sweep_kept, wrote_still}
use Rattle.core_machine.proofs.LivesOn.{StandOn, stands_by}

-- ---- the core's collection

-- one runs in the core where one does in the machine
core_runs : (t : SlotTable) (swept : Bool) (c : Collection Root) (o : Option CoreCollection) → SameCollection t swept (Some c) o → (b : CoreCollection) × (o ≡ Some b)
core_runs t swept c None same = absurd same
core_runs t swept c (Some b) same = (b, refl)

module _ (old new : CoreState) (b a : CoreCollection) (ran : old.collection ≡ Some b) (runs : new.collection ≡ Some a) where
  unchanged : new.collection ≡ old.collection → SweepKept b a
  unchanged same = same_sweep_kept b a (same_some a b new.collection runs (same ∙ ran))

  -- keys that become live change nothing else
  marked : (P : List ℕ → Type 0) (was : Option CoreCollection) → was ≡ Some b → MarksIn P was new.collection → SweepKept b a
  marked P None is marks = absurd cc
  marked P (Some b') is marks =
      let same : a ≡ record b' { live = marks.0 } = same_some a (record b' { live = marks.0 }) new.collection runs marks.1.0 in
      let first : b' ≡ b = same_some b' b (Some b') refl is in
      subst (λ (z : CoreCollection). SweepKept z a) first
      (ap (λ (z : CoreCollection). z.snapshot) same, ap (λ (z : CoreCollection). z.sweep) same)

  started : (percent : ℕ) (answer : Result Answer Refusal) → StartRow percent answer old new → SweepKept b a
  started percent (Ok (answers.Started snapshot)) row = absurd (let wrong : None ≡ Some b = sym row.0.none_ran ∙ ran in cc)
  started percent (Err (refusals.Collecting phase)) row = unchanged row.1
  started percent (Err refusal) row = unchanged row.none_runs
  started percent answer row = absurd row

  goes_on : (step : StepValue) (actor : ℕ) (answer : Result Answer Refusal) (buf : List ℕ) → IsNoGcStep step
      → Row step actor answer buf old new → Collects step answer old new → SweepKept b a
  goes_on (steps.Claim seg) actor answer buf other row collects = marked _ old.collection ran collects
  goes_on (steps.Seal filled) actor answer buf other row collects = marked _ old.collection ran collects
  goes_on (steps.GcStart percent) actor answer buf other row collects = started percent answer row
  goes_on steps.GcStep actor answer buf other row collects = absurd other
  goes_on step actor answer buf other row collects = unchanged collects

-- ---- a step

module _ (C : Type 0) (state : C → CoreState) (among : ByteSet) (f : FileEvent) (old new : C) (m n : FileMachine) (r t : RootMachine) (to : StepsTo C state among f old new m n r t)
    (stays : (state new).stop ≡ None) (wrote : WroteOnce m (state old)) where
  abbrev c : CoreState
  c = state old

  abbrev d : CoreState
  d = state new

  made : Steps f.event c d
  made = running_step c d f.event to.steps.goes to.steps.step.made

  -- where one runs in the machine, one does in the core
  runs_there : (x : Collection (List ℕ)) → m.collection ≡ Some x → (b : CoreCollection) × (c.collection ≡ Some b)
  runs_there x ran =
      core_runs c.tables.held r.swept (forget_collection x) c.collection
      (subst (λ (o : Option (Collection Root)). SameCollection c.tables.held r.swept o c.collection)
      (to.steps.forgets.collection ∙ ap (option_map forget_collection) ran) to.steps.machine.collection)

  kept_wrote : IsNoGcStep f.event.step → WroteOnce n d
  kept_wrote other =
      wrote_still m n c d
      (subst (StandOn m.store) (comes to other stays).store (stands_by m.store (next to other stays).next.store f.event.step f.event.answer (next to other stays).next.chain))
      (comes to other stays).written
      (λ x ran a runs. let b = runs_there x ran in
      (b.0, b.1, goes_on c d b.0 a b.1 runs f.event.step f.event.actor f.event.answer f.event.buf other made.made.row made.collects)) wrote

  pub wrote_on : WroteOnce n d
  wrote_on = elim (gc_or_not f.event.step) [
    | inl is ↦ swept_wrote C state among f old new m n r t to is stays wrote
    | inr other ↦ kept_wrote other
  ]
