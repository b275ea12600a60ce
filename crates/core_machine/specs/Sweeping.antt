-- What a step of a collection makes of the machine, by what it is of the core: what it writes, gives back and forgets.
use Rattle.std.specs.Prelude.{◌≡◌, ℕ, suc, List, [], ◌∷◌, ◌++◌, map, Option, Some, None, Result, Ok, Err}
use Rattle.copy_forward.specs.declared.plan.Plan.{Plan}
use Rattle.disk_format.specs.Cells.{Root}
use Rattle.merkle_file.specs.declared.top.Top.{Top}
use Rattle.gc_sweep.specs.declared.sweep.Next.TheVariants as nexts
use Rattle.gc_sweep.specs.declared.sweep.Sweep.{Sweep as CoreSweep}
use Rattle.gc_sweep.specs.Copying.{CopiesSource, copy_step}
use Rattle.gc_steps.specs.declared.collection.Collection.{Collection as CoreCollection}
use Rattle.gc_steps.specs.Stepping.{Moment, phase_at}
use Rattle.refusals.specs.declared.refusal.Phase.{Phase}
use Rattle.refusals.specs.declared.refusal.Phase.TheVariants as phases
use Rattle.refusals.specs.declared.refusal.Refusal.{Refusal}
use Rattle.refusals.specs.declared.refusal.Refusal.TheVariants.{DiskWrite}
use Rattle.actor_parts.specs.declared.step.Answer.{Answer}
use Rattle.actor_parts.specs.declared.step.Answer.TheVariants as answers
use Rattle.actor_parts.specs.StepValue as steps
use Rattle.actor_parts.specs.StepValue.{StepValue}
use Rattle.store_model.specs.Image.{Store}
use Rattle.store_model.specs.Steps.{FlushContainer, FreeContainer, StoreChange, with_sealed}
use Rattle.store_core.specs.Collecting.{at_moment}
use Rattle.store_core.specs.State.{CoreState}
use Rattle.store_machine.specs.Collecting.{stores_without_some}
use Rattle.store_machine.specs.Machine.{Collection, Machine, Stopped}

-- what was filled is written under the next id; or all sources that are ready are given back
abbrev pub changes_of : Phase → (last : ℕ) → CoreSweep → List StoreChange
changes_of phases.Flush last k = FlushContainer (suc last) k.buffer.kind k.buffer.segments ∷ []
changes_of phases.Release last k = map FreeContainer k.ready.items
changes_of phase last k = []

-- the stores that may stand beside that of before where its write failed: what the step would have made of it, or a part of that
abbrev pub stores_of : Phase → (last : ℕ) → CoreSweep → Store → List Store
stores_of phases.Flush last k store = with_sealed (suc last) k.buffer.kind k.buffer.segments store ∷ []
stores_of phases.Release last k store = stores_without_some k.ready.items store
stores_of phase last k store = []

-- the keys of the dead copies of a source, in the order of its entries
abbrev pub dead_in : Option Plan → List (List ℕ)
dead_in None = []
dead_in (Some plan) = plan.dead.items

-- a copying step forgets these, of the source that came next
abbrev pub ForgetsBy : Phase → Moment → Moment → (before now : List (List ℕ)) → Type 0
ForgetsBy phases.Copy old new before now = (source entry : ℕ) × (old.collection.sweep.next ≡ nexts.Copy source entry)
    × (copies : CopiesSource
    (copy_step old.tables.held old.collection.live old.known source entry old.collection.sweep) new.known old.disk new.disk
    new.collection.sweep) × (now ≡ before ++ dead_in copies.found)
ForgetsBy phase old new before now = Unit {0}

-- A step was made by the collection that runs in the core: so it was in the machine.
pub record MovesAs (phase : Phase) (old new : CoreState) (m n : Machine Root (List Top)) : Type 0 where
  pub before : CoreCollection
  pub core_ran : old.collection ≡ Some before
  pub after : CoreCollection
  pub core_runs : new.collection ≡ Some after
  pub c : Collection Root
  pub ran : m.collection ≡ Some c
  pub d : Collection Root
  pub runs : n.collection ≡ Some d
  pub changes_are : d.changes ≡ c.changes ++ changes_of phase m.last_id before.sweep
  pub forgets : ForgetsBy phase (at_moment old before) (at_moment new after) m.forgotten n.forgotten

-- Its write failed.
abbrev pub StopsAs : CoreState → (m n : Machine Root (List Top)) → Type 0
StopsAs old m n = (k : CoreCollection) × (old.collection ≡ Some k) × (n.state
    ≡ Stopped None (stores_of (phase_at k.stage k.sweep.next) m.last_id k.sweep m.store))

abbrev pub NamesGc : Result Answer Refusal → (old new : CoreState) (m n : Machine Root (List Top)) → Type 0
NamesGc (Ok (answers.Did phase)) old new m n = MovesAs phase old new m n
NamesGc (Err DiskWrite) old new m n = StopsAs old m n
NamesGc answer old new m n = Unit {0}

abbrev pub NamesStep : StepValue → Result Answer Refusal → (old new : CoreState) (m n : Machine Root (List Top)) → Type 0
NamesStep steps.GcStep answer old new m n = NamesGc answer old new m n
NamesStep step answer old new m n = Unit {0}
