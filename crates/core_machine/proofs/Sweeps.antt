-- The steps of a core's sweep, and its end, as those of the machine, on any disk.
use Rattle.core_machine.proofs.Prelude.{◌≡◌, ℕ, Bool, true, [], length, Some, None, refl, sym, ◌∙◌, ap, subst, arith, Root, Phase, IsValidFor, HasFree, SlotTable, Represents, Next, HasNext, CoreCollection, CoreStage, Did, Moment, TablesAfter, answer_at, phase_at, IsUnderWay, Sweeping, of_roots, SameRun, FollowsPhase}
use Rattle.refusals.specs.declared.refusal.Phase.TheVariants as phases
use Rattle.gc_sweep.specs.declared.sweep.Next.TheVariants as nexts
use Rattle.gc_steps.specs.declared.collection.Stage.TheVariants as stages
use Rattle.gc_steps.specs.declared.phase.StepDone.TheVariants.{Done}
use Rattle.gc_steps.specs.Stepping.{StepsTo, answer_of}
use Rattle.store_machine.specs.Collecting.{Ends}
use Rattle.store_machine.specs.Machine.{Collection}
use Rattle.core_machine.proofs.CopiedSources.{copies_so}
use Rattle.core_machine.proofs.FlushedCopies.{flushes_so}
use Rattle.core_machine.proofs.FreedSources.{releases_so}
use Rattle.core_machine.proofs.SweptOn.{AtSweep, MapMoves, Swept, at_sweep, is_sweeping, no_keys}
use Rattle.core_machine.proofs.Rows.{M}

pub did_same : (a b : Phase) → Did a ≡ Did b → a ≡ b
did_same a b is = cc

-- ---- a step

-- A step of a sweep that was made and goes on, whatever the disk tells and the index has.
pub sweeps_so : {followed : Bool} (m : M) (c : Collection Root) (old new : Moment) (phase : Phase) → (moves : MapMoves followed m.forgotten m.store.held old.known new.known)
    → (followed ≡ true → FollowsPhase phase old.disk.content) → Represents m.store None old.tables → IsValidFor old.disk.size m.store → HasFree m.store.held
    → m.last_id ≡ old.tables.held.last_id → IsUnderWay old.tables.held old.collection → SameRun old.tables.held m.swept c old.collection
    → old.collection.stage ≡ stages.Sweep → answer_of old.collection ≡ Did phase → StepsTo old.collection.stage old.collection.sweep.next old new
    → TablesAfter old.collection.stage old.collection.sweep.next old new → Swept followed moves.after old new phase m c new.tables new.collection
sweeps_so {followed} m c old new phase moves content represents valid free last under run stage did steps tables =
    by old.collection.sweep.next refl
    (subst (λ (st : CoreStage). answer_at st old.collection.sweep.next old.collection.sweep.freed old.collection.sweep.copied ≡ Did phase) stage did)
    (subst (λ (st : CoreStage). StepsTo st old.collection.sweep.next old new) stage steps)
    (subst (λ (st : CoreStage). TablesAfter st old.collection.sweep.next old new) stage tables)
  where
    at_phase : (p : Phase) → Did p ≡ Did phase → followed ≡ true → FollowsPhase p old.disk.content
    at_phase p did_so told = subst (λ (q : Phase). FollowsPhase q old.disk.content) (sym (did_same p phase did_so)) (content told)

    by : (n : Next) → old.collection.sweep.next ≡ n → answer_at stages.Sweep n old.collection.sweep.freed old.collection.sweep.copied ≡ Did phase → StepsTo stages.Sweep n old new
        → TablesAfter stages.Sweep n old new → Swept followed moves.after old new phase m c new.tables new.collection
    by (nexts.Copy source entry) is did_so (copies, sweeps) after =
        subst (λ (p : Phase). Swept followed moves.after old new p m c new.tables new.collection) (did_same phases.Copy phase did_so)
        (copies_so m c source entry old new represents valid free last under run stage is copies sweeps after moves)
    by (nexts.Flush source entry) is did_so flushes after =
        subst (λ (p : Phase). Swept followed moves.after old new p m c new.tables new.collection) (did_same phases.Flush phase did_so)
        (flushes_so m c source entry old new represents valid free last under run stage is flushes moves (at_phase phases.Flush did_so))
    by (nexts.Release source entry) is did_so (released, sweeps, durable, index) freed =
        subst (λ (p : Phase). Swept followed moves.after old new p m c new.tables new.collection) (did_same phases.Release phase did_so)
        (releases_so m c source entry old new represents valid free last under run stage is released sweeps freed moves index (at_phase phases.Release did_so))
    by nexts.End is did_so steps_so after = absurd (let wrong : Done old.collection.sweep.freed old.collection.sweep.copied ≡ Did phase = did_so in cc)

-- ---- its end

-- It tells as many containers and segments as the machine's changes have.
pub ends_so : (m : M) (c : Collection Root) (t : SlotTable) (k : CoreCollection) (freed copied : ℕ) → m.collection ≡ Some c → SameRun t m.swept c k → IsUnderWay t k
    → (k.stage ≡ stages.Sweep) × (k.sweep.next ≡ nexts.End) → freed ≡ k.sweep.freed → copied ≡ k.sweep.copied → Ends of_roots freed copied m (record m { collection = None })
ends_so m c t k freed copied ran run under (stage, next) freed_is copied_is = record {
  c = c;
  ran = ran;
  s = at.s;
  at_end = at.stage_is ∙ ap (λ (p : Phase). Sweeping p at.s) (at.same.next_is ∙ ap (phase_at stages.Sweep) next);
  freed_is = freed_is ∙ at.same.freed_is;
  copied_is = omega (arith, copied_is, at.same.copied_is, ap length none_filled);
  others = refl;
}
  where
    at : AtSweep t m.swept c k.sweep
    at = at_sweep t m.swept c k run stage

    has : HasNext t k.sweep nexts.End
    has = subst (HasNext t k.sweep) next (is_sweeping t k under stage).next_is

    none_filled : at.s.filled ≡ []
    none_filled = at.same.filled_is ∙ no_keys k.sweep.buffer has.1
