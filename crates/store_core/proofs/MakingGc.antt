-- What the steps of a collection make of a core.
use Rattle.store_core.proofs.Prelude.{◌≡◌, inl, inr, ℕ, List, [], ◌∷◌, Option, Some, None, Result, Ok, Err, refl, sym, ◌∙◌, subst, Done, ending, ending_of, Shows, DiskView, later_here, reads_here, PlaceMap, Entry, Planned, Source, planned, source_of, Answer, Phase, Refusal, LiveKeys, Flush, Release, End, Collection, Stage, Filter, Mark, Select, Did, IsStepRefusal, Moment, StepsTo, TablesAfter, Touches, answer_at, phase_at, Nears, steps_to_come, HasRoom, IsUnderWay, blames, Tables, SlotTable, GcRow, IsNotMade, TouchesBy, at_moment, Made, CoreState, IsUnderWayIn, Stop}
use Rattle.std.specs.Prelude.{drop}
use Rattle.container_meta.specs.Segments.{Contents}
use Rattle.copy_forward.specs.Copying.{IsCopyRefusal, copy_task}
use Rattle.copy_forward.specs.Planning.{IsStuck}
use Rattle.actor_parts.specs.declared.step.Answer.TheVariants as answers
use Rattle.actor_parts.specs.StepValue as asked
use Rattle.refusals.specs.declared.refusal.Refusal.TheVariants as refusals
use Rattle.gc_enumerate.specs.declared.fault.ScanFault.{ScanFault}
use Rattle.gc_sweep.specs.declared.sweep.Next.{Next}
use Rattle.gc_sweep.specs.declared.sweep.Next.TheVariants.{Copy}
use Rattle.gc_steps.specs.declared.collection.Stage.TheVariants.{Sweep}
use Rattle.gc_steps.specs.declared.phase.StepDone.{StepDone}
use Rattle.gc_steps.specs.declared.phase.StepDone.TheVariants.{Done as EndsWith}
use Rattle.gc_steps.specs.Marking.{IsMarkRefusal}
use Rattle.gc_steps.specs.Scanning.{step_refusal}
use Rattle.gc_steps.specs.Stepping.{GoesBy, Makes, Refuses}
use Rattle.store_core.proofs.Rooms.{room_ended}
use Rattle.gc_enumerate.specs.declared.fault.ScanFault.TheVariants as faults

-- ---- the end

-- where it ends
record IsEnd (stage : Stage) (next : Next) (freed copied count many : ℕ) : Type 0 where
  stage_is : stage ≡ Sweep
  next_is : next ≡ End
  freed_is : count ≡ freed
  copied_is : many ≡ copied

at_end : (stage : Stage) (next : Next) (freed copied count many : ℕ) → EndsWith count many ≡ answer_at stage next freed copied → IsEnd stage next freed copied count many
at_end (Mark level slot) next freed copied count many is = absurd (let wrong = is in cc)
at_end (Filter slot) next freed copied count many is = absurd (let wrong = is in cc)
at_end Select next freed copied count many is = absurd (let wrong = is in cc)
at_end Sweep (Copy source entry) freed copied count many is = absurd (let wrong = is in cc)
at_end Sweep (Flush source entry) freed copied count many is = absurd (let wrong = is in cc)
at_end Sweep (Release source entry) freed copied count many is = absurd (let wrong = is in cc)
at_end Sweep End freed copied count many is = record { stage_is = refl; next_is = refl; freed_is = first count freed many copied is; copied_is = second count freed many copied is }
  where
    first : (a b x y : ℕ) → EndsWith a x ≡ EndsWith b y → a ≡ b
    first a b x y same = cc

    second : (a b x y : ℕ) → EndsWith a x ≡ EndsWith b y → x ≡ y
    second a b x y same = cc

-- ---- why a step is refused

-- a collection runs, so it is not for want of one
stop_runs : (fault : ScanFault) → refusals.NotCollecting ≡ step_refusal fault → ⊥
stop_runs faults.DiskRead is = let wrong = is in cc
stop_runs other is = let wrong = is in cc

mark_runs : (t : SlotTable) (known : Option PlaceMap) (old new : DiskView) (level slot : ℕ) (live : LiveKeys)
    → IsMarkRefusal t known old new level slot live refusals.NotCollecting → ⊥
mark_runs t known old new level slot live (inl none) = none
mark_runs t known old new level slot live (inr stops) = stop_runs stops.fault stops.refusal_is

stuck_runs : (s : Source) (shown : (List ℕ → Type 0) → Type 0) (es : List Entry) (before : Planned) → IsStuck s shown es before refusals.NotCollecting → ⊥
stuck_runs s shown [] before is = is
stuck_runs s shown (e ∷ es) before (inl one) = one.1.1
stuck_runs s shown (e ∷ es) before (inr more) = stuck_runs s shown es more.0 more.1.1

copy_runs : (t : SlotTable) (known : Option PlaceMap) (live : LiveKeys) (slot from : ℕ) (buffer : Contents) (old new : DiskView)
    → IsCopyRefusal (copy_task t known live slot from buffer) old new refusals.NotCollecting → ⊥
copy_runs t known live slot from buffer old new (inl (inl header)) = header
copy_runs t known live slot from buffer old new (inl (inr (h, tabled, shown, kind, within, stuck))) = stuck_runs (source_of known live slot h.kind) (Shows old new)
    (drop from h.entries) (planned buffer []) stuck
copy_runs t known live slot from buffer old new (inr remove) = remove

runs_still : (stage : Stage) (next : Next) (old : Moment) (new : DiskView) → IsStepRefusal stage next old new refusals.NotCollecting → ⊥
runs_still (Mark level slot) next old new is = mark_runs old.tables.held old.known old.disk new level slot old.collection.live is
runs_still (Filter slot) next old new is = is
runs_still Select next old new is = let wrong = is in cc
runs_still Sweep (Copy source entry) old new is = copy_runs old.tables.held old.known old.collection.live is.slot entry is.filling old.disk new is.cause
runs_still Sweep (Flush source entry) old new is = is.1
runs_still Sweep (Release source entry) old new is = let wrong = is in cc
runs_still Sweep End old new is = is

refused_row : (refusal : Refusal) (old new : CoreState) → IsNotMade refusal old new → new.parts ≡ old.parts → GcRow (Err refusal) old new
refused_row refusals.NotCollecting old new is parts = absurd (runs_still is.before.stage is.before.sweep.next (at_moment old is.before) new.disk is.cause)
refused_row refusal old new is parts = (is, parts)

-- ---- a step

module _ (actor : ℕ) (buf : List ℕ) (old new : CoreState) (c after : Collection) (ran : old.collection ≡ Some c) (parts : new.parts ≡ old.parts) (served : old.served → new.served)
    (tells : (places : PlaceMap) × (new.known ≡ Some places)) where
  touched : (answer : Result Answer Refusal) → Touches c.stage c.sweep.next c.sweep old.tables (ending blames answer) old.disk new.disk
      → TouchesBy old.collection answer old new.disk
  touched answer touches = subst (λ (o : Option Collection). TouchesBy o answer old new.disk) (sym ran) touches

  module _ (runs : new.collection ≡ Some after) (under_way : IsUnderWay new.tables.held after) where
    pub made_did : (phase : Phase) (done : StepDone) → done ≡ Did phase → Makes (at_moment old c) (at_moment new after) done → GoesBy c old.tables Done old.disk new.disk
        → Made asked.GcStep actor (Ok (answers.Did phase)) buf old new
    made_did phase done did made goes = record {
      row = (
        record {
          before = c;
          ran = ran;
          after = after;
          runs = runs;
          phase_is = sym made.answer_is ∙ did;
          steps = made.steps;
          tables = made.tables;
          nearer = λ chosen fits. subst (λ (d : StepDone). Nears d (steps_to_come chosen old.tables.held c) (steps_to_come chosen new.tables.held after)) did
              (made.nearer chosen fits);
        },
        parts,
      );
      effect = record {
        later = goes.later;
        faults_are = goes.faults_are;
        touches = touched (Ok (answers.Did phase)) goes.touches;
        under_way = λ was. subst (IsUnderWayIn new.tables.held) (sym runs) under_way;
        tells = λ before is. tells;
      };
      served = served;
    }

    pub made_refused : (refusal : Refusal) → Refuses (at_moment old c) (at_moment new after) refusal → GoesBy c old.tables (ending_of (blames refusal)) old.disk new.disk
        → Made asked.GcStep actor (Err refusal) buf old new
    made_refused refusal is goes = record {
      row = refused_row refusal old new (record { before = c; ran = ran; after = after; runs = runs; cause = is.cause; kept = is.kept; tables_are = is.tables_kept }) parts;
      effect = record {
        later = goes.later;
        faults_are = goes.faults_are;
        touches = touched (Err refusal) goes.touches;
        under_way = λ was. subst (IsUnderWayIn new.tables.held) (sym runs) under_way;
        tells = λ before is. tells;
      };
      served = served;
    }

  -- it ran to its end, and runs no more
  pub made_done : (freed copied : ℕ) (done : StepDone) → new.collection ≡ None → done ≡ EndsWith freed copied → Makes (at_moment old c) (at_moment new after) done
      → GoesBy c old.tables Done old.disk new.disk
      → Made asked.GcStep actor (Ok (answers.Done freed copied)) buf old new
  made_done freed copied done ended ends made goes = record {
    row = (
      record {
        before = c;
        ran = ran;
        at_end = (end.stage_is, end.next_is);
        ended = ended;
        freed_is = end.freed_is;
        copied_is = end.copied_is;
        tables_are = tables;
        index_is =
            (let at : StepsTo Sweep End (at_moment old c) (at_moment new after) = by_end
            (λ stage next. StepsTo stage next (at_moment old c) (at_moment new after)) made.steps in at.1);
      },
      parts,
    );
    effect = record {
      later = goes.later;
      faults_are = goes.faults_are;
      touches = touched (Ok (answers.Done freed copied)) goes.touches;
      under_way = λ was. subst (IsUnderWayIn new.tables.held) (sym ended)
          (subst (λ (t : Tables). HasRoom t.held) (sym tables) (room_ended old.tables.held c end.stage_is end.next_is (subst (IsUnderWayIn old.tables.held) ran was)));
      tells = λ before is. tells;
    };
    served = served;
  }
    where
      end : IsEnd c.stage c.sweep.next c.sweep.freed c.sweep.copied freed copied
      end = at_end c.stage c.sweep.next c.sweep.freed c.sweep.copied freed copied (sym ends ∙ made.answer_is)

      by_end : (P : Stage → Next → Type 0) → P c.stage c.sweep.next → P Sweep End
      by_end P is = subst (P Sweep) end.next_is (subst (λ (stage : Stage). P stage c.sweep.next) end.stage_is is)

      tables : new.tables ≡ old.tables
      tables = by_end (λ stage next. TablesAfter stage next (at_moment old c) (at_moment new after)) made.tables

-- ---- none runs, or one runs already

-- nothing but time passes
pub made_none : (actor : ℕ) (buf : List ℕ) (old : CoreState) → old.collection ≡ None → (stop : Option Stop) (count : ℕ)
    → Made asked.GcStep actor (Err refusals.NotCollecting) buf old (record old { stop = stop; acknowledged = count })
made_none actor buf old none stop count = record {
  row = (record { none_ran = none; none_runs = none; tables_are = refl; index_is = refl }, refl);
  effect = record {
    later = later_here old.disk;
    faults_are = refl;
    touches = subst (λ (o : Option Collection). TouchesBy o (Err refusals.NotCollecting) old old.disk) (sym none) (record { only = reads_here old.disk; faults_are = refl });
    under_way = λ was. was;
    tells = λ before is. (before, is);
  };
  served = λ served. served;
}

pub made_running : (percent actor : ℕ) (phase : Phase) (c : Collection) (buf : List ℕ) (old : CoreState) → old.collection ≡ Some c → phase ≡ phase_at c.stage c.sweep.next
    → (stop : Option Stop) (count : ℕ)
    → Made (asked.GcStart percent) actor (Err (refusals.Collecting phase)) buf old (record old { stop = stop; acknowledged = count })
made_running percent actor phase c buf old runs is stop count = record {
  row = ((c, (runs, is)), refl, refl);
  effect = record { disk = record { only = reads_here old.disk; faults_are = refl }; tables = record { tables_are = refl; index_is = refl } };
  served = λ served. served;
}
