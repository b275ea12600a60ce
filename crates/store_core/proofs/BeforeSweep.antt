-- What a step of a collection that has not begun to sweep does to a core: it only reads.
use Rattle.store_core.proofs.Prelude.{◌≡◌, ◌⊎◌, inl, inr, ℕ, Option, Some, None, Result, Ok, Err, sym, ◌∙◌, ap, subst, Answer, StepValue, Ending, ending, DiskView, OnlyReads, SweepValue, Collection, Stage, Mark, KeepsMarks, Scans, Keeps, Moment, StepsTo, TablesAfter, Touches, Phase, Refusal, blames, Tables, Stop, GcEffect, GcRow, GoesOn, IsNotMade, TouchesBy, at_moment, Effect, KeepsTables, Row, StepsOr, IsNoSweep, CoreState}
use Rattle.actor_parts.specs.declared.step.Answer.TheVariants as answers
use Rattle.gc_sweep.specs.declared.sweep.Next.{Next}
use Rattle.gc_steps.specs.declared.collection.Stage.TheVariants.{Sweep}
use Rattle.refusals.specs.declared.refusal.Refusal.TheVariants as refusals
use Rattle.store_core.specs.Finding.{OnlyReadsBeforeSweep}
use Rattle.store_core.proofs.AtStore.{same_some}

-- ---- by its stage

touches_none : (stage : Stage) (next : Next) (s : SweepValue) (t : Tables) (e : Ending) (old new : DiskView) → IsNoSweep stage → Touches stage next s t e old new
    → OnlyReads old new
touches_none Sweep next s t e old new early touches = absurd early
touches_none other next s t e old new early touches = touches.only

moves_none : (stage : Stage) (next : Next) (old new : Moment) → IsNoSweep stage → StepsTo stage next old new → TablesAfter stage next old new → (new.tables ≡ old.tables)
    × (new.known ≡ old.known)
moves_none Sweep next old new early steps tables = absurd early
moves_none other next old new early steps tables = (tables, steps.1)

keeps_index : (stage : Stage) (next : Next) (old new : Moment) (refusal : Refusal) → IsNoSweep stage → Keeps stage next old new refusal → new.known ≡ old.known
keeps_index Sweep next old new refusal early kept = absurd early
keeps_index other next old new refusal early kept = kept.1

-- ---- a step

module _ (old new : CoreState) (c : Collection) (runs : old.collection ≡ Some c) (early : IsNoSweep c.stage) where
  pub only_read : (answer : Result Answer Refusal) → GcEffect answer old new → OnlyReads old.disk new.disk
  only_read answer effect =
      touches_none c.stage c.sweep.next c.sweep old.tables (ending blames answer) old.disk new.disk early
      (subst (λ (o : Option Collection). TouchesBy o answer old new.disk) runs effect.touches)

  -- it was made
  pub record HasGoneOn : Type 0 where
    pub after : Collection
    pub now_runs : new.collection ≡ Some after
    pub keeps : KeepsTables old new
    pub parts_are : new.parts ≡ old.parts
    pub steps : StepsTo c.stage c.sweep.next (at_moment old c) (at_moment new after)

  -- or it was not
  pub record HasNotGoneOn (refusal : Refusal) : Type 0 where
    pub after : Collection
    pub now_runs : new.collection ≡ Some after
    pub keeps : KeepsTables old new
    pub parts_are : new.parts ≡ old.parts
    pub kept : Keeps c.stage c.sweep.next (at_moment old c) (at_moment new after) refusal

  went_on : (phase : Phase) → GoesOn phase old new → new.parts ≡ old.parts → HasGoneOn
  went_on phase goes parts =
      let same : goes.before ≡ c = same_some goes.before c old.collection goes.ran runs in
      let steps = subst (λ (x : Collection). StepsTo x.stage x.sweep.next (at_moment old x) (at_moment new goes.after)) same goes.steps in
      let tables = subst (λ (x : Collection). TablesAfter x.stage x.sweep.next (at_moment old x) (at_moment new goes.after)) same goes.tables in
      let moves = moves_none c.stage c.sweep.next (at_moment old c) (at_moment new goes.after) early steps tables in
      record { after = goes.after; now_runs = goes.runs; keeps = record { tables_are = moves.0; index_is = moves.1 }; parts_are = parts; steps = steps }

  was_refused : (refusal : Refusal) → IsNotMade refusal old new → new.parts ≡ old.parts → HasNotGoneOn refusal
  was_refused refusal made parts =
      let same : made.before ≡ c = same_some made.before c old.collection made.ran runs in
      let kept = subst (λ (x : Collection). Keeps x.stage x.sweep.next (at_moment old x) (at_moment new made.after) refusal) same made.kept in
      record {
        after = made.after;
        now_runs = made.runs;
        keeps = record { tables_are = made.tables_are; index_is = keeps_index c.stage c.sweep.next (at_moment old c) (at_moment new made.after) refusal early kept };
        parts_are = parts;
        kept = kept;
      }

  -- a step of it does one or the other; it doesn't end
  pub gc_goes : (answer : Result Answer Refusal) → GcRow answer old new → HasGoneOn ⊎ ((refusal : Refusal) × HasNotGoneOn refusal)
  gc_goes (Ok (answers.Did phase)) row = inl (went_on phase row.0 row.1)
  gc_goes (Ok (answers.Done freed copied)) row =
      let same = same_some row.0.before c old.collection row.0.ran runs in
      absurd (subst IsNoSweep (ap (λ (x : Collection). x.stage) (sym same) ∙ row.0.at_end.0) early)
  gc_goes (Err refusals.NotCollecting) row = absurd (let wrong : None ≡ Some c = sym row.0.none_ran ∙ runs in cc)
  gc_goes (Err refusal) row = inr (refusal, was_refused refusal row.0 row.1)
  gc_goes answer row = absurd row

  -- where it marks a container was scanned, or not
  module _ (level slot : ℕ) (was : c.stage ≡ Mark level slot) where
    pub has_scanned : (gone : HasGoneOn) → Scans old.tables.held old.known old.disk new.disk level slot c gone.after
    has_scanned gone = (subst (λ (stage : Stage). StepsTo stage c.sweep.next (at_moment old c) (at_moment new gone.after)) was gone.steps).0

    pub has_not_scanned : (refusal : Refusal) (refused : HasNotGoneOn refusal) → KeepsMarks old.known old.disk new.disk level slot c refused.after refusal
    has_not_scanned refusal refused = (subst (λ (stage : Stage). Keeps stage c.sweep.next (at_moment old c) (at_moment new refused.after) refusal) was refused.kept).0

module _ (C : Type 0) (state : C → CoreState) where
  pub only_reads_before_sweep : OnlyReadsBeforeSweep C state
  only_reads_before_sweep e old new has its made = by_stop (state old).stop made
    where
      by_stop : (stop : Option Stop) → StepsOr stop e (state old) (state new) → OnlyReads (state old).disk (state new).disk × KeepsTables (state old) (state new)
      by_stop (Some stop) steps = (steps.same.disk.only, record { tables_are = steps.same.tables_are; index_is = steps.same.index_is })
      by_stop None steps =
          let row = subst (λ (step : StepValue). Row step e.actor e.answer e.buf (state old) (state new)) its steps.made.row in
          let effect = subst (λ (step : StepValue). Effect step e.answer (state old) (state new)) its steps.made.effect in (
            only_read (state old) (state new) has.collection has.runs has.early e.answer effect,
            elim (gc_goes (state old) (state new) has.collection has.runs has.early e.answer row) [ inl gone ↦ gone.keeps | inr refused ↦ refused.1.keeps ],
          )
