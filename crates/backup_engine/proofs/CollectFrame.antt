-- What the steps of a collection leave of the bytes, whatever they are: all before the end of the slots, but the gates of containers that it
-- gave back, and closed slots that it filled.
use Rattle.backup_engine.proofs.Prelude.{each_so, ◌≡◌, ℕ, List, [], ◌∷◌, Option, Some, Result, Ok, refl, sym, ◌∙◌, subst, AllByRecursion, Answer, PlaceMap, ending, CrashLeaves, DiskView, leaves_on, leaves_weaker, reads_here, size_of, Touches, Collection, Stage, Mark, Filter, Select, SweepStage, Flush, Release, End, Phase, Refusal, CollectionRun, Collects, Store, blames, TouchesBy, Steps, HadContainer, CoreState, MayFill, SameButSlotsOf, ◌++◌, both_so}
use Rattle.actor_parts.specs.declared.step.Answer.TheVariants as answers
use Rattle.dd_disk.proofs.Later.{reads_leave}
use Rattle.gc_sweep.specs.declared.sweep.Next.{Next}
use Rattle.gc_sweep.specs.declared.sweep.Next.TheVariants.{Copy}
use Rattle.store_core.specs.Collecting.{GcEffect}
use Rattle.store_core.proofs.CoreRuns.{running_step}
use Rattle.backup_engine.proofs.CollectSteps.{CollectedSoFar, free_so, gc_event, had_so, may_fill_so, one_more, valid_so}
use Rattle.backup_engine.proofs.SweptBytes.{filled_with, freed_with, same_slots, stage_so}
use Rattle.backup_engine.proofs.SweptSlots.{may_more}

-- but the gates of some slots that had a container, and some slots that were closed, all before the end of the slots is as it was
pub record IsBut (s : Store) (base c : List ℕ) : Type 0 where
  pub freed : List ℕ
  pub had : AllByRecursion (HadContainer s) freed
  pub filled : List ℕ
  pub may : AllByRecursion (MayFill s freed) filled
  pub same : SameButSlotsOf s freed filled base c

pub but_here : (s : Store) (base : List ℕ) → IsBut s base base
but_here s base = record { freed = []; had = tt; filled = []; may = tt; same = same_slots s base }

-- ---- steps

module _ (s : Store) (index : PlaceMap) (v : DiskView) (sized : v.size ≡ size_of s.slots) (C : Type 0) (state : C → CoreState) (base : List ℕ) (told : v.content ≡ Some base) where
  abbrev SoFar : C → Type 0
  SoFar c = CollectedSoFar s index v (state c)

  abbrev LeavesFrom : C → C → Type 0
  LeavesFrom old new = CrashLeaves (IsBut s base) (state old).disk (state new).disk

  -- each image of the disk is so
  pub each_but : (c : C) (so : SoFar c) (image : List ℕ) → (state c).disk.images image → IsBut s base image
  each_but c so image is = record { freed = so.freed; had = so.slots.had; filled = so.filled; may = so.slots.may; same = (so.framed base told).each image is }

  module _ (old new : C) (so : SoFar old) where
    abbrev collection : Collection
    collection = so.collection

    -- what a step of a stage leaves is so
    but_so : (stage : Stage) (next : Next) → collection.stage ≡ stage → collection.sweep.next ≡ next → (c : List ℕ)
        → SameButSlotsOf s (freed_with stage next collection.sweep so.freed) (filled_with stage next so.after so.filled) base c → IsBut s base c
    but_so (Mark level slot) next is next_is c same = record { freed = so.freed; had = so.slots.had; filled = so.filled; may = so.slots.may; same = same }
    but_so (Filter slot) next is next_is c same = record { freed = so.freed; had = so.slots.had; filled = so.filled; may = so.slots.may; same = same }
    but_so Select next is next_is c same = record { freed = so.freed; had = so.slots.had; filled = so.filled; may = so.slots.may; same = same }
    but_so SweepStage (Copy source entry) is next_is c same = record { freed = so.freed; had = so.slots.had; filled = so.filled; may = so.slots.may; same = same }
    but_so SweepStage (Flush source entry) is next_is c same = record {
      freed = so.freed;
      had = so.slots.had;
      filled = _;
      may = (may_fill_so s index v sized C state old so, so.slots.may);
      same = same;
    }
    but_so SweepStage (Release source entry) is next_is c same =
        let gone : List ℕ = collection.sweep.ready.items in
        record {
          freed = gone ++ so.freed;
          had = both_so (HadContainer s) gone so.freed (had_so s index v sized C state old so is) so.slots.had;
          filled = so.filled;
          may = each_so (MayFill s so.freed) (MayFill s (gone ++ so.freed)) so.filled (may_more s gone so.freed) so.slots.may;
          same = same;
        }
    but_so SweepStage End is next_is c same = record { freed = so.freed; had = so.slots.had; filled = so.filled; may = so.slots.may; same = same }

    -- however it ends
    pub step_leaves : (answer : Result Answer Refusal) → Collects C state answer old new → LeavesFrom old new
    step_leaves answer collects =
        let steps : Steps (gc_event answer collects.0) (state old) (state new) = running_step (state old) (state new) (gc_event answer collects.0) so.stop_is collects.1 in
        let effect : GcEffect answer (state old) (state new) = steps.made.effect in
        let touches : Touches collection.stage collection.sweep.next collection.sweep (state old).tables (ending blames answer) (state old).disk (state new).disk =
        subst (λ (o : Option Collection). TouchesBy o answer (state old) (state new).disk) so.runs effect.touches in
        leaves_weaker (SameButSlotsOf s (freed_with collection.stage collection.sweep.next collection.sweep so.freed)
        (filled_with collection.stage collection.sweep.next so.after so.filled) base) (IsBut s base) (state old).disk
        (state new).disk (but_so collection.stage collection.sweep.next refl refl)
        (stage_so s so.after so.freed so.filled base (state old).disk (state new).disk (so.framed base told) (state old).tables (so.later.size_is ∙ sized) so.represents
        (valid_so s index v sized C state old so)
        (free_so s index v sized C state old so) (so.represents.slots_are ∙ so.slots_are) collection.stage collection.sweep.next collection.sweep (ending blames answer) touches)

  pub all_leave : (phases : List Phase) (old new : C) → SoFar old → CollectionRun C state phases old new → LeavesFrom old new
  all_leave [] old new so run =
      subst (λ (c : C). LeavesFrom old c) (sym run) (reads_leave (IsBut s base) (state old).disk (state old).disk (each_but old so) (reads_here (state old).disk))
  all_leave (phase ∷ phases) old new so run =
      let next = one_more s index v sized C state phase old run.0 so run.1.0 in
      leaves_on (IsBut s base) (IsBut s base) (IsBut s base) (state old).disk (state run.0).disk (state new).disk
      (running_step (state old) (state run.0) (gc_event (Ok (answers.Did phase)) run.1.0.0) so.stop_is run.1.0.1).made.effect.later.clock_is
      (step_leaves old run.0 so (Ok (answers.Did phase)) run.1.0) (all_leave phases run.0 new next run.1.1) (λ c but. but) (λ c but. but)
