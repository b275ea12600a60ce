-- What holds of a core that is at a store: its tables show the store, and its disk stands for the files; and what a step of its collection leaves of
-- the store, and of the map of the index.
use Rattle.store_core.proofs.Prelude.{ℕ, List, Option, Some, refl, subst, PlaceMap, Stored, Store, IsPartialIndexOf, IsStoreOf, Represents, IsAt, CoreState, ◌≡◌, ◌≤◌, Ok, sym, ◌∙◌, arith, length, ACTORS, Collection, Stage, Flush, Release, End, IsLater, IsStepRefusal, Keeps, StepsTo, TablesAfter, moment, IsUnderWay, IsStoreAfter, step_safe, Phase, Refusal, ByteSet, IsIn, store_once, GoesOn, IsNotMade, TouchesBy, at_moment, IsSafeIn, IsUnderWayIn}
use Rattle.actor_parts.specs.declared.step.Answer.TheVariants as answers
use Rattle.gc_steps.specs.declared.collection.Stage.TheVariants.{Sweep}
use Rattle.gc_sweep.specs.declared.sweep.Next.{Next}
use Rattle.gc_sweep.specs.declared.sweep.Next.TheVariants.{Copy}
use Rattle.gc_steps.proofs.StepSafe.{LeavesSafe}
use Rattle.refusals.specs.declared.refusal.Refusal.TheVariants as refusals

module _ (S : List ℕ → Type 0) (s : Store) (stored : Stored) (c : CoreState) (at : IsAt S s stored c) where
  pub shows_here : Represents s (Some at.index) c.tables
  shows_here = subst (λ (known : Option PlaceMap). Represents s known c.tables) at.index_known at.represents

  pub record AtStore : Type 0 where
    pub shows : Represents s (Some at.index) c.tables
    pub stands : IsStoreOf s stored.files at.stands.known.0
    pub partial : IsPartialIndexOf s.held at.index

  pub at_store : AtStore
  at_store = record {
    shows = shows_here;
    stands = (at.stands.each at.stands.known.0 (c.disk.as_read at.stands.known.0 at.stands.known.1)).holds;
    partial = shows_here.index_is_newest at.index refl;
  }

pub same_some : (a b : Collection) (o : Option Collection) → o ≡ Some a → o ≡ Some b → a ≡ b
same_some a b o one two = let both : Some a ≡ Some b = sym one ∙ two in cc

-- ---- a step

module _ (among : ByteSet) (s : Store) (stored : Stored) (old new : CoreState) (at : IsAt (IsIn among) s stored old) where
  abbrev content : List ℕ
  content = at.stands.known.0

  abbrev told : old.disk.content ≡ Some content
  told = at.stands.known.1

  abbrev shows : Represents s (Some at.index) old.tables
  shows = subst (λ (known : Option PlaceMap). Represents s known old.tables) at.index_known at.represents

  few : length old.parts ≤ ACTORS
  few = omega (arith, at.many)

  -- that was made
  module _ (t : Store) (after : IsAt (IsIn among) t stored new) (phase : Phase) (goes : GoesOn phase old new)
      (touches : TouchesBy old.collection (Ok (answers.Did phase)) old new.disk) (later : IsLater old.disk new.disk) where
    abbrev now : List ℕ
    now = after.stands.known.0

    abbrev c : Collection
    c = goes.before

    under : IsUnderWay old.tables.held c
    under = subst (IsUnderWayIn old.tables.held) goes.ran at.under_way

    steps : StepsTo c.stage c.sweep.next (moment old.tables (Some at.index) old.disk c) (at_moment new goes.after)
    steps = subst (λ (k : Option PlaceMap). StepsTo c.stage c.sweep.next (moment old.tables k old.disk c) (at_moment new goes.after)) at.index_known goes.steps

    tables : TablesAfter c.stage c.sweep.next (moment old.tables (Some at.index) old.disk c) (at_moment new goes.after)
    tables = subst (λ (k : Option PlaceMap). TablesAfter c.stage c.sweep.next (moment old.tables k old.disk c) (at_moment new goes.after)) at.index_known goes.tables

    pub leaves : LeavesSafe c at.index s stored.files old.parts content now among new.tables new.known new.disk goes.after
    leaves =
        step_safe at.index s stored.files old.parts content now among old.tables new.tables new.known old.disk new.disk c goes.after
        (at.invariant content told) few shows at.valid told after.stands.known.1 at.stands under
        (subst (IsUnderWayIn new.tables.held) goes.runs after.under_way) (subst (IsSafeIn at.index s old.parts content) goes.ran (at.safe content told)) steps tables
        (subst (λ (o : Option Collection). TouchesBy o (Ok (answers.Did phase)) old new.disk) goes.ran touches) later

    -- the store that it is at is the one that the stage leads to
    pub led_to : IsStoreAfter c.stage c.sweep.next c.snapshot c.sweep at.index s t content
    led_to =
        subst (λ (x : Store). IsStoreAfter c.stage c.sweep.next c.snapshot c.sweep at.index s x content)
        (store_once now leaves.store_now t (leaves.stands.each now (new.disk.as_read now after.stands.known.1)).holds.right
        (after.stands.each now (new.disk.as_read now after.stands.known.1)).holds.right) leaves.store_is

  -- that was refused: the map of the index stays, where no write failed
  known_by : (stage : Stage) (next : Next) (r : Refusal) (c d : Collection) → (r ≡ refusals.DiskWrite → ⊥)
      → IsStepRefusal stage next (moment old.tables (Some at.index) old.disk c) new.disk r
      → Keeps stage next (moment old.tables (Some at.index) old.disk c) (at_moment new d) r → new.known ≡ Some at.index
  known_by Sweep (Copy source entry) refusals.DiskWrite c d whole cause keeps = absurd (whole refl)
  known_by Sweep (Copy source entry) (refusals.Damaged at_byte why) c d whole cause keeps = keeps.1 at.index refl
  known_by Sweep (Copy source entry) r c d whole cause keeps = keeps.1
  known_by Sweep (Flush source entry) refusals.DiskWrite c d whole cause keeps = absurd (whole refl)
  known_by Sweep (Flush source entry) (refusals.Damaged at_byte why) c d whole cause keeps = absurd (let wrong = cause.1 in cc)
  known_by Sweep (Flush source entry) r c d whole cause keeps = keeps.1
  known_by Sweep (Release source entry) r c d whole cause keeps = absurd (whole cause)
  known_by Sweep End r c d whole cause keeps = absurd cause
  known_by other next r c d whole cause keeps = keeps.1

  pub refused_known : (refusal : Refusal) (row : IsNotMade refusal old new) → (refusal ≡ refusals.DiskWrite → ⊥) → new.known ≡ Some at.index
  refused_known refusal row whole =
      known_by row.before.stage row.before.sweep.next refusal row.before row.after whole
      (subst (λ (k : Option PlaceMap). IsStepRefusal row.before.stage row.before.sweep.next (moment old.tables k old.disk row.before) new.disk refusal) at.index_known row.cause)
      (subst (λ (k : Option PlaceMap). Keeps row.before.stage row.before.sweep.next (moment old.tables k old.disk row.before)
      (at_moment new row.after) refusal) at.index_known row.kept)
