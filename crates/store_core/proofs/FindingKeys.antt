-- Which keys a collection found once it has marked, step by step.
use Rattle.store_core.proofs.Prelude.{◌≡◌, ◌⊎◌, inl, inr, ℕ, ◌≤◌, List, [], ◌∷◌, Option, Some, None, Result, refl, sym, ◌∙◌, subst, arith, Answer, StepValue, PlaceMap, DiskView, IsLater, OnlyReads, reads_here, reads_on, Collection, Stage, Mark, KeepsMarks, Scans, HasMarkedAll, HeadersAreApart, RootKeys, roots_of, AreFound, HasStage, IsUnderWay, Refusal, Store, AreHeaders, IsPartialIndexOf, last_within, RepresentsSlots, Tables, Stop, starts, GcEffect, GcRow, CoreStep, Effect, KeepsTables, Row, Steps, StepsOr, IsNoSweep, CoreRun, CoreState, Event, IsRunning, IsUnderWayIn, IsUp, UnlessStopped}
use Rattle.actor_parts.specs.StepValue as asked
use Rattle.dd_disk.proofs.Shows.{since, until}
use Rattle.gc_steps.specs.Finding.{FindsAll}
use Rattle.gc_steps.proofs.AllFound.{IsFinding, begins_finding, found_all, refusal_finds, scan_finds}
use Rattle.gc_steps.proofs.RootKeys.{root_live}
use Rattle.store_core.specs.Collecting.{Begins}
use Rattle.store_core.specs.Finding.{AreItsSteps, FindsKeys, IsIndexed}
use Rattle.store_core.proofs.CoreRuns.{running_step}
use Rattle.store_core.proofs.BeforeSweep.{gc_goes, has_not_scanned, has_scanned, only_read}
use Rattle.store_core.proofs.RunningOn.{step_runs}
use Rattle.store_core.proofs.Stepping.{step_later}
use Rattle.store_core.proofs.AtStore.{same_some}

module _ (s : Store) (index : PlaceMap) (headers : AreHeaders s.held) (partial : IsPartialIndexOf s.held index) (roots : RootKeys) (first : DiskView) where
  -- no header but the store's was shown since with its digest
  abbrev AreApart : CoreState → Type 0
  AreApart now = HeadersAreApart s.held first now.disk

  -- what holds of a core while its collection marks
  record IsMarking (now : CoreState) : Type 0 where
    c : Collection
    runs : now.collection ≡ Some c
    slots : RepresentsSlots s.held now.tables.held
    known_is : now.known ≡ Some index
    reads : OnlyReads first now.disk
    finding : AreApart now → IsFinding index s headers partial c roots

  -- so it is, or all was found
  abbrev IsSoFar : CoreState → Type 0
  IsSoFar now = IsMarking now ⊎ (AreApart now → FindsAll index roots)

  -- ---- a step

  apart_before : (old new : CoreState) → first.clock ≤ old.disk.clock → IsLater old.disk new.disk → AreApart new → AreApart old
  apart_before old new clock later apart = λ slot h g there shown digest. apart slot h g there (until first old.disk new.disk shown clock later) digest

  module _ (old new : CoreState) (m : IsMarking old) (later : IsLater old.disk new.disk) where
    finding_then : AreApart new → IsFinding index s headers partial m.c roots
    finding_then apart = m.finding (apart_before old new m.reads.later.clock_is later apart)

    -- what this step showed was shown since
    apart_here : AreApart new → HeadersAreApart s.held old.disk new.disk
    apart_here apart = λ slot h g there shown digest. apart slot h g there (since first old.disk new.disk m.reads shown) digest

    -- the tables, and the map of the index, are as they were, and the disk was only read
    marking_on : (after : Collection) → new.collection ≡ Some after → KeepsTables old new → OnlyReads old.disk new.disk
        → (AreApart new → IsFinding index s headers partial after roots) → IsMarking new
    marking_on after runs keeps reads finding = record {
      c = after;
      runs = runs;
      slots = subst (λ (t : Tables). RepresentsSlots s.held t.held) (sym keeps.tables_are) m.slots;
      known_is = keeps.index_is ∙ m.known_is;
      reads = reads_on first old.disk new.disk m.reads reads;
      finding = finding;
    }

    module _ (level slot : ℕ) (was : m.c.stage ≡ Mark level slot) (under_way : IsUnderWayIn old.tables.held old.collection) where
      some_level : 1 ≤ level
      some_level =
          let so : IsUnderWay old.tables.held m.c = subst (IsUnderWayIn old.tables.held) m.runs under_way in
          (subst (HasStage old.tables.held m.c) was so.stage_is).0

      gc_marks : (answer : Result Answer Refusal) → GcRow answer old new → GcEffect answer old new → IsMarking new
      gc_marks answer row effect = elim (gc_goes old new m.c m.runs early answer row) [
        | inl gone ↦ marking_on gone.after gone.now_runs gone.keeps reads
            (λ apart. scan_finds index s headers partial old.tables.held m.slots old.disk new.disk level slot some_level m.c gone.after roots was (finding_then apart)
            (apart_here apart)
            (subst (λ (k : Option PlaceMap). Scans old.tables.held k old.disk new.disk level slot m.c gone.after) m.known_is
            (has_scanned old new m.c m.runs early level slot was gone)))
        | inr (refusal, refused) ↦ marking_on refused.after refused.now_runs refused.keeps reads
            (λ apart. refusal_finds index s headers partial old.tables.held m.slots old.disk new.disk level slot some_level m.c refused.after roots was (finding_then apart) refusal
            (subst (λ (k : Option PlaceMap). KeepsMarks k old.disk new.disk level slot m.c refused.after refusal) m.known_is
            (has_not_scanned old new m.c m.runs early level slot was refusal refused)))
      ]
        where
          early : IsNoSweep m.c.stage
          early = subst IsNoSweep (sym was) tt

          reads : OnlyReads old.disk new.disk
          reads = only_read old new m.c m.runs early answer effect

    all_found : HasMarkedAll m.c.stage → IsSoFar new
    all_found marked = inr (λ apart. found_all index s headers partial m.c roots (finding_then apart) marked)

    by_stage : (stage : Stage) → m.c.stage ≡ stage → IsUnderWayIn old.tables.held old.collection → (answer : Result Answer Refusal) → GcRow answer old new
        → GcEffect answer old new → IsSoFar new
    by_stage (Mark level slot) was under_way answer row effect = inl (gc_marks level slot was under_way answer row effect)
    by_stage other was under_way answer row effect = all_found (subst HasMarkedAll (sym was) tt)

    event_finds : (e : Event) → e.step ≡ asked.GcStep → (stop : Option Stop) → StepsOr stop e old new → UnlessStopped stop (IsUp old) → IsSoFar new
    event_finds e its None steps up =
        by_stage m.c.stage refl up.under_way e.answer (subst (λ (step : StepValue). Row step e.actor e.answer e.buf old new) its steps.made.row)
        (subst (λ (step : StepValue). Effect step e.answer old new) its steps.made.effect)
    event_finds e its (Some stop) steps up =
        inl (marking_on m.c (steps.same.collection_is ∙ m.runs) (record { tables_are = steps.same.tables_are; index_is = steps.same.index_is }) steps.same.disk.only finding_then)

-- ---- steps, one after the other

module _ (C : Type 0) (state : C → CoreState) (s : Store) (index : PlaceMap) (headers : AreHeaders s.held) (partial : IsPartialIndexOf s.held index) (roots : RootKeys)
    (first : DiskView) where
  finds_on : (events : List Event) (mid new : C) → IsRunning (state mid) → CoreRun C state events mid new → AreItsSteps events → first.clock ≤ (state mid).disk.clock
      → IsSoFar s index headers partial roots first (state mid) → IsSoFar s index headers partial roots first (state new)
  finds_on [] mid new up run its clock so = subst (λ (c : C). IsSoFar s index headers partial roots first (state c)) (sym run) so
  finds_on (e ∷ es) mid new up run its clock so =
      finds_on es run.0 new (step_runs (state mid) (state run.0) e run.1.0 up) run.1.1 its.1 (omega (arith, clock, later.clock_is)) (by_case so)
    where
      later : IsLater (state mid).disk (state run.0).disk
      later = step_later (state mid) (state run.0) e (state mid).stop run.1.0

      by_case : IsSoFar s index headers partial roots first (state mid) → IsSoFar s index headers partial roots first (state run.0)
      by_case (inl m) = event_finds s index headers partial roots first (state mid) (state run.0) m later e its.0 (state mid).stop run.1.0 up
      by_case (inr found) = inr (λ apart. found (apart_before s index headers partial roots first (state mid) (state run.0) clock later apart))

module _ (C : Type 0) (state : C → CoreState) where
  module _ (actor percent snapshot : ℕ) (buf : List ℕ) (events : List Event) (s : Store) (index : PlaceMap) (old begun new : C) (up : IsRunning (state old))
      (runs : (state old).stop ≡ None) (indexed : IsIndexed s index (state old))
      (began : CoreStep (state old) (starts actor percent snapshot buf) (state begun)) (run : CoreRun C state events begun new) (its : AreItsSteps events) where
    abbrev roots : RootKeys
    roots = roots_of (state old).tables.names (state old).parts

    abbrev first : DiskView
    first = (state begun).disk

    abbrev partial : IsPartialIndexOf s.held index
    partial = indexed.represents.index_is_newest index indexed.known_is

    so_far : IsSoFar s index indexed.headers partial roots first (state new)
    so_far =
        finds_on C state s index indexed.headers partial roots first events begun new (step_runs (state old) (state begun) (starts actor percent snapshot buf) began up) run its
        (omega arith) (inl so)
      where
        steps : Steps (starts actor percent snapshot buf) (state old) (state begun)
        steps = running_step (state old) (state begun) (starts actor percent snapshot buf) runs began

        begins : Begins percent snapshot (state old) (state begun)
        begins = steps.made.row.0

        so : IsMarking s index indexed.headers partial roots first (state begun)
        so = record {
          c = begins.collection;
          runs = begins.runs;
          slots = subst (λ (t : Tables). RepresentsSlots s.held t.held) (sym steps.made.effect.tables.tables_are) indexed.represents.slots_hold;
          known_is = steps.made.effect.tables.index_is ∙ indexed.known_is;
          reads = reads_here first;
          finding = λ apart. begins_finding index s indexed.headers partial (state old).tables.held begins.collection roots indexed.represents.slots_hold
              (omega (arith, begins.next_is, indexed.represents.slots_hold.last_id_is, last_within s.held indexed.headers)) begins.stage_is
              (subst (λ (k : Option PlaceMap). AreFound k roots) indexed.known_is begins.found)
              (λ r place among. (begins.live r.key place).1 (root_live (state old).tables.names (state old).parts r among));
        }

    -- However far it came, it only read, or had found all.
    pub reads_or_finds : OnlyReads (state begun).disk (state new).disk
        ⊎ (HeadersAreApart s.held (state begun).disk (state new).disk → FindsAll index (roots_of (state old).tables.names (state old).parts))
    reads_or_finds = by_case so_far
      where
        by_case : IsSoFar s index indexed.headers partial roots first (state new) → OnlyReads (state begun).disk (state new).disk
            ⊎ (HeadersAreApart s.held (state begun).disk (state new).disk → FindsAll index roots)
        by_case (inl m) = inl m.reads
        by_case (inr found) = inr found

  pub finds_keys : FindsKeys C state
  finds_keys actor percent snapshot buf events s index old begun new c up runs indexed began run its apart is marked =
      by_end (so_far actor percent snapshot buf events s index old begun new up runs indexed began run its)
    where
      by_end : IsSoFar s index indexed.headers (indexed.represents.index_is_newest index indexed.known_is) (roots_of (state old).tables.names (state old).parts) (state begun).disk
          (state new)
          → FindsAll index (roots_of (state old).tables.names (state old).parts)
      by_end (inl m) =
          found_all index s indexed.headers (indexed.represents.index_is_newest index indexed.known_is) m.c (roots_of (state old).tables.names (state old).parts) (m.finding apart)
          (subst (λ (x : Collection). HasMarkedAll x.stage) (same_some c m.c (state new).collection is m.runs) marked)
      by_end (inr found) = found apart
