-- Steps of a collection before it sweeps: a container is scanned or recorded, or the sources are chosen.
use Rattle.core_machine.proofs.Prelude.{◌≡◌, ℕ, suc, ◌+◌, ◌-◌, ◌*◌, ◌<◌, Bool, true, false, List, [], ◌∷◌, ◌++◌, length, Option, Some, None, refl, sym, ◌∙◌, ap, subst, arith, slice_get, le-ltb, lt-ltb, ltb-true, Root, HeaderValue, ContainerLiveness, Next, CoreSweep, is_old, old_not_zero, CoreCollection, CoreStage, recorded, filter_at, first_slot, is_old_slot, is_tree_slot, mark_from, phase_at, trees_from, IsUnderWay, at_stage, Phase, ids_of, StoreChange, RepresentsSlots, SlotCount, SlotTable, CoreState, IsRecordOf, freed_in, ids_before, keys_written, marking, next_by, next_of, phase_by, sources_in, Running, Marking, Recording, Sweeping, of_roots, HasCopied, SameCollection, SameRun, SameStage, SameSweep, ids_at, IsMachine}
use Rattle.std.proofs.Common.{get_or}
use Rattle.std.specs.Prelude.{if◌then◌else◌, nat_lt}
use Rattle.copy_forward.specs.Headers.{IsTabled}
use Rattle.copy_forward.proofs.Tabled.{held_tabled}
use Rattle.gc_select.specs.Selecting as selecting
use Rattle.gc_select.specs.Selecting.{selected, sources_of}
use Rattle.gc_sweep.specs.declared.sweep.Next.TheVariants as nexts
use Rattle.gc_sweep.specs.Beginning as beginning
use Rattle.gc_sweep.specs.Next.{IsNext}
use Rattle.gc_sweep.proofs.Released.{open_slot}
use Rattle.gc_steps.specs.declared.collection.Stage.TheVariants as core
use Rattle.gc_steps.specs.Filtering as filtering
use Rattle.gc_steps.specs.Filtering.{recorded_by}
use Rattle.gc_steps.specs.Marking.{Scans}
use Rattle.gc_steps.proofs.RecordOf.{recorded_id_by}
use Rattle.refusals.specs.declared.refusal.Phase.TheVariants as phases
use Rattle.store_machine.specs.Collecting.{GoesOn, no_sweep}
use Rattle.store_machine.specs.Machine.{Collection, Stage}
use Rattle.core_machine.specs.Refines.{SameParts}
use Rattle.core_machine.proofs.Marked.{left_mark, one_fewer, same_marking}
use Rattle.core_machine.proofs.OldIds.{all_recorded, old_is, recorded_to, right_at}
use Rattle.core_machine.proofs.Phases.{Runs, phase_so}
use Rattle.core_machine.proofs.Rows.{M, goes_on}
use Rattle.core_machine.proofs.SweptOn.{entry_next, no_keys, source_next}

-- one more is recorded, and these come after it
push_id : (rs : List ContainerLiveness) (r : ContainerLiveness) (rest : List ℕ) → selecting.ids_of (rs ++ r ∷ []) ++ rest ≡ selecting.ids_of rs ++ r.id ∷ rest
push_id [] r rest = refl
push_id (x ∷ xs) r rest = ap (λ (ids : List ℕ). x.id ∷ ids) (push_id xs r rest)

-- nothing was changed, and nothing more is
none_more : (changes : List StoreChange) → changes ≡ [] → changes ++ [] ≡ []
none_more changes is = ap (λ (l : List StoreChange). l ++ []) is

-- ---- the first step of a sweep, of these sources

module _ (held : List (Option HeaderValue)) (t : SlotTable) (swept : Bool) (sources : List ℕ) (s : CoreSweep) (begins : beginning.Begins t sources s) where
  same_next : (next : Next) → IsNext t sources s.buffer 0 0 next → next_by held sources 0 [] [] ≡ phase_at core.Sweep next
  same_next (nexts.Copy source entry) is = ap (λ (b : Bool). if b then phases.Copy else phases.End) (lt-ltb 0 (length sources) is.2)
  same_next (nexts.Flush source entry) is = absurd (is.2 begins.empty)
  same_next (nexts.Release source entry) is = absurd is
  same_next nexts.End is = ap (λ (b : Bool). if b then phases.Copy else phases.End) (le-ltb 0 (length sources) is.1)

  no_copy : (b : Bool) → HasCopied (if b then phases.Copy else phases.End) swept
  no_copy true = tt
  no_copy false = tt

  pub begun_so : (changes : List StoreChange) → changes ≡ [] → SameSweep t swept sources changes (next_of held sources no_sweep) no_sweep s
  begun_so changes none = record {
    next_is = same_next s.next begins.next_is;
    sources_are = begins.sources_are;
    source_is = sym (source_next t sources s.buffer 0 0 s begins.sources_are (omega arith) (λ end. refl) s.next begins.next_is);
    entry_is = sym (entry_next t sources s.buffer 0 0 s begins.sources_are (omega arith) (λ end. refl) s.next begins.next_is);
    filled_is = sym (no_keys s.buffer begins.empty);
    waiting_is = sym (ap (ids_at t) begins.none_waits);
    ready_is = sym (ap (ids_at t) begins.none_ready);
    freed_is = begins.none_freed ∙ sym (ap freed_in none);
    copied_is = begins.none_copied ∙ sym (ap (λ (cs : List StoreChange). length (keys_written cs) + 0) none);
    swept_is = no_copy (nat_lt 0 (length sources));
  }

-- ---- the steps

module _ {followed : Bool} (c : CoreState) (m : M) (at : IsMachine followed m c) (runs : m.state ≡ Running) (d : CoreState)
    (tables : d.tables ≡ c.tables) (size : d.disk.size ≡ c.disk.size) (parts : d.parts ≡ c.parts) (count : d.acknowledged ≡ c.acknowledged)
    (index : d.known ≡ c.known) (stop : d.stop ≡ None) (k after : CoreCollection)
    (r : Runs c.tables.held m.swept m.collection k) (under : IsUnderWay c.tables.held k) (is_after : d.collection ≡ Some after) where
  abbrev t : SlotTable
  t = c.tables.held

  slots : RepresentsSlots m.store.held t
  slots = at.represents.slots_hold

  -- the collection of the machine then
  abbrev gone : Stage → List ContainerLiveness → Collection Root
  gone stage recorded = record r.c { stage = stage; recorded = recorded; changes = r.c.changes ++ [] }

  went_on : (stage : Stage) (recorded : List ContainerLiveness) → SameRun t m.swept (gone stage recorded) after
      → IsMachine followed (record m { collection = Some (gone stage recorded) }) d
  went_on stage recorded same =
      goes_on c m at d m.parts (Some (gone stage recorded)) tables size (subst (SameParts m.parts) (sym parts) at.parts) count index
      (subst (SameCollection t m.swept (Some (gone stage recorded))) (sym is_after) same) runs stop

  -- the machine's stage, where that of the core is this
  stage_at : (stage : CoreStage) → k.stage ≡ stage → SameStage t m.swept (sources_in r.c) r.c.changes k.snapshot k.sweep r.c.stage stage
  stage_at stage is = subst (SameStage t m.swept (sources_in r.c) r.c.changes k.snapshot k.sweep r.c.stage) is r.same.stage_is

  phase_is : (stage : CoreStage) → k.stage ≡ stage → phase_at stage k.sweep.next ≡ phase_by m.store.held r.c r.c.stage
  phase_is stage is = sym (phase_so m.store.held t m.swept r.c k at.valid.headers slots r.same under ∙ ap (λ (s : CoreStage). phase_at s k.sweep.next) is)

  abbrev Goes : Phase → Type 0
  Goes phase = (n : M) × GoesOn of_roots phase m n × IsMachine followed n d

  -- ---- a container was scanned

  module _ (level slot : ℕ) (is : k.stage ≡ core.Mark level slot) (scans : Scans t c.known c.disk d.disk level slot k after) where
    marked_left : (left : ℕ) → suc left ≡ trees_from k.snapshot t slot + (level - 1) * trees_from k.snapshot t 0
        → left ≡ trees_from k.snapshot t (slot + 1) + (level - 1) * trees_from k.snapshot t 0
    marked_left left many =
        let was = at_stage t k (core.Mark level slot) under is in
        omega (arith, many, one_fewer (is_tree_slot k.snapshot t) (length t.ids.items) slot was.2.0 was.2.1)

    marked_run : (left : ℕ) → suc left ≡ trees_from k.snapshot t slot + (level - 1) * trees_from k.snapshot t 0 → r.c.changes ≡ []
        → SameRun t m.swept (gone (marking left) r.c.recorded) after
    marked_run left many none = subst (SameRun t m.swept (gone (marking left) r.c.recorded)) (sym scans.collection_is) (record {
      percent_is = r.same.percent_is;
      snapshot_is = r.same.snapshot_is;
      recorded_is = r.same.recorded_is;
      stage_is = subst
          (λ (changes : List StoreChange).
          SameStage t m.swept (sources_in (gone (marking left) r.c.recorded)) changes k.snapshot k.sweep (marking left) (mark_from k.snapshot t level (slot + 1)))
          (sym (none_more r.c.changes none))
          (same_marking t k.snapshot m.swept (sources_in (gone (marking left) r.c.recorded)) k.sweep left (mark_from k.snapshot t level (slot + 1))
          (left_mark t k.snapshot level (slot + 1) left (let was = at_stage t k (core.Mark level slot) under is in omega (arith, was.2.0)) (marked_left left many)));
    })

    marked_by : (stage : Stage) → r.c.stage ≡ stage → SameStage t m.swept (sources_in r.c) r.c.changes k.snapshot k.sweep stage (core.Mark level slot) → Goes phases.Mark
    marked_by (Marking left) was same = (
      record m { collection = Some (gone (marking left) r.c.recorded) },
      record {
        c = r.c;
        ran = r.ran;
        phase_is = phase_is (core.Mark level slot) is;
        went = record { stage = marking left; recorded = r.c.recorded; changes = []; forgotten = m.forgotten };
        goes = (left, was, refl, (refl, refl, refl));
        makes = refl;
        others = refl;
      },
      went_on (marking left) r.c.recorded (marked_run left same.0 same.1),
    )
    marked_by Recording was same = absurd same
    marked_by (Sweeping next p) was same = absurd same

    pub mark_step : Goes phases.Mark
    mark_step = marked_by r.c.stage refl (stage_at (core.Mark level slot) is)

  -- ---- a container was recorded

  module _ (slot : ℕ) (is : k.stage ≡ core.Filter slot) (records : filtering.Records t c.known c.disk d.disk slot k after) where
    within : slot < length t.ids.items
    within = (at_stage t k (core.Filter slot) under is).0.0

    old : is_old k.snapshot (get_or t.ids.items slot 0) ≡ true
    old = (at_stage t k (core.Filter slot) under is).0.1

    abbrev one : ContainerLiveness
    one = recorded t slot records.live

    id_same : get_or t.ids.items slot 0 ≡ get_or (ids_of m.store.held) slot 0
    id_same = ap (λ (ids : List ℕ). get_or ids slot 0) slots.ids_are

    there : (h : HeaderValue) × (slice_get m.store.held slot ≡ Some (Some h))
    there = open_slot m.store.held slot (λ none. old_not_zero k.snapshot (get_or t.ids.items slot 0) old (id_same ∙ none))

    tabled : IsTabled t slot there.0
    tabled = held_tabled m.store.held t slot there.0 slots there.1

    before : there.0.id < r.c.snapshot
    before =
        let right = right_at m.store.held slot there.0 at.valid.headers there.1 in
        let below = ltb-true there.0.id k.snapshot (sym (old_is k.snapshot there.0 right) ∙ ap (is_old k.snapshot) (sym tabled.id_is) ∙ old) in
        omega (arith, below, r.same.snapshot_is)

    record_of : IsRecordOf of_roots r.c m.store one
    record_of = record {
      slot = slot;
      header = there.0;
      there = there.1;
      before = before;
      id_is = recorded_id_by (get_or t.ids.items slot 0) (slice_get t.counts.items slot) records.live ∙ tabled.id_is;
      kind_is = ap (λ (found : Option SlotCount). (recorded_by (get_or t.ids.items slot 0) found records.live).kind) tabled.count_is;
      all_is = ap (λ (found : Option SlotCount). (recorded_by (get_or t.ids.items slot 0) found records.live).all) tabled.count_is
          ∙ sym (right_at m.store.held slot there.0 at.valid.headers there.1).whole;
      live_is = λ known. absurd known;
    }

    in_turn : (rest : List ℕ) × (ids_before r.c.snapshot m.store.held ≡ selecting.ids_of (r.c.recorded ++ one ∷ []) ++ rest)
    in_turn =
        let came = recorded_to m.store.held t k at.valid.headers slots slot within old (at_stage t k (core.Filter slot) under is).1 in (
          came.0,
          ap (λ (n : ℕ). ids_before n m.store.held) r.same.snapshot_is ∙ came.1
              ∙ ap (λ (rs : List ContainerLiveness). selecting.ids_of rs ++ get_or t.ids.items slot 0 ∷ came.0) (sym r.same.recorded_is)
              ∙ ap (λ (id : ℕ). selecting.ids_of r.c.recorded ++ id ∷ came.0) (sym (recorded_id_by (get_or t.ids.items slot 0) (slice_get t.counts.items slot) records.live))
              ∙ sym (push_id r.c.recorded one came.0),
        )

    stage_on : (changes : List StoreChange) (sources : List ℕ) (found : Option ℕ) → changes ≡ []
        → SameStage t m.swept sources changes k.snapshot k.sweep Recording (filter_at found)
    stage_on changes sources None none = none
    stage_on changes sources (Some next) none = none

    recorded_run : r.c.changes ≡ [] → SameRun t m.swept (gone Recording (r.c.recorded ++ one ∷ [])) after
    recorded_run none = subst (SameRun t m.swept (gone Recording (r.c.recorded ++ one ∷ []))) (sym records.collection_is) (record {
      percent_is = r.same.percent_is;
      snapshot_is = r.same.snapshot_is;
      recorded_is = ap (λ (rs : List ContainerLiveness). rs ++ one ∷ []) r.same.recorded_is;
      stage_is =
          stage_on (r.c.changes ++ []) (sources_in (gone Recording (r.c.recorded ++ one ∷ []))) (first_slot t (is_old_slot k.snapshot t) (slot + 1)) (none_more r.c.changes none);
    })

    recorded_by_stage : (stage : Stage) → r.c.stage ≡ stage → SameStage t m.swept (sources_in r.c) r.c.changes k.snapshot k.sweep stage (core.Filter slot) → Goes phases.Filter
    recorded_by_stage (Marking left) was same = absurd same
    recorded_by_stage Recording was none = (
      record m { collection = Some (gone Recording (r.c.recorded ++ one ∷ [])) },
      record {
        c = r.c;
        ran = r.ran;
        phase_is = phase_is (core.Filter slot) is;
        went = record { stage = Recording; recorded = r.c.recorded ++ one ∷ []; changes = []; forgotten = m.forgotten };
        goes = (one, was, refl, refl, refl, refl, in_turn, record_of);
        makes = refl;
        others = refl;
      },
      went_on Recording (r.c.recorded ++ one ∷ []) (recorded_run none),
    )
    recorded_by_stage (Sweeping next p) was same = absurd same

    pub record_step : Goes phases.Filter
    record_step = recorded_by_stage r.c.stage refl (stage_at (core.Filter slot) is)

  -- ---- the sources were chosen

  module _ (is : k.stage ≡ core.Select) (chooses : filtering.Chooses t k after) where
    abbrev first : Stage
    first = Sweeping (next_of m.store.held (sources_in r.c) no_sweep) no_sweep

    -- they are those of the machine
    same_sources : after.sweep.sources.items ≡ sources_in r.c
    same_sources =
        chooses.sources_are ∙ ap (λ (n : ℕ). sources_of (selected n k.percent k.liveness)) (sym r.same.snapshot_is)
        ∙ ap (λ (n : ℕ). sources_of (selected r.c.snapshot n k.liveness)) (sym r.same.percent_is)
        ∙ ap (λ (rs : List ContainerLiveness). sources_of (selected r.c.snapshot r.c.percent rs)) (sym r.same.recorded_is)

    chosen_run : r.c.changes ≡ [] → SameRun t m.swept (gone first r.c.recorded) after
    chosen_run none = subst (SameRun t m.swept (gone first r.c.recorded)) (sym chooses.collection_is) (record {
      percent_is = r.same.percent_is;
      snapshot_is = r.same.snapshot_is;
      recorded_is = r.same.recorded_is;
      stage_is = begun_so m.store.held t m.swept (sources_in r.c) after.sweep
          (subst (λ (sources : List ℕ). beginning.Begins t sources after.sweep) same_sources chooses.begins) (r.c.changes ++ []) (none_more r.c.changes none);
    })

    chosen_by : (stage : Stage) → r.c.stage ≡ stage → SameStage t m.swept (sources_in r.c) r.c.changes k.snapshot k.sweep stage core.Select → Goes phases.Select
    chosen_by (Marking left) was same = absurd same
    chosen_by Recording was none = (
      record m { collection = Some (gone first r.c.recorded) },
      record {
        c = r.c;
        ran = r.ran;
        phase_is = phase_is core.Select is;
        went = record { stage = first; recorded = r.c.recorded; changes = []; forgotten = m.forgotten };
        goes = (
          was,
          ap selecting.ids_of r.same.recorded_is ∙ all_recorded m.store.held t k at.valid.headers slots (at_stage t k core.Select under is).0
              ∙ ap (λ (n : ℕ). ids_before n m.store.held) (sym r.same.snapshot_is),
          refl,
          (refl, refl, refl),
        );
        makes = refl;
        others = refl;
      },
      went_on first r.c.recorded (chosen_run none),
    )
    chosen_by (Sweeping next p) was same = absurd same

    pub choose_step : Goes phases.Select
    choose_step = chosen_by r.c.stage refl (stage_at core.Select is)
