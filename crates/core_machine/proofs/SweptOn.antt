-- What a step of a sweep leaves of the machine: common to its steps, whatever they do.
use Rattle.core_machine.proofs.Prelude.{◌≡◌, ◌≢◌, ◌≤◌, ℕ, Bool, true, List, [], ◌∷◌, ◌++◌, length, Option, Some, None, refl, sym, ◌∙◌, ap, subst, arith, AllByRecursion, PlaceMap, segment_key, HeaderValue, Root, LAST_ID, Phase, IsValidFor, Store, last_sequence, names_of, HasFree, StoreChange, SlotTable, Tables, Represents, Next, CoreSweep, IsSweeping, entry_in, sources_before, CoreCollection, Moment, IsUnderWay, at_stage, Makes, Went, next_by, phase_in, sources_in, swept_by, Marking, Recording, Sweeping, of_roots, HasCopied, SameRun, SameStage, SameSweep, ids_at, TellsForgotten, ForgetsBy, changes_of}
use Rattle.std.proofs.Common.{get_or, map}
use Rattle.container_meta.specs.Segments.{Contents, keys_of}
use Rattle.refusals.specs.declared.refusal.Phase.TheVariants as phases
use Rattle.gc_sweep.specs.declared.sweep.Next.TheVariants as nexts
use Rattle.gc_sweep.specs.Next.{IsNext}
use Rattle.gc_steps.specs.declared.collection.Stage.TheVariants as stages
use Rattle.store_machine.specs.Collecting.{Goes, GoesOn, last_by}
use Rattle.store_machine.specs.Machine.{Collection, Stage, Sweep}
use Rattle.core_machine.proofs.Rows.{M}

-- ---- a step that was made

-- the machine after it, with this store
abbrev pub went_to : Phase → Collection Root → Went → Store → M → M
went_to phase c w store m = record m {
  store = store;
  last_id = last_by w.changes m.last_id;
  forgotten = w.forgotten;
  swept = swept_by phase m.swept;
  collection = Some (record c { stage = w.stage; recorded = w.recorded; changes = c.changes ++ w.changes });
}

-- What is known of the map of the index before a step, and after it.
pub record MapMoves (followed : Bool) (forgotten : List (List ℕ)) (held : List (Option HeaderValue)) (known now : Option PlaceMap) : Type 0 where
  pub before : PlaceMap
  pub was : known ≡ Some before
  pub after : PlaceMap
  pub is : now ≡ Some after
  pub told : followed ≡ true → TellsForgotten forgotten held before

-- A step of the machine's sweep: what it makes of the store is what these tables represent, and the collection is that of the core then. Names
-- and numbers stay.
pub record Swept (followed : Bool) (places : PlaceMap) (old new : Moment) (phase : Phase) (m : M) (c : Collection Root) (tables : Tables) (k : CoreCollection) : Type 0 where
  pub went : Went
  pub store : Store
  pub goes : Goes of_roots phase c m went
  pub makes : Makes went.changes m.store store
  pub represents : Represents store None tables
  pub valid : (size : ℕ) → IsValidFor size m.store → IsValidFor size store
  pub free : HasFree store.held
  pub names : names_of store ≡ names_of m.store
  pub last : last_sequence store ≡ last_sequence m.store
  pub last_id : last_by went.changes m.last_id ≡ tables.held.last_id
  pub last_within : m.last_id ≤ LAST_ID → last_by went.changes m.last_id ≤ LAST_ID
  pub run : SameRun tables.held (swept_by phase m.swept) (record c { stage = went.stage; recorded = went.recorded; changes = c.changes ++ went.changes }) k
  pub told : followed ≡ true → TellsForgotten went.forgotten store.held places
  pub changes_are : went.changes ≡ changes_of phase m.last_id old.collection.sweep
  pub forgets : ForgetsBy phase old new m.forgotten went.forgotten

-- and so the machine went on
pub goes_on : {followed : Bool} {places : PlaceMap} {old new : Moment} (phase : Phase) (m : M) (c : Collection Root) (tables : Tables) (k : CoreCollection) → m.collection ≡ Some c
    → phase ≡ phase_in m.store c → (s : Swept followed places old new phase m c tables k) → GoesOn of_roots phase m (went_to phase c s.went s.store m)
goes_on phase m c tables k ran is s = record { c = c; ran = ran; phase_is = is; went = s.went; goes = s.goes; makes = s.makes; others = refl }

-- ---- the core's collection, where it sweeps

-- the machine's sweeps, too
pub record AtSweep (t : SlotTable) (swept : Bool) (c : Collection Root) (sweep : CoreSweep) : Type 0 where
  pub next : Phase
  pub s : Sweep
  pub stage_is : c.stage ≡ Sweeping next s
  pub same : SameSweep t swept (sources_in c) c.changes next s sweep

pub at_sweep : (t : SlotTable) (swept : Bool) (c : Collection Root) (k : CoreCollection) → SameRun t swept c k → k.stage ≡ stages.Sweep → AtSweep t swept c k.sweep
at_sweep t swept c k run is = by c.stage refl (subst (SameStage t swept (sources_in c) c.changes k.snapshot k.sweep c.stage) is run.stage_is)
  where
    by : (stage : Stage) → c.stage ≡ stage → SameStage t swept (sources_in c) c.changes k.snapshot k.sweep stage stages.Sweep → AtSweep t swept c k.sweep
    by (Marking left) at same = absurd same
    by Recording at same = absurd same
    by (Sweeping next s) at same = record { next = next; s = s; stage_is = at; same = same }

pub is_sweeping : (t : SlotTable) (k : CoreCollection) → IsUnderWay t k → k.stage ≡ stages.Sweep → IsSweeping t k.snapshot k.sweep
is_sweeping t k under is = at_stage t k stages.Sweep under is

-- once the sweep is another, and so is the machine's
pub run_on : (t now : SlotTable) (swept swept_now : Bool) (c : Collection Root) (k after : CoreCollection) (next : Phase) (s : Sweep) (more : List StoreChange)
    → SameRun t swept c k → k.stage ≡ stages.Sweep → after ≡ record k { sweep = after.sweep } → SameSweep now swept_now (sources_in c) (c.changes ++ more) next s after.sweep
    → SameRun now swept_now (record c { stage = Sweeping next s; recorded = c.recorded; changes = c.changes ++ more }) after
run_on t now swept swept_now c k after next s more run is after_is same =
    subst (SameRun now swept_now (record c { stage = Sweeping next s; recorded = c.recorded; changes = c.changes ++ more })) (sym after_is) so
  where
    so : SameRun now swept_now (record c { stage = Sweeping next s; recorded = c.recorded; changes = c.changes ++ more }) (record k { sweep = after.sweep })
    so = record {
      percent_is = run.percent_is;
      snapshot_is = run.snapshot_is;
      recorded_is = run.recorded_is;
      stage_is = subst (SameStage now swept_now (sources_in c) (c.changes ++ more) k.snapshot after.sweep (Sweeping next s)) (sym is) same;
    }

-- each phase may come, once something was copied
pub copied_so : (phase : Phase) → HasCopied phase true
copied_so phases.Flush = refl
copied_so phases.Release = refl
copied_so phase = tt

-- ---- what comes next

module _ (t : SlotTable) (sources : List ℕ) (buffer : Contents) (source entry : ℕ) (s : CoreSweep) (sources_are : s.sources.items ≡ sources) (few : source ≤ length sources)
    (none : length sources ≤ source → entry ≡ 0) where
  -- the sources that came to their end, and the entry from which the next goes on
  pub source_next : (n : Next) → IsNext t sources buffer source entry n → sources_before s n ≡ source
  source_next (nexts.Copy k e) is = is.0
  source_next (nexts.Flush k e) is = is.0
  source_next (nexts.Release k e) is = absurd is
  source_next nexts.End is = omega (arith, few, is.1, ap length sources_are)

  pub entry_next : (n : Next) → IsNext t sources buffer source entry n → entry_in n ≡ entry
  entry_next (nexts.Copy k e) is = is.1
  entry_next (nexts.Flush k e) is = is.1
  entry_next (nexts.Release k e) is = absurd is
  entry_next nexts.End is = sym (none is.1)

-- one that is ready is given back
pub next_ready : (held : List (Option HeaderValue)) (sources : List ℕ) (source : ℕ) (ready : List ℕ) (filled : List (List ℕ)) → ready ≢ []
    → next_by held sources source ready filled ≡ phases.Release
next_ready held sources source [] filled some = absurd (some refl)
next_ready held sources source (id ∷ ids) filled some = refl

-- ---- lists

-- a container that is filled with nothing has no keys, of whatever kind it is
pub no_keys : (c : Contents) → c.segments ≡ [] → keys_of c ≡ []
no_keys c none = ap (map (segment_key c.kind)) none

-- no ids are those of no slots
pub no_slots : (t : SlotTable) (slots : List ℕ) → ids_at t slots ≡ [] → slots ≡ []
no_slots t [] is = refl
no_slots t (w ∷ ws) is = absurd (omega (arith, ap length is))

-- ids stay where the table has the same ones in their slots
pub ids_kept : (t now : SlotTable) (slots : List ℕ) → AllByRecursion (λ w. get_or now.ids.items w 0 ≡ get_or t.ids.items w 0) slots
    → ids_at t slots ≡ ids_at now slots
ids_kept t now [] all = refl
ids_kept t now (w ∷ ws) all =
    ap (λ (n : ℕ). n ∷ ids_at t ws) (sym all.0) ∙ ap (λ (ids : List ℕ). get_or now.ids.items w 0 ∷ ids) (ids_kept t now ws all.1)
