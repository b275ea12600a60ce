-- What steps do to the collection that runs, and what its own steps do to the core (docs/MODEL.md, 'The core').
use Rattle.std.specs.Prelude.{◌≡◌, ◌↔◌, ◌+◌, ◌-◌, ◌*◌, ◌^◌, ◌≤◌, ℕ, List, [], ◌∷◌, ◌++◌, length, min, take, Contains, Option, Some, None, Result, Ok, Err}
use Rattle.container_meta.specs.declared.place.Place.{Place}
use Rattle.container_meta.specs.Places.{PlaceMap}
use Rattle.container_meta.specs.Segments.{Contents, keys_of, segment_key}
use Rattle.dd_disk.specs.Ending.{CountsFault, Reads, ending}
use Rattle.dd_disk.specs.View.{DiskView, IsLater}
use Rattle.disk_format.specs.declared.numbers.TheConstants.{MOST_LEVEL}
use Rattle.actor_parts.specs.declared.step.Answer.{Answer}
use Rattle.actor_parts.specs.declared.step.Answer.TheVariants as answers
use Rattle.actor_parts.specs.StepValue as asked
use Rattle.actor_parts.specs.StepValue.{StepValue}
use Rattle.refusals.specs.declared.refusal.Phase.{Phase}
use Rattle.refusals.specs.declared.refusal.Refusal.{Refusal}
use Rattle.refusals.specs.declared.refusal.Refusal.TheVariants as refusals
use Rattle.gc_enumerate.specs.Live.{IsLiveAt, LiveKeys}
use Rattle.gc_steps.specs.declared.collection.Collection.{Collection}
use Rattle.gc_sweep.specs.declared.sweep.Next.TheVariants.{End}
use Rattle.gc_sweep.specs.Beginning.{Begins as SweepBegins}
use Rattle.gc_steps.specs.declared.collection.Stage.TheVariants.{Sweep}
use Rattle.gc_steps.specs.declared.phase.StepDone.TheVariants.{Did}
use Rattle.gc_steps.specs.Fresh.{IsAsLive, Unmarks}
use Rattle.gc_steps.specs.Roots.{IsRoot, Marks, roots_of}
use Rattle.gc_steps.specs.Stages.{mark_level}
use Rattle.gc_steps.specs.Starting.{AreFound, IsStartRefusal}
use Rattle.gc_steps.specs.Stepping.{IsStepRefusal, Keeps, Moment, StepsTo, TablesAfter, Touches, answer_of, moment, phase_at}
use Rattle.gc_steps.specs.StepsToCome.{Nears, old_from, steps_to_come, trees_from}
use Rattle.segment_index.specs.Places.{KnownMap}
use Rattle.store_state.specs.Refused.{blames}
use Rattle.gc_steps.specs.UnderWay.{IsUnderWay}
use Rattle.store_core.specs.State.{CoreState, IsUnderWayIn}

-- ---- what other steps do to it

-- the keys of the segments of containers, one after the other
abbrev pub keys_in : List Contents → List (List ℕ)
keys_in [] = []
keys_in (c ∷ cs) = keys_of c ++ keys_in cs

-- the key of a segment that a step keeps: one that was claimed and is held, and each of the containers that were sealed
abbrev pub IsKeptKey : StepValue → Result Answer Refusal → List ℕ → Type 0
IsKeptKey (asked.Claim seg) (Ok answers.Held) key = key ≡ segment_key seg.kind seg.segment
IsKeptKey (asked.Seal offered) (Ok (answers.Sealed id count)) key = Contains (keys_in (take count offered)) key
IsKeptKey step answer key = ⊥

-- a segment that was claimed is held
abbrev pub IsHeldAnswer : Result Answer Refusal → Type 0
IsHeldAnswer (Ok answers.Held) = Unit {0}
IsHeldAnswer answer = ⊥

-- The collection that runs, if one does, is the same, but that just the keys of which P holds became live.
abbrev pub MarksIn : (List ℕ → Type 0) → Option Collection → Option Collection → Type 0
MarksIn P None new = new ≡ None
MarksIn P (Some c) new = (live : LiveKeys) × ((new ≡ Some (record c { live = live })) × Marks P c.live live)

-- Once just these keys are unmarked, each key is as live as it was before.
abbrev pub Restores : Option Collection → Option Collection → List (List ℕ) → Type 0
Restores None now fresh = now ≡ None
Restores (Some c) now fresh =
    (live : LiveKeys) × ((now ≡ Some (record c { live = live })) × ((after : LiveKeys) → Unmarks fresh live after → IsAsLive c.live after))

-- What a step does to it. The rows of its own steps say what these do.
abbrev pub Collects : StepValue → Result Answer Refusal → CoreState → CoreState → Type 0
Collects (asked.Claim seg) answer old new = MarksIn (IsKeptKey (asked.Claim seg) answer) old.collection new.collection
Collects (asked.Seal offered) answer old new = MarksIn (IsKeptKey (asked.Seal offered) answer) old.collection new.collection
Collects (asked.GcStart percent) answer old new = Unit {0}
Collects asked.GcStep answer old new = Unit {0}
Collects step answer old new = new.collection ≡ old.collection

-- ---- it begins

-- None ran, and one runs: its snapshot is the next container id, and just the roots of names and readers and all pins are live. The index
-- has each of them at its level.
pub record Begins (percent snapshot : ℕ) (old new : CoreState) : Type 0 where
  pub none_ran : old.collection ≡ None
  pub collection : Collection
  pub runs : new.collection ≡ Some collection
  pub snapshot_is : snapshot ≡ collection.snapshot
  pub next_is : collection.snapshot ≡ min (old.tables.held.last_id + 1) (2 ^ 64 - 1)
  pub percent_is : collection.percent ≡ percent
  pub live : (key : List ℕ) (place : Place) → IsLiveAt collection.live key place ↔ IsRoot old.tables.names old.parts key
  pub found : AreFound old.known (roots_of old.tables.names old.parts)
  pub nothing_yet : (collection.liveness ≡ []) × SweepBegins old.tables.held [] collection.sweep
  pub under_way : IsUnderWay old.tables.held collection
  pub stage_is : collection.stage ≡ mark_level collection.snapshot old.tables.held MOST_LEVEL
  -- So many steps come at most: for each level the tree containers, a record of each container, the choice, and four for each source.
  pub steps : (chosen : ℕ) → steps_to_come chosen old.tables.held collection
      ≤ 6 * trees_from collection.snapshot old.tables.held 0 + old_from collection.snapshot old.tables.held 0 + 1 + 4 * chosen

-- one runs, whose next step does this
abbrev pub IsCollecting : Phase → Option Collection → Type 0
IsCollecting phase running = (c : Collection) × ((running ≡ Some c) × (phase ≡ phase_at c.stage c.sweep.next))

-- None ran, and none runs: memory ran out, or a root is the first that the index doesn't have at its level. The index in memory knows its
-- map by itself.
pub record IsUnbegun (refusal : Refusal) (old new : CoreState) : Type 0 where
  pub none_ran : old.collection ≡ None
  pub cause : IsStartRefusal old.known old.known (roots_of old.tables.names old.parts) refusal
  pub none_runs : new.collection ≡ old.collection
  pub parts_are : new.parts ≡ old.parts

abbrev pub StartRow : ℕ → Result Answer Refusal → CoreState → CoreState → Type 0
StartRow percent (Ok (answers.Started snapshot)) old new = Begins percent snapshot old new × (new.parts ≡ old.parts)
StartRow percent (Err (refusals.Collecting phase)) old new =
    IsCollecting phase old.collection × (new.collection ≡ old.collection) × (new.parts ≡ old.parts)
StartRow percent (Err refusal) old new = IsUnbegun refusal old new
StartRow percent (Ok answer) old new = ⊥

-- ---- its steps

abbrev pub at_moment : CoreState → Collection → Moment
at_moment c collection = moment c.tables c.known c.disk collection

-- A step was made, and it goes on; fewer steps are to come.
pub record GoesOn (phase : Phase) (old new : CoreState) : Type 0 where
  pub before : Collection
  pub ran : old.collection ≡ Some before
  pub after : Collection
  pub runs : new.collection ≡ Some after
  pub phase_is : answer_of before ≡ Did phase
  pub steps : StepsTo before.stage before.sweep.next (at_moment old before) (at_moment new after)
  pub tables : TablesAfter before.stage before.sweep.next (at_moment old before) (at_moment new after)
  pub nearer : (chosen : ℕ) → length after.sweep.sources.items ≤ chosen
      → Nears (Did phase) (steps_to_come chosen old.tables.held before) (steps_to_come chosen new.tables.held after)

-- It was at its end, and runs no more; so many containers were given back, and so many segments copied.
pub record HasEnded (freed copied : ℕ) (old new : CoreState) : Type 0 where
  pub before : Collection
  pub ran : old.collection ≡ Some before
  pub at_end : (before.stage ≡ Sweep) × (before.sweep.next ≡ End)
  pub ended : new.collection ≡ None
  pub freed_is : freed ≡ before.sweep.freed
  pub copied_is : copied ≡ before.sweep.copied
  pub tables_are : new.tables ≡ old.tables
  pub index_is : new.known ≡ old.known

-- None was made, for its cause; what that leaves as it was.
pub record IsNotMade (refusal : Refusal) (old new : CoreState) : Type 0 where
  pub before : Collection
  pub ran : old.collection ≡ Some before
  pub after : Collection
  pub runs : new.collection ≡ Some after
  pub cause : IsStepRefusal before.stage before.sweep.next (at_moment old before) new.disk refusal
  pub kept : Keeps before.stage before.sweep.next (at_moment old before) (at_moment new after) refusal
  pub tables_are : new.tables ≡ old.tables

-- none runs
pub record NoneRuns (old new : CoreState) : Type 0 where
  pub none_ran : old.collection ≡ None
  pub none_runs : new.collection ≡ None
  pub tables_are : new.tables ≡ old.tables
  pub index_is : new.known ≡ old.known

abbrev pub GcRow : Result Answer Refusal → CoreState → CoreState → Type 0
GcRow (Ok (answers.Did phase)) old new = GoesOn phase old new × (new.parts ≡ old.parts)
GcRow (Ok (answers.Done freed copied)) old new = HasEnded freed copied old new × (new.parts ≡ old.parts)
GcRow (Err refusals.NotCollecting) old new = NoneRuns old new × (new.parts ≡ old.parts)
GcRow (Err refusal) old new = IsNotMade refusal old new × (new.parts ≡ old.parts)
GcRow answer old new = ⊥

-- What it does to the disk, however it ends.
abbrev pub TouchesBy : Option Collection → Result Answer Refusal → CoreState → DiskView → Type 0
TouchesBy None answer old new = Reads (ending blames answer) old.disk new
TouchesBy (Some c) answer old new = Touches c.stage c.sweep.next c.sweep old.tables (ending blames answer) old.disk new

pub record GcEffect (answer : Result Answer Refusal) (old new : CoreState) : Type 0 where
  pub later : IsLater old.disk new.disk
  pub faults_are : CountsFault (ending blames answer) old.disk.faults new.disk.faults
  pub touches : TouchesBy old.collection answer old new.disk
  pub under_way : IsUnderWayIn old.tables.held old.collection → IsUnderWayIn new.tables.held new.collection
  -- the map of the index is known still
  pub tells : KnownMap old.known (λ _. (places : PlaceMap) × (new.known ≡ Some places))
