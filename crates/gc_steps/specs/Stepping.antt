-- What the next step of a collection does, by its stage (docs/MODEL.md, 'Collection').
use Rattle.std.specs.Prelude.{◌≡◌, ℕ, ◌+◌, ◌≤◌, length, Option, Some, Result, IfOk, IfErr}
use Rattle.base_model.specs.Known.{Known}
use Rattle.container_meta.specs.Places.{PlaceMap}
use Rattle.copy_forward.specs.Entries.{MapStays}
use Rattle.dd_disk.specs.Ending.{CountsFault, Ending, Reads}
use Rattle.dd_disk.specs.Moves.{Acts}
use Rattle.dd_disk.specs.View.{DiskView, IsDurable, IsLater}
use Rattle.disk_format.specs.Layout.{size_of, slot_at}
use Rattle.ingest_steps.specs.Sealing.{KeepsMap, SealsIndexed, places_with}
use Rattle.refusals.specs.declared.refusal.Phase.{Phase}
use Rattle.refusals.specs.declared.refusal.Phase.TheVariants as phases
use Rattle.refusals.specs.declared.refusal.Refusal.{Refusal}
use Rattle.refusals.specs.declared.refusal.Refusal.TheVariants.{Memory, DiskWrite}
use Rattle.segment_index.specs.Changes.{Changes}
use Rattle.segment_index.specs.Places.{KnownMap}
use Rattle.store_state.specs.Settled as settled
use Rattle.store_state.specs.Tables.{Runs}
use Rattle.store_state.specs.declared.tables.Tables.{Tables}
use Rattle.gc_sweep.specs.declared.sweep.Next.{Next}
use Rattle.gc_sweep.specs.declared.sweep.Next.TheVariants.{Copy, Flush, Release, End}
use Rattle.gc_sweep.specs.declared.sweep.Sweep.{Sweep as SweepValue}
use Rattle.gc_sweep.specs.Copying.{CopiesSource, IsCopyStepRefusal, copy_step}
use Rattle.gc_sweep.specs.Flushing.{HasFlushed, IsFlushStepRefusal, WritesCopies}
use Rattle.gc_sweep.specs.Ready.{HasReleased}
use Rattle.gc_sweep.specs.Releasing.{ChangesGatesAlone, GivesBack, HasFreed, HasNoEntryInAny}
use Rattle.gc_steps.specs.declared.collection.Collection.{Collection}
use Rattle.gc_steps.specs.declared.collection.Stage.{Stage}
use Rattle.gc_steps.specs.declared.collection.Stage.TheVariants.{Mark, Filter, Select, Sweep}
use Rattle.gc_steps.specs.declared.phase.StepDone.{StepDone}
use Rattle.gc_steps.specs.declared.phase.StepDone.TheVariants.{Did, Done}
use Rattle.gc_steps.specs.Filtering.{Chooses, IsRecordRefusal, Records}
use Rattle.gc_steps.specs.Marking.{IsMarkRefusal, KeepsMarks, Scans}
use Rattle.gc_steps.specs.StepsToCome.{Nears, steps_to_come}

-- ---- what it is called

-- what the step of a stage does; and, where it sweeps, what comes next there
abbrev pub phase_at : Stage → Next → Phase
phase_at (Mark level slot) next = phases.Mark
phase_at (Filter slot) next = phases.Filter
phase_at Select next = phases.Select
phase_at Sweep (Copy source entry) = phases.Copy
phase_at Sweep (Flush source entry) = phases.Flush
phase_at Sweep (Release source entry) = phases.Release
phase_at Sweep End = phases.End

-- and what it answers, where so many sources were given back and so many segments copied
abbrev pub answer_at : Stage → Next → ℕ → ℕ → StepDone
answer_at Sweep End freed copied = Done freed copied
answer_at stage next freed copied = Did (phase_at stage next)

abbrev pub answer_of : Collection → StepDone
answer_of c = answer_at c.stage c.sweep.next c.sweep.freed c.sweep.copied

-- ---- what it does

-- a collection, with the tables, the map of the index and the disk, at a moment
pub record Moment : Type 1 where
  pub tables : Tables
  pub known : Option PlaceMap
  pub disk : DiskView
  pub collection : Collection

abbrev pub moment : Tables → Option PlaceMap → DiskView → Collection → Moment
moment tables known disk collection = record { tables = tables; known = known; disk = disk; collection = collection }

-- nothing but its sweep is another
abbrev pub SweepsOn : Moment → Moment → Type 0
SweepsOn old new = new.collection ≡ record old.collection { sweep = new.collection.sweep }

-- What was copied is written: the index has its places, where the disk tells its content, and the sources that waited are ready.
pub record Flushes (source entry : ℕ) (old new : Moment) : Type 0 where
  pub slot : ℕ
  pub writes : WritesCopies old.tables old.disk.size old.known slot old.collection.sweep.buffer new.tables
  pub places : Known old.disk.content (λ _. KnownMap old.known (λ m. new.known ≡ places_with old.collection.sweep.buffer slot (Some m)))
  pub flushed : HasFlushed source entry old.collection.sweep new.collection.sweep
  pub sweeps : SweepsOn old new

-- What it does to the collection and to the map of the index, which stays where containers are given back if the disk tells its content; at
-- the end nothing.
abbrev pub StepsTo : Stage → Next → Moment → Moment → Type 0
StepsTo (Mark level slot) next old new =
    Scans old.tables.held old.known old.disk new.disk level slot old.collection new.collection × (new.known ≡ old.known)
StepsTo (Filter slot) next old new =
    Records old.tables.held old.known old.disk new.disk slot old.collection new.collection × (new.known ≡ old.known)
StepsTo Select next old new = Chooses old.tables.held old.collection new.collection × (new.known ≡ old.known)
StepsTo Sweep (Copy source entry) old new =
    CopiesSource (copy_step old.tables.held old.collection.live old.known source entry old.collection.sweep) new.known old.disk new.disk
    new.collection.sweep × SweepsOn old new
StepsTo Sweep (Flush source entry) old new = Flushes source entry old new
StepsTo Sweep (Release source entry) old new =
    HasReleased new.tables.held source entry old.collection.sweep new.collection.sweep × SweepsOn old new
    × IsDurable new.disk × Known old.disk.content (λ _. new.known ≡ old.known)
StepsTo Sweep End old new = (new.collection ≡ old.collection) × (new.known ≡ old.known)

-- and to the tables, which stay but that a container is written or some are given back
abbrev pub TablesAfter : Stage → Next → Moment → Moment → Type 0
TablesAfter Sweep (Flush source entry) old new =
    (slot : ℕ) × WritesCopies old.tables old.disk.size old.known slot old.collection.sweep.buffer new.tables
TablesAfter Sweep (Release source entry) old new = HasFreed old.tables old.collection.sweep.ready.items new.tables
TablesAfter stage next old new = new.tables ≡ old.tables

-- why it is refused; at the end it is not
abbrev pub IsStepRefusal : Stage → Next → Moment → DiskView → Refusal → Type 0
IsStepRefusal (Mark level slot) next old new refusal =
    IsMarkRefusal old.tables.held old.known old.disk new level slot old.collection.live refusal
IsStepRefusal (Filter slot) next old new refusal = IsRecordRefusal old.tables.held old.known old.disk new slot refusal
IsStepRefusal Select next old new refusal = refusal ≡ Memory
IsStepRefusal Sweep (Copy source entry) old new refusal =
    IsCopyStepRefusal (copy_step old.tables.held old.collection.live old.known source entry old.collection.sweep) old.disk new refusal
IsStepRefusal Sweep (Flush source entry) old new refusal = IsFlushStepRefusal old.tables old.known refusal
IsStepRefusal Sweep (Release source entry) old new refusal = refusal ≡ DiskWrite
IsStepRefusal Sweep End old new refusal = ⊥

-- what a refusal leaves as it was
abbrev pub Keeps : Stage → Next → Moment → Moment → Refusal → Type 0
Keeps (Mark level slot) next old new refusal =
    KeepsMarks old.known old.disk new.disk level slot old.collection new.collection refusal × (new.known ≡ old.known)
Keeps Sweep (Copy source entry) old new refusal = (new.collection ≡ old.collection) × MapStays old.known new.known refusal
Keeps Sweep (Flush source entry) old new refusal = (new.collection ≡ old.collection) × KeepsMap old.known new.known refusal
Keeps Sweep (Release source entry) old new refusal = new.collection ≡ old.collection
Keeps stage next old new refusal = (new.collection ≡ old.collection) × (new.known ≡ old.known)

-- What it does to the disk, however it ends: what counts of it changes only where a container is written, in a closed slot, or some are
-- given back, and there only the gates of their slots.
abbrev pub Touches : Stage → Next → SweepValue → Tables → Ending → DiskView → DiskView → Type 0
Touches Sweep (Copy source entry) s t ending old new = (slots : ℕ) → old.size ≡ size_of slots → Changes (slot_at slots) ending old new
Touches Sweep (Flush source entry) s t ending old new =
    settled.Steps t.slots ending old new × SealsIndexed t (t.held.last_id + 1) s.buffer ending old new
Touches Sweep (Release source entry) s t ending old new =
    Acts ending old new × GivesBack t s.ready.items ending old new × ChangesGatesAlone s.ready.items ending old new
Touches stage next s t ending old new = Reads ending old new

-- Tables that run with the index's map run on; where containers are given back, if the index has no entry in their slots and its map stays,
-- and where one is written, if the index has its places.
abbrev pub RunsOn : Stage → Next → Moment → Moment → Type 0
RunsOn Sweep (Flush source entry) old new =
    Known old.disk.content (λ _. KnownMap old.known (λ _. Runs old.disk.size old.known old.tables
    → Runs new.disk.size new.known new.tables))
RunsOn Sweep (Release source entry) old new =
    KnownMap old.known (λ index. HasNoEntryInAny index old.collection.sweep.ready.items) → new.known ≡ old.known
    → Runs old.disk.size old.known old.tables → Runs new.disk.size new.known new.tables
RunsOn stage next old new = Runs old.disk.size old.known old.tables → Runs new.disk.size new.known new.tables

-- ---- the whole

-- A step was made, and was answered so; where no more sources than these are chosen, it leaves fewer to come.
pub record Makes (old new : Moment) (done : StepDone) : Type 0 where
  pub answer_is : done ≡ answer_of old.collection
  pub steps : StepsTo old.collection.stage old.collection.sweep.next old new
  pub tables : TablesAfter old.collection.stage old.collection.sweep.next old new
  pub runs : RunsOn old.collection.stage old.collection.sweep.next old new
  pub nearer : (chosen : ℕ) → length new.collection.sweep.sources.items ≤ chosen
      → Nears done (steps_to_come chosen old.tables.held old.collection) (steps_to_come chosen new.tables.held new.collection)

-- None was made, for its cause. The tables stay; and so they run on where the map of the index stays.
pub record Refuses (old new : Moment) (refusal : Refusal) : Type 0 where
  pub cause : IsStepRefusal old.collection.stage old.collection.sweep.next old new.disk refusal
  pub kept : Keeps old.collection.stage old.collection.sweep.next old new refusal
  pub tables_kept : new.tables ≡ old.tables
  pub runs_still : new.known ≡ old.known → Runs old.disk.size old.known old.tables → Runs new.disk.size new.known new.tables

-- How a step ended: it was made, or refused, and what that leaves.
pub record Ends (result : Result StepDone Refusal) (old new : Moment) : Type 0 where
  pub made : IfOk result (Makes old new)
  pub refused : IfErr result (Refuses old new)

-- what it does to the disk, made or refused
pub record GoesBy (c : Collection) (t : Tables) (ending : Ending) (old new : DiskView) : Type 0 where
  pub later : IsLater old new
  pub faults_are : CountsFault ending old.faults new.faults
  pub touches : Touches c.stage c.sweep.next c.sweep t ending old new
