-- A collection that runs in a core, as the one that runs in the machine of roots.
use Rattle.std.specs.Prelude.{◌≡◌, ℕ, suc, ◌+◌, ◌-◌, ◌*◌, Bool, true, List, [], length, map, get_or, Option, Some, None}
use Rattle.container_meta.specs.Segments.{keys_of}
use Rattle.disk_format.specs.Cells.{Root}
use Rattle.gc_sweep.specs.UnderWay.{entry_in, sources_before}
use Rattle.gc_sweep.specs.declared.sweep.Sweep.{Sweep as CoreSweep}
use Rattle.gc_steps.specs.declared.collection.Collection.{Collection as CoreCollection}
use Rattle.gc_steps.specs.declared.collection.Stage.{Stage as CoreStage}
use Rattle.gc_steps.specs.declared.collection.Stage.TheVariants as core
use Rattle.gc_steps.specs.Stepping.{phase_at}
use Rattle.gc_steps.specs.StepsToCome.{trees_from}
use Rattle.refusals.specs.declared.refusal.Phase.{Phase}
use Rattle.refusals.specs.declared.refusal.Phase.TheVariants as phases
use Rattle.store_model.specs.Steps.{StoreChange}
use Rattle.store_state.specs.declared.slot_table.SlotTable.{SlotTable}
use Rattle.store_machine.specs.Collecting.{freed_in, keys_written, sources_in}
use Rattle.store_machine.specs.Machine.{Collection, Stage, Marking, Recording, Sweeping, Sweep}

-- the ids of the containers in these slots, by the table
abbrev pub ids_at : SlotTable → List ℕ → List ℕ
ids_at t slots = map (λ slot. get_or t.ids.items slot 0) slots

-- a step that comes only after something was copied
abbrev pub HasCopied : Phase → Bool → Type 0
HasCopied phases.Flush swept = swept ≡ true
HasCopied phases.Release swept = swept ≡ true
HasCopied phase swept = Unit {0}

-- The sweep of the machine, of these sources and with these changes so far, is that of the core: the core has slots where the machine has
-- ids, and the segments that are to be written where it has their keys.
pub record SameSweep (t : SlotTable) (swept : Bool) (sources : List ℕ) (changes : List StoreChange) (next : Phase) (s : Sweep)
    (k : CoreSweep) : Type 0 where
  pub next_is : next ≡ phase_at core.Sweep k.next
  pub sources_are : k.sources.items ≡ sources
  pub source_is : s.source ≡ sources_before k k.next
  pub entry_is : s.entry ≡ entry_in k.next
  pub filled_is : s.filled ≡ keys_of k.buffer
  pub waiting_is : s.waiting ≡ ids_at t k.waiting.items
  pub ready_is : s.ready ≡ ids_at t k.ready.items
  pub freed_is : k.freed ≡ freed_in changes
  pub copied_is : k.copied ≡ length (keys_written changes) + length s.filled
  pub swept_is : HasCopied next swept

-- As many containers are to be scanned as the core has levels and slots left for; containers are recorded, or the sources are chosen next;
-- or they are swept. Before a sweep nothing was changed.
abbrev pub SameStage : SlotTable → Bool → (sources : List ℕ) → List StoreChange → (snapshot : ℕ) → CoreSweep → Stage → CoreStage → Type 0
SameStage t swept sources changes snapshot sweep (Marking left) (core.Mark level slot) =
    (suc left ≡ trees_from snapshot t slot + (level - 1) * trees_from snapshot t 0) × (changes ≡ [])
SameStage t swept sources changes snapshot sweep Recording (core.Filter slot) = changes ≡ []
SameStage t swept sources changes snapshot sweep Recording core.Select = changes ≡ []
SameStage t swept sources changes snapshot sweep (Sweeping next s) core.Sweep = SameSweep t swept sources changes next s sweep
SameStage t swept sources changes snapshot sweep stage other = ⊥

-- It is that of the core, whatever is needed and whatever is live.
pub record SameRun (t : SlotTable) (swept : Bool) (c : Collection Root) (k : CoreCollection) : Type 0 where
  pub percent_is : c.percent ≡ k.percent
  pub snapshot_is : c.snapshot ≡ k.snapshot
  pub recorded_is : c.recorded ≡ k.liveness
  pub stage_is : SameStage t swept (sources_in c) c.changes k.snapshot k.sweep c.stage k.stage

abbrev pub SameCollection : SlotTable → Bool → Option (Collection Root) → Option CoreCollection → Type 0
SameCollection t swept None None = Unit {0}
SameCollection t swept (Some c) (Some k) = SameRun t swept c k
SameCollection t swept c k = ⊥
