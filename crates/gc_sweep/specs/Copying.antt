-- What a step that copies does to a sweep and to the index (docs/MODEL.md, 'Sweeping').
use Rattle.std.specs.Prelude.{◌≡◌, ◌⊎◌, ℕ, ◌+◌, ◌<◌, [], ◌∷◌, ◌++◌, Bool, true, false, length, get_or, Option, None, Some}
use Rattle.container_meta.specs.declared.kind.Kind.{Kind}
use Rattle.container_meta.specs.Places.{PlaceMap}
use Rattle.container_meta.specs.Segments.{Contents}
use Rattle.copy_forward.specs.Copying.{Forgets, IsCopyRefusal, PlansSource, copy_task}
use Rattle.copy_forward.specs.declared.plan.Plan.{Plan}
use Rattle.dd_disk.specs.View.{DiskView}
use Rattle.gc_enumerate.specs.Live.{LiveKeys}
use Rattle.refusals.specs.declared.refusal.Refusal.{Refusal}
use Rattle.refusals.specs.declared.refusal.Refusal.TheVariants.{Memory}
use Rattle.store_state.specs.declared.slot_table.SlotTable.{SlotTable}
use Rattle.gc_sweep.specs.declared.sweep.Next.TheVariants.{Flush, Release}
use Rattle.gc_sweep.specs.declared.sweep.Sweep.{Sweep}
use Rattle.gc_sweep.specs.Next.{IsNext, kind_in}

-- what is filled: what has segments already, or else an empty container of the source's kind
abbrev pub IsFilling : Contents → Kind → Contents → Type 0
IsFilling buffer kind before =
    ((buffer.segments ≡ []) × (before ≡ record { kind = kind; segments = [] }))
    ⊎ ((0 < length buffer.segments) × (before ≡ buffer))

-- The entries of a source were planned to their end: it waits, if a segment of it was added, and else it is ready.
abbrev pub HasEnded : SlotTable → ℕ → ℕ → Plan → Sweep → Sweep → Type 0
HasEnded t slot source plan before after =
    ((0 < plan.copied) × (after.waiting.items ≡ before.waiting.items ++ slot ∷ []) × (after.ready.items ≡ [])
    × IsNext t before.sources.items plan.buffer (source + 1) 0 after.next)
    ⊎ ((plan.copied ≡ 0) × (after.waiting.items ≡ before.waiting.items) × (after.ready.items ≡ slot ∷ [])
    × (after.next ≡ Release (source + 1) 0))

-- what comes of a plan: the source has ended, or its next entry doesn't fit
abbrev pub EndsBy : Bool → SlotTable → ℕ → ℕ → Plan → Sweep → Sweep → Type 0
EndsBy true t slot source plan before after = HasEnded t slot source plan before after
EndsBy false t slot source plan before after =
    (after.waiting.items ≡ before.waiting.items) × (after.ready.items ≡ []) × (after.next ≡ Flush source plan.next)

-- all else of a sweep
pub record GoesOn (before after : Sweep) : Type 0 where
  pub sources_are : after.sources ≡ before.sources
  pub freed_is : after.freed ≡ before.freed

-- What was found of a source: a header by which nothing is planned, and it is left alone; or a plan.
abbrev pub TakesBy : SlotTable → ℕ → ℕ → Option Plan → Sweep → Sweep → Type 0
TakesBy t slot source None before after =
    (after.buffer ≡ before.buffer) × (after.waiting.items ≡ before.waiting.items) × (after.ready.items ≡ [])
    × (after.copied ≡ before.copied) × IsNext t before.sources.items before.buffer (source + 1) 0 after.next
TakesBy t slot source (Some plan) before after =
    (after.buffer ≡ plan.buffer) × (after.copied ≡ before.copied + plan.copied) × EndsBy plan.ended t slot source plan before after

-- The slot and the kind of the source of a number, by the table, and what it is copied into.
pub record IsSource (t : SlotTable) (source : ℕ) (s : Sweep) (slot : ℕ) (kind : Kind) (filling : Contents) : Type 0 where
  pub within : slot < length t.ids.items
  pub id_is : get_or t.ids.items slot 0 ≡ get_or s.sources.items source 0
  pub kind_is : kind_in t slot ≡ Some kind
  pub filling_is : IsFilling s.buffer kind filling

-- A sweep comes to copy the source of a number, from the entry of a number on: by the table of slots, the live keys, and the map of the
-- index, where it is known.
pub record CopyStep : Type 0 where
  pub held : SlotTable
  pub live : LiveKeys
  pub known : Option PlaceMap
  pub source : ℕ
  pub entry : ℕ
  pub sweep : Sweep

abbrev pub copy_step : SlotTable → LiveKeys → Option PlaceMap → ℕ → ℕ → Sweep → CopyStep
copy_step held live known source entry sweep =
    record { held = held; live = live; known = known; source = source; entry = entry; sweep = sweep }

-- It was copied.
pub record CopiesSource (step : CopyStep) (after_known : Option PlaceMap) (old new : DiskView) (after : Sweep) : Type 0 where
  pub slot : ℕ
  pub kind : Kind
  pub filling : Contents
  pub is_source : IsSource step.held step.source step.sweep slot kind filling
  pub found : Option Plan
  pub plans : PlansSource (copy_task step.held step.known step.live slot step.entry filling) old new found
  pub forgets : Forgets step.known after_known found
  pub takes : TakesBy step.held slot step.source found step.sweep after
  pub others : GoesOn step.sweep after

-- Why it was not. Want of memory is free.
pub record CopiesNothing (step : CopyStep) (old new : DiskView) (refusal : Refusal) : Type 0 where
  pub slot : ℕ
  pub kind : Kind
  pub filling : Contents
  pub is_source : IsSource step.held step.source step.sweep slot kind filling
  pub cause : IsCopyRefusal (copy_task step.held step.known step.live slot step.entry filling) old new refusal

abbrev pub IsCopyStepRefusal : CopyStep → DiskView → DiskView → Refusal → Type 0
IsCopyStepRefusal step old new Memory = Unit {0}
IsCopyStepRefusal step old new refusal = CopiesNothing step old new refusal
