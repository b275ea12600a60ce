-- What a step that writes does to a sweep (docs/MODEL.md, 'Sweeping').
use Rattle.std.specs.Prelude.{◌≡◌, ℕ, ◌+◌, ◌<◌, ◌≤◌, [], Option}
use Rattle.container_meta.specs.Places.{PlaceMap}
use Rattle.container_meta.specs.Segments.{Contents}
use Rattle.copy_forward.specs.Flushing.{IsFlushRefusal}
use Rattle.disk_format.specs.declared.numbers.TheConstants.{LAST_ID}
use Rattle.ingest_steps.specs.Sealing.{HasSlotBeside, HasWritten, KeepsMap}
use Rattle.refusals.specs.declared.refusal.Refusal.{Refusal}
use Rattle.refusals.specs.declared.refusal.Refusal.TheVariants.{Memory, Numbers}
use Rattle.store_state.specs.declared.tables.Tables.{Tables}
use Rattle.gc_sweep.specs.declared.sweep.Next.TheVariants.{Release}
use Rattle.gc_sweep.specs.declared.sweep.Sweep.{Sweep}

-- how many slots stay closed once what was copied is written
abbrev pub spared : ℕ
spared = 1

-- What was copied was written, under the next id, to the closed slot of least number.
pub record WritesCopies (old : Tables) (size : ℕ) (known : Option PlaceMap) (slot : ℕ) (filled : Contents) (new : Tables) : Type 0 where
  pub has_slot : HasSlotBeside spared old slot
  pub written : HasWritten spared old size known slot filled new (old.held.last_id + 1)

-- Nothing is to be written then, and the sources that waited are ready; all of them are given back next.
pub record HasFlushed (source entry : ℕ) (before after : Sweep) : Type 0 where
  pub emptied : after.buffer.segments ≡ []
  pub none_waits : after.waiting.items ≡ []
  pub ready_is : after.ready.items ≡ before.waiting.items
  pub next_is : after.next ≡ Release source entry
  pub sources_are : after.sources ≡ before.sources
  pub freed_is : after.freed ≡ before.freed
  pub copied_is : after.copied ≡ before.copied

-- Why nothing is written: no id is left; or one is, and the container isn't written. Want of memory is free.
abbrev pub IsFlushStepRefusal : Tables → Option PlaceMap → Refusal → Type 0
IsFlushStepRefusal t known Memory = Unit {0}
IsFlushStepRefusal t known Numbers = LAST_ID ≤ t.held.last_id
IsFlushStepRefusal t known refusal = (t.held.last_id < LAST_ID) × IsFlushRefusal known refusal

-- Nothing was written, for its cause: tables and sweep stay, and so does the map of the index, as far as `KeepsMap` says.
pub record FlushesNothing (old new : Tables) (known after_known : Option PlaceMap) (before after : Sweep) (refusal : Refusal) : Type 0 where
  pub cause : IsFlushStepRefusal old known refusal
  pub tables_kept : new ≡ old
  pub sweep_kept : after ≡ before
  pub map : KeepsMap known after_known refusal
