-- What a step that gives sources back does to a sweep (docs/MODEL.md, 'Sweeping').
use Rattle.std.specs.Prelude.{◌≡◌, ℕ, ◌+◌, [], length}
use Rattle.dd_disk.specs.View.{DiskView, IsDurable}
use Rattle.store_state.specs.declared.slot_table.SlotTable.{SlotTable}
use Rattle.store_state.specs.declared.tables.Tables.{Tables}
use Rattle.gc_sweep.specs.declared.sweep.Sweep.{Sweep}
use Rattle.gc_sweep.specs.Next.{IsNext}
use Rattle.gc_sweep.specs.Releasing.{HasFreed}

-- All that were ready were given back, and the source that was to go on comes next, by the table of then.
pub record HasReleased (t : SlotTable) (source entry : ℕ) (before after : Sweep) : Type 0 where
  pub ready_is : after.ready.items ≡ []
  pub freed_is : after.freed ≡ before.freed + length before.ready.items
  pub next_is : IsNext t before.sources.items before.buffer source entry after.next
  pub sources_are : after.sources ≡ before.sources
  pub buffer_is : after.buffer ≡ before.buffer
  pub waiting_is : after.waiting ≡ before.waiting
  pub copied_is : after.copied ≡ before.copied

-- So it is by the tables and by the sweep, and the disk is durable then.
pub record ReleasesReady (old new : Tables) (source entry : ℕ) (before after : Sweep) (disk : DiskView) : Type 0 where
  pub freed : HasFreed old before.ready.items new
  pub released : HasReleased new.held source entry before after
  pub durable : IsDurable disk
