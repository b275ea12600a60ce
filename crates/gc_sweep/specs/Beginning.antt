-- A sweep that begins (docs/MODEL.md, 'Sweeping').
use Rattle.std.specs.Prelude.{◌≡◌, ℕ, List, []}
use Rattle.store_state.specs.declared.slot_table.SlotTable.{SlotTable}
use Rattle.gc_sweep.specs.declared.sweep.Sweep.{Sweep}
use Rattle.gc_sweep.specs.Next.{IsNext}

-- Nothing is copied, no source waits or is ready, and the first comes next.
pub record Begins (t : SlotTable) (sources : List ℕ) (s : Sweep) : Type 0 where
  pub sources_are : s.sources.items ≡ sources
  pub empty : s.buffer.segments ≡ []
  pub none_waits : s.waiting.items ≡ []
  pub none_ready : s.ready.items ≡ []
  pub none_freed : s.freed ≡ 0
  pub none_copied : s.copied ≡ 0
  pub next_is : IsNext t sources s.buffer 0 0 s.next
