-- How many steps of a sweep come at most (docs/MODEL.md, 'Sweeping').
use Rattle.std.specs.Prelude.{ℕ, ◌+◌, ◌-◌, ◌*◌, length}
use Rattle.gc_sweep.specs.declared.sweep.Next.{Next}
use Rattle.gc_sweep.specs.declared.sweep.Next.TheVariants.{Copy, Flush, Release, End}
use Rattle.gc_sweep.specs.declared.sweep.Sweep.{Sweep}

-- Four for each source that is still to be copied: its copying, its share in a flush and in a release, and one more copying of the source
-- that comes after it, where that does not fit beside it. One that waits has three of them before it; where a flush comes, as no more is
-- copied before that, two; and one that is ready has one, though one release gives back all that are.
abbrev pub steps_at : Sweep → Next → ℕ
steps_at s (Copy source entry) = 4 * (length s.sources.items - source) + 3 * length s.waiting.items
steps_at s (Flush source entry) = 4 * (length s.sources.items - source) + 2 * length s.waiting.items
steps_at s (Release source entry) = 4 * (length s.sources.items - source) + 3 * length s.waiting.items + length s.ready.items
steps_at s End = 0

abbrev pub steps_left : Sweep → ℕ
steps_left s = steps_at s s.next
