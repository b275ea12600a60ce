use Rattle.std.proofs.Common.{take}
use Rattle.gc_enumerate.specs.Marking.{AddsMarks}
use Rattle.gc_enumerate.proofs.live.Live.mark_all.Given as goal

-- the keys before this one
abbrev pub invariant-loop-one : goal.invariant-loop-one
invariant-loop-one l = AddsMarks (take l.one-index l.found) l.fn.self l.self
