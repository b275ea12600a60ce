use Rattle.container_meta.proofs.Prelude.{◌≡◌, false, take, list_any, is_segment}
use Rattle.container_meta.proofs.container.OpenContainer.holds.Given as goal

abbrev pub invariant-loop-i : goal.invariant-loop-i
invariant-loop-i l = list_any (is_segment l.seg.segment) (take l.i l.self.segments) ≡ false
