use Rattle.container_meta.proofs.Prelude.{◌≡◌, ◌+◌, drop, zeros_in_front}
use Rattle.container_meta.proofs.reading.zeros_in_front.Given as goal

abbrev pub invariant-loop-i : goal.invariant-loop-i
invariant-loop-i l = l.i + zeros_in_front (drop l.i l.bytes) ≡ zeros_in_front l.bytes
