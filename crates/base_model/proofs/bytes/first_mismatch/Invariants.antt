use Rattle.std.proofs.Common.{◌≡◌, drop}
use Rattle.base_model.specs.Numbers.{first_mismatch}
use Rattle.base_model.proofs.bytes.first_mismatch.Given as goal

-- the bytes before this place are those that are wanted
abbrev pub invariant-loop-i : goal.invariant-loop-i
invariant-loop-i l = first_mismatch (drop l.i l.bytes) (drop l.i l.wanted) ≡ first_mismatch l.bytes l.wanted
