use Rattle.std.proofs.Common.{◌≡◌, ◌+◌}
use Rattle.std.specs.Prelude.{sum_by}
use Rattle.store_model.specs.Unique.{bytes_in}
use Rattle.read_steps.proofs.sizes.Sizes.bytes.Given as goal

-- what is counted and what is left are the whole
abbrev pub invariant-loop-size : goal.invariant-loop-size
invariant-loop-size l = l.bytes + sum_by (λ n. n) l.size-iterator ≡ bytes_in l.self
