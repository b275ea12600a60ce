use Rattle.std.proofs.Common.{◌∙◌, ap, length, ℕ, List}
use Rattle.std.proofs.lemmas.List.{length-replicate}
use Rattle.base_model.specs.Bytes.{zeros}
use Rattle.disk_format.specs.declared.numbers.TheConstants.{MOST_SEGMENT}
use Rattle.actor_parts.proofs.seg_buf.SegBuf.new.Goals as goal

pub invariant_of-result : goal.invariant_of-result
unfolding zeros
invariant_of-result c = ap (λ (bytes : List ℕ). length bytes) c.in_ok-zeros.ensures ∙ length-replicate {A = ℕ} MOST_SEGMENT 0
