use Rattle.std.proofs.Common.{sym, ◌∙◌, arith}
use Rattle.segmenter.proofs.SegmentLemmas.{first_length-at, first_length-rest}
use Rattle.segmenter.proofs.whole.plain_first_length.Goals as goal

pub returns-then-is_boundary_at-clause-length : goal.returns-then-is_boundary_at-clause-length
returns-then-is_boundary_at-clause-length c =
    sym (first_length-at c.args.bytes.now c.loop-n.n c.loop-n.auto.n c.loop-n-test.true c.loop-n.invariant
    (sym c.is_boundary_at.ensures ∙ c.if-is_boundary_at.true))

-- no boundary was found
pub returns-clause-length : goal.returns-clause-length
returns-clause-length c =
    sym (first_length-rest c.args.bytes.now (λ k low high. c.loop-n.invariant k low (omega arith)))
