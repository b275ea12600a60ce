-- What is in hand is no whole segment.
use Rattle.ingest_session.proofs.Prelude.{refl, arith, empty_hand, IsUncut}
use Rattle.segmenter.specs.Cutting.{ends_segment}

pub empty_is_uncut : IsUncut empty_hand
unfolding ends_segment
empty_is_uncut = (record { one = λ some. absurd (omega (arith, some)); at_most = omega arith }, refl)
