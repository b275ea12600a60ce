use Rattle.std.proofs.Common.{◌/◌, ◌^◌, ap, nat_eq}
use Rattle.segmenter.specs.Segments.{is_hit}
use Rattle.segmenter.proofs.rolling.hits.Goals as goal

-- shifting by 52 bits divides by 2^52
pub returns : goal.returns
unfolding is_hit
returns c = λ window e. ap (λ n. nat_eq (n / 2 ^ 52) 4095) e
