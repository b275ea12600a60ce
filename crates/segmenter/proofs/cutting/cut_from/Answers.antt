use Rattle.std.proofs.Common.{nat_eq, refl}
use Rattle.disk_format.specs.declared.numbers.TheConstants.{MOST_SEGMENT}
use Rattle.segmenter.proofs.CutLemmas.{cut_at_hit, cut_at_end}
use Rattle.segmenter.proofs.cutting.cut_from.Goals as goal

-- the scan found a hit
pub returns-then-scan : goal.returns-then-scan
returns-then-scan c =
    cut_at_hit c.args.bytes.now c.args.from c.first_hit-scan.result.end c.first_hit-scan.result.value c.first_hit-scan.result.hit
    c.first_hit-scan.result.hit c.requires.least c.requires.at_most c.requires.uncut c.first_hit-scan.ensures c.if-scan.true c.if-scan.true

-- the scan came to the end of the bytes
pub returns-else-scan : goal.returns-else-scan
returns-else-scan c =
    cut_at_end c.args.bytes.now c.args.from c.first_hit-scan.result.end c.first_hit-scan.result.value c.first_hit-scan.result.hit
    (nat_eq c.first_hit-scan.result.end MOST_SEGMENT) c.requires.least c.requires.at_most c.requires.uncut c.first_hit-scan.ensures
    c.if-scan.false refl
