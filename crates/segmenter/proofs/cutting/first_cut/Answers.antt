use Rattle.std.proofs.Common.{sym, ap, ◌∙◌, arith}
use Rattle.disk_format.specs.declared.numbers.TheConstants.{LEAST_SEGMENT}
use Rattle.segmenter.specs.Segments.{window_value}
use Rattle.segmenter.proofs.CutLemmas.{window_at-range}
use Rattle.segmenter.proofs.cutting.first_cut.Goals as goal

-- the window that ends after 2,048 bytes
pub cut_from-requires-clause-rolled : goal.cut_from-requires-clause-rolled
cut_from-requires-clause-rolled c = let h = c.value_of.ensures in h ∙ ap window_value (sym (window_at-range c.args.bytes.now LEAST_SEGMENT (omega arith)))
