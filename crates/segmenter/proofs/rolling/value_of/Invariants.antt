use Rattle.std.proofs.Common.{◌≡◌, take}
use Rattle.segmenter.specs.Segments.{window_value}
use Rattle.segmenter.proofs.rolling.value_of.Given as goal

abbrev pub invariant-loop-byte : goal.invariant-loop-byte
invariant-loop-byte l = l.value ≡ window_value (take l.byte-index l.window)
