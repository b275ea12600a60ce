use Rattle.std.proofs.Common.{◌≡◌, ◌+◌, take, get_or, refl}
use Rattle.std.proofs.lemmas.List.{take_more}
use Rattle.segmenter.specs.Segments.{weighted_sum, window_value}
use Rattle.segmenter.proofs.Windows.{window_value-push}
use Rattle.segmenter.proofs.rolling.value_of.Goals as goal

pub loop-byte-init : goal.loop-byte-init
unfolding window_value weighted_sum
loop-byte-init c = refl

-- one byte more
pub loop-byte-preserved : goal.loop-byte-preserved
loop-byte-preserved c =
    let more : take (c.loop-byte.byte-index + 1) c.args.window.now ≡ _ = take_more c.args.window.now c.loop-byte.byte-index 0 c.loop-byte-test.true in
    rw (more, c.from.ensures, c.loop-byte.invariant)
    (window_value-push (take c.loop-byte.byte-index c.args.window.now) (get_or c.args.window.now c.loop-byte.byte-index 0))
