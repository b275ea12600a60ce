use Rattle.segmenter.proofs.Windows.{window_value-rolled}
use Rattle.segmenter.proofs.rolling.rolled.Goals as goal

-- The conversions of the two bytes keep their values, and the step is the one of the lemma.
pub returns : goal.returns
returns c = λ kept h e. rw (e, c.from-left.ensures, c.from.ensures) (window_value-rolled c.args.leaving c.args.entering kept h)
