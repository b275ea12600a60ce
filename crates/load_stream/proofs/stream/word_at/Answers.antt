use Rattle.std.proofs.Common.{ap, ◌∙◌}
use Rattle.std.specs.Int.{w64, to_be_bytes}
use Rattle.load_stream.specs.Load.{word_bytes}
use Rattle.load_stream.proofs.stream.word_at.Goals as goal

pub returns : goal.returns
unfolding word_bytes
returns c = c.to_be_bytes.ensures ∙ ap (to_be_bytes w64) c.word.ensures
