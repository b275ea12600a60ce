use Rattle.std.proofs.Common.{◌≡◌, ◌≢◌, ℕ, ◌-◌, ◌/◌, ◌%◌, arith, ap, ◌∙◌}
use Rattle.load_stream.specs.Load.{word_bytes}
use Rattle.load_stream.proofs.stream.LoadStream.word_for.Goals as goal

-- bytes of one word, one after the other
same_word : (at : ℕ) → at % 8 ≢ 0 → (at - 1) / 8 ≡ at / 8
same_word at inside = omega (arith, inside)

pub returns : goal.returns
returns c =
    c.requires c.if-first.false
    ∙ ap (word_bytes c.args.self.now.seed c.args.self.now.file) (same_word c.args.at c.if-at-eq0.false)
