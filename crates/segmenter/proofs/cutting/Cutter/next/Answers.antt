use Rattle.std.proofs.Common.{◌≡◌, true, sym, ap, ◌∙◌}
use Rattle.segmenter.specs.Cutting.{Hand}
use Rattle.segmenter.proofs.RunLemmas.{HasCut-next}
use Rattle.segmenter.proofs.cutting.Cutter.next.Goals as goal

-- the segment in hand was whole, and is now shown
pub returns-then-self-clause-so_far : goal.returns-then-self-clause-so_far
returns-then-self-clause-so_far c = λ taken shown before.
    let whole : c.args.self.now.whole ≡ true = ap (λ (hand : Hand). hand.whole) (sym c.self.view_is) ∙ c.if-self.true in
    rw (whole, c.clear.ensures.items) (HasCut-next taken shown c.args.self.now before whole)
