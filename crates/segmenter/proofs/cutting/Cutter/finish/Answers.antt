use Rattle.std.proofs.Common.{◌≡◌, false, sym, ap, ◌∙◌, arith}
use Rattle.std.proofs.lemmas.Bool.{not-true, eqb-true, eqb-false}
use Rattle.std.proofs.lemmas.List.{nil_from_length}
use Rattle.segmenter.specs.Cutting.{Hand}
use Rattle.segmenter.proofs.SegmentLemmas.{segments_of-rest}
use Rattle.segmenter.proofs.RunLemmas.{HasCut-last}
use Rattle.segmenter.proofs.cutting.Cutter.finish.Goals as goal

-- bytes that are there are one segment
pub returns-clause-last : goal.returns-clause-last
returns-clause-last c = λ rest.
    let there : c.is_empty.result ≡ false = not-true c.is_empty.result rest in
    segments_of-rest c.self.inside.held.items
    (omega (arith, c.self.inside.held.ok.0, eqb-false _ _ (sym c.is_empty.ensures ∙ there)))
    c.self.invariant.uncut

pub returns-clause-all : goal.returns-clause-all
returns-clause-all c = λ taken shown before.
    HasCut-last taken shown c.args.self.now c.self.inside.held.items c.is_empty.result before
    (ap (λ (hand : Hand). hand.bytes) (sym c.self.view_is))
    (λ none. nil_from_length c.self.inside.held.items
    (omega (arith, c.self.inside.held.ok.0, eqb-true _ _ (sym c.is_empty.ensures ∙ none))))
    (λ there. segments_of-rest c.self.inside.held.items
    (omega (arith, c.self.inside.held.ok.0, eqb-false _ _ (sym c.is_empty.ensures ∙ there)))
    c.self.invariant.uncut)
