use Rattle.std.proofs.Common.{◌<◌, ◌++◌, ◌∷◌, [], map, length, sym, ap, ◌∙◌, arith}
use Rattle.std.proofs.lemmas.Bool.{eqb-true, eqb-false}
use Rattle.std.proofs.lemmas.List.{map-append}
use Rattle.segmenter.specs.Segments.{segments_of}
use Rattle.segmenter.proofs.RunLemmas.{found_more, found_all}
use Rattle.segmenter.proofs.whole.segments_plainly.Goals as goal

-- one segment more
pub loop-rest-preserved : goal.loop-rest-preserved
loop-rest-preserved c =
    let there : 0 < length c.loop-rest.rest.now =
    omega (arith, eqb-false (length c.loop-rest.rest.now) 0 (sym c.is_empty.ensures ∙ c.loop-rest-test.true)) in
    ap (λ segments. segments ++ segments_of c.split_at.result.1.now)
    (ap (map (λ segment. segment.items)) c.in_ok-push.ensures.items
    ∙ map-append (λ segment. segment.items) c.loop-rest.segments.items (c.in_ok-from_slice.field-0 ∷ []))
    ∙ found_more (map (λ segment. segment.items) c.loop-rest.segments.items) c.loop-rest.rest.now c.in_ok-from_slice.field-0.items
    c.split_at.result.1.now c.plain_first_length.result there c.plain_first_length.ensures.length
    (c.in_ok-from_slice.ensures.items ∙ c.split_at.ensures.front) c.split_at.ensures.back
    ∙ c.loop-rest.invariant

-- nothing is left
pub returns : goal.returns
returns c =
    sym (found_all (map (λ segment. segment.items) c.loop-rest.segments.items) c.loop-rest.rest.now
    (eqb-true (length c.loop-rest.rest.now) 0 (sym c.is_empty.ensures ∙ c.loop-rest-test.false)))
    ∙ c.loop-rest.invariant
