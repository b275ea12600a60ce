use Rattle.std.proofs.Common.{◌≡◌, ◌++◌, ◌∷◌, [], map, take, true, sym, ap, ◌∙◌, append_assoc}
use Rattle.std.proofs.lemmas.List.{map-append}
use Rattle.segmenter.specs.Cutting.{Hand, whole_segments}
use Rattle.segmenter.proofs.RunLemmas.{taken_more, shown_more}
use Rattle.segmenter.proofs.whole.cut_piece.Goals as goal

-- the segment was completed and shown
pub loop-rest-preserved-then-step : goal.loop-rest-preserved-then-step
loop-rest-preserved-then-step c =
    let before = c.loop-rest.invariant.so_far in
    let n = c.push-step.result.taken in
    let whole : c.push-step.new.self.whole ≡ true = c.push-step.ensures.takes.whole ∙ c.if-step.true in
    let shown : map (λ segment. segment.items) c.push.new.self.items ≡ map (λ segment. segment.items) c.loop-rest.segments.items ++ whole_segments c.push-step.new.self =
    ap (map (λ segment. segment.items)) c.in_ok-push.ensures.items
    ∙ map-append (λ segment. segment.items) c.loop-rest.segments.items (c.in_ok-from_slice.field-0 ∷ [])
    ∙ shown_more (map (λ segment. segment.items) c.loop-rest.segments.items) c.in_ok-from_slice.field-0.items c.push-step.new.self
    (c.in_ok-from_slice.ensures.items ∙ c.segment.ensures.bytes) whole in
    record {
      ongoing = ap (λ (hand : Hand). hand.whole) (c.next.ensures.whole whole);
      so_far = (
        before.0 ++ take n c.loop-rest.rest.now,
        taken_more before.0 c.loop-rest.rest.now c.args.piece.now n before.1,
        λ taken start.
            rw (sym (append_assoc taken before.0 (take n c.loop-rest.rest.now)), shown)
            (c.next.ensures.so_far _ _ (c.push-step.ensures.so_far _ _ (before.2 taken start))),
      );
    }

-- the piece ended within the segment
pub loop-rest-preserved : goal.loop-rest-preserved
loop-rest-preserved c =
    let before = c.loop-rest.invariant.so_far in
    let n = c.push-step.result.taken in
    record {
      ongoing = c.push-step.ensures.takes.whole ∙ c.if-step.false;
      so_far = (
        before.0 ++ take n c.loop-rest.rest.now,
        taken_more before.0 c.loop-rest.rest.now c.args.piece.now n before.1,
        λ taken start.
            rw (sym (append_assoc taken before.0 (take n c.loop-rest.rest.now))) (c.push-step.ensures.so_far _ _ (before.2 taken start)),
      );
    }
