use Rattle.container_meta.proofs.Prelude.{List, [], ap, sym, ◌∙◌, arith, ◌||◌, list_any, take_all, Segment, is_segment, segment_at}
use Rattle.std.specs.Prelude.{Bool}
use Rattle.std.proofs.lemmas.List.Folds.{list_any_at, list_any_more}
use Rattle.container_meta.proofs.container.OpenContainer.holds.Goals as goal

pub loop-i-preserved : goal.loop-i-preserved
loop-i-preserved c =
    let all : List Segment = c.args.self.now.segments in
    let t : Segment = c.args.seg.now.segment in
    list_any_more (is_segment t) all c.loop-i.i (segment_at [] 0) (omega (arith, c.len-i-end.ensures, c.loop-i-test.true))
    ∙ ap (λ (b : Bool). b || is_segment t (segment_at all c.loop-i.i)) c.loop-i.invariant
    ∙ sym c.is_at.ensures ∙ c.if-is_at.false

pub returns-then-is_at : goal.returns-then-is_at
returns-then-is_at c =
    sym (list_any_at (is_segment c.args.seg.now.segment) c.args.self.now.segments c.loop-i.i (segment_at [] 0) (omega (arith, c.len-i-end.ensures, c.loop-i-test.true))
    (sym c.is_at.ensures ∙ c.if-is_at.true))

pub returns : goal.returns
returns c =
    sym c.loop-i.invariant
    ∙ ap (list_any (is_segment c.args.seg.now.segment)) (take_all c.loop-i.i c.args.self.now.segments (omega (arith, c.len-i-end.ensures, c.loop-i-test.false)))
