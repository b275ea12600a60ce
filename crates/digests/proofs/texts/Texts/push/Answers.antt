use Rattle.std.proofs.Common.{◌≡◌, ◌∙◌, length, map, sum_by, arith}
use Rattle.digests.specs.Texts.{text_in}
use Rattle.digests.proofs.Adding.{texts_long}
use Rattle.digests.proofs.texts.Texts.push.Goals as goal

pub push_reserved-requires-clause-room : goal.push_reserved-requires-clause-room
push_reserved-requires-clause-room c =
    let own = c.self.inside in
    let long : sum_by length (map (text_in c.reserve-2.new.self.items) c.reserve.new.self.items) ≡ length own.bytes.items =
    rw (c.reserve.ensures.items, c.reserve-2.ensures.items)
    (texts_long own.bytes.items own.spans.items c.self.invariant.within ∙ c.self.invariant.long) in
    omega (arith, long, c.in_ok-reserve-2.ensures.ok, c.reserve-2.ensures.len, own.bytes.ok.0)
