use Rattle.container_meta.proofs.Prelude.{◌≡◌, ℕ, List, ap, sym, subst, length, ◌∙◌, arith, Entry, Contents, IsHeader, header_of}
use Rattle.container_meta.proofs.Packing.{length-segments_in}
use Rattle.container_meta.proofs.Encoded.{header_allowed}
use Rattle.container_meta.proofs.container.OpenContainer.entries.Goals as goal

pub returns-clause-header : goal.returns-clause-header
returns-clause-header c = λ id right some.
    let es : List Entry = c.self.inside.entries.items in
    let bytes : List ℕ = c.self.inside.bytes.items in
    let many : length c.args.self.now.segments ≡ length es = ap (λ (v : Contents). length v.segments) (sym c.self.view_is) ∙ length-segments_in es bytes in
    subst (λ (v : Contents). IsHeader (header_of id v.kind v.segments)) c.self.view_is
    (header_allowed id c.self.inside.kind es bytes right c.self.invariant.exact c.self.invariant.whole c.self.invariant.allowed (omega (arith, many, some))
    (omega (arith, c.self.invariant.few, c.self.inside.entries.ok.0)) (omega (arith, c.self.invariant.fits, c.self.inside.bytes.ok.0)))
