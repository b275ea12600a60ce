use Rattle.container_meta.proofs.Prelude.{◌≡◌, ℕ, List, ap, sym, length, take, drop, ◌∙◌, arith, Entry, Contents}
use Rattle.container_meta.proofs.Packing.{length-segments_in}
use Rattle.container_meta.proofs.Cut.{cut_packed}
use Rattle.container_meta.proofs.container.OpenContainer.bytes_of.Goals as goal

pub index-entry-requires : goal.index-entry-requires
index-entry-requires c =
    let es : List Entry = c.self.inside.entries.items in
    let many : length c.args.self.now.segments ≡ length es = ap (λ (v : Contents). length v.segments) (sym c.self.view_is) ∙ length-segments_in es c.self.inside.bytes.items in
    omega (arith, many, c.requires, c.self.inside.entries.ok.0)

pub part-requires : goal.part-requires
part-requires c =
    let es : List Entry = c.self.inside.entries.items in
    let cut = cut_packed c.index-entry.result.now es c.self.inside.bytes.items c.args.self.now.segments c.args.i (ap (λ (v : Contents). v.segments) (sym c.self.view_is))
    c.self.invariant.exact c.self.invariant.whole c.requires in
    omega (
      arith,
      cut.within,
      cut.offset_is,
      ap (λ (e : Entry). e.offset) c.index-entry.ensures,
      ap (λ (e : Entry). e.length) c.index-entry.ensures,
      ap length
          c.deref.ensures.value,
    )

pub returns : goal.returns
returns c =
    let es : List Entry = c.self.inside.entries.items in
    let cut = cut_packed c.index-entry.result.now es c.self.inside.bytes.items c.args.self.now.segments c.args.i (ap (λ (v : Contents). v.segments) (sym c.self.view_is))
    c.self.invariant.exact c.self.invariant.whole c.requires in
    let offset : c.index-entry.result.now.offset ≡ cut.from = ap (λ (e : Entry). e.offset) c.index-entry.ensures ∙ cut.offset_is ∙ omega arith in
    let held = ap (drop c.index-entry.result.now.offset) c.deref.ensures.value ∙ ap (λ (n : ℕ). drop n c.self.inside.bytes.items) offset in
    c.part.ensures
    ∙ ap (take c.index-entry.result.now.length) held
    ∙ ap (λ (e : Entry). take e.length (drop cut.from c.self.inside.bytes.items)) c.index-entry.ensures
    ∙ cut.bytes_are
