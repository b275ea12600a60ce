use Rattle.container_meta.proofs.Prelude.{◌≡◌, ℕ, List, ap, sym, length, ◌∙◌, arith, eqb-true, bytes_eq, sha256, Entry, Segment, Contents, segment_at}
use Rattle.container_meta.proofs.Packing.{length-segments_in}
use Rattle.container_meta.proofs.Cut.{cut_packed}
use Rattle.container_meta.proofs.Compared.{same_level, other_level, other_digest}
use Rattle.container_meta.proofs.container.OpenContainer.is_at.Goals as goal
use Rattle.container_meta.proofs.container.OpenContainer.is_at.Goals.{then-entry-level, else-entry-level}

pub index-requires : goal.index-requires
index-requires c =
    let es : List Entry = c.self.inside.entries.items in
    let many : length c.args.self.now.segments ≡ length es = ap (λ (v : Contents). length v.segments) (sym c.self.view_is) ∙ length-segments_in es c.self.inside.bytes.items in
    omega (arith, many, c.requires, c.self.inside.entries.ok.0)

pub returns-then-eq : goal.returns-then-eq
returns-then-eq c =
    let es : List Entry = c.self.inside.entries.items in
    let s : Segment = segment_at c.args.self.now.segments c.args.i in
    let t : Segment = c.args.seg.now.segment in
    let cut = cut_packed c.index.result.now es c.self.inside.bytes.items c.args.self.now.segments c.args.i (ap (λ (v : Contents). v.segments) (sym c.self.view_is))
    c.self.invariant.exact c.self.invariant.whole c.requires in
    let level : c.index.result.now.level ≡ s.level = ap (λ (e : Entry). e.level) c.index.ensures ∙ cut.level_is in
    elim c.if-entry-level.branch [
      | then-entry-level w ↦
          c.eq-then-eq.ensures ∙ ap (λ (l : List ℕ). bytes_eq l c.bytes.result.now) c.bytes_of.ensures ∙ ap (bytes_eq s.bytes) c.bytes.ensures
          ∙ same_level s t (sym level ∙ w.if-entry-level.true ∙ c.level.ensures)
      | else-entry-level w ↦ absurd (w.if-entry-level.false (eqb-true c.index.result.now.level c.level.result (sym w.value-is ∙ c.if-eq.true)))
    ]

pub returns-else-eq : goal.returns-else-eq
returns-else-eq c =
    let es : List Entry = c.self.inside.entries.items in
    let s : Segment = segment_at c.args.self.now.segments c.args.i in
    let t : Segment = c.args.seg.now.segment in
    let cut = cut_packed c.index.result.now es c.self.inside.bytes.items c.args.self.now.segments c.args.i (ap (λ (v : Contents). v.segments) (sym c.self.view_is))
    c.self.invariant.exact c.self.invariant.whole c.requires in
    let level : c.index.result.now.level ≡ s.level = ap (λ (e : Entry). e.level) c.index.ensures ∙ cut.level_is in
    let digest : c.index.result.now.digest ≡ sha256 s.bytes = ap (λ (e : Entry). e.digest) c.index.ensures ∙ cut.digest_is in
    c.if-eq.false
    ∙ elim c.if-entry-level.branch [
      | then-entry-level w ↦
          other_digest s t
          (ap (λ (d : List ℕ). bytes_eq d (sha256 t.bytes)) (sym digest) ∙ ap (bytes_eq c.index.result.now.digest) (sym w.digest.ensures) ∙ sym w.eq.ensures ∙ sym w.value-is
          ∙ c.if-eq.false)
      | else-entry-level w ↦ other_level s t (λ same. w.if-entry-level.false (level ∙ same ∙ sym c.level.ensures))
    ]
