use Rattle.container_meta.proofs.Prelude.{ap, sym, length, ◌∙◌, Contents}
use Rattle.container_meta.proofs.Packing.{length-segments_in}
use Rattle.container_meta.proofs.container.OpenContainer.len.Goals as goal

pub returns : goal.returns
returns c = c.len.ensures ∙ c.self.inside.entries.ok.0 ∙ sym (length-segments_in c.self.inside.entries.items c.self.inside.bytes.items) ∙ ap (λ (v : Contents). length v.segments)
    c.self.view_is
