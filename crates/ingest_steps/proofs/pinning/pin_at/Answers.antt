use Rattle.ingest_steps.proofs.Prelude.{ℕ, List, ap, sym, subst, ◌∙◌, Kind, segment_at, IsPin, pin_by}
use Rattle.ingest_steps.proofs.PinList.{right_at}
use Rattle.ingest_steps.proofs.pinning.pin_at.Goals as goal

pub returns-clause-right : goal.returns-clause-right
returns-clause-right c =
    let filled = c.args.filled.now in
    subst IsPin
    (sym (c.pin_in.ensures.pin
    ∙ ap (λ (k : Kind). pin_by k (record { level = c.entry_at.result.level; bytes = c.bytes_of.result.now })) c.kind.ensures
    ∙ ap (λ (l : ℕ). pin_by filled.kind (record { level = l; bytes = c.bytes_of.result.now })) c.entry_at.ensures.level
    ∙ ap (λ (b : List ℕ). pin_by filled.kind (record { level = (segment_at filled.segments c.args.i).level; bytes = b })) c.bytes_of.ensures))
    (right_at filled.kind filled.segments c.args.i c.requires.there c.requires.right c.entry_at.ensures.length)
