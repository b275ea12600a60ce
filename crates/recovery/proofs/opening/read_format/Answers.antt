use Rattle.recovery.proofs.Prelude.{◌∙◌, ℕ, List, ap, sym, passed_on, Shows, size_of, weaker, IsOpenRefusal}
use Rattle.recovery.proofs.Steps.{format_slots, open_refusal}
use Rattle.recovery.proofs.opening.read_format.Goals as goal

pub returns-then-got-want-clause-only : goal.returns-then-got-want-clause-only
returns-then-got-want-clause-only g c =
    weaker _ _ (λ image sized format store right. absurd (c.if-got-want.true
    (c.size-got.ensures ∙ c.in_ok-slots.ensures.reads.only.later.size_is ∙ sym sized ∙ right.size
    ∙ ap size_of (format_slots store.slots c.in_ok-slots.slots image right.count c.in_ok-slots.ensures.count right.format format) ∙ sym c.size_of-want.ensures)))
    c.in_ok-slots.ensures.format

pub returns-in_err-slots-clause-refused : goal.returns-in_err-slots-clause-refused
returns-in_err-slots-clause-refused g c =
    let view = g.D.Disk.view in
    let shown : (List ℕ → Type 0) → Type 0 = Shows (view c.args.disk.now) (view c.count_slots.new.disk) in
    let size = (view c.args.disk.now).size in
    passed_on c.from_residual.result (IsOpenRefusal shown size) c.in_err-slots.field-0.0 c.from_residual.ensures.1
    (open_refusal shown size c.in_err-slots.field-0.0 c.in_err-slots.ensures.format_refused)
