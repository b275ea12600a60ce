use Rattle.std.proofs.Common.{◌≡◌, ℕ, length, get_or, slice_get, Some, Err, inr, refl, sym, ap, ◌∙◌}
use Rattle.std.proofs.lemmas.List.{get_or_read}
use Rattle.std.proofs.lemmas.Option.{slice_get_read}
use Rattle.base_model.specs.Checks.{passes}
use Rattle.container_meta.specs.Spelling.{HeaderValue, view}
use Rattle.dd_disk.proofs.Shows.{weaker}
use Rattle.store_model.proofs.Once.{slot_once}
use Rattle.store_state.specs.declared.slot_table.SlotCount.{SlotCount}
use Rattle.copy_forward.specs.Headers.{header_checks}
use Rattle.copy_forward.proofs.Tabled.{one_differs, tabled_by}
use Rattle.copy_forward.proofs.header.read_header.Goals as goal

pub returns-in-Ok-clause-tabled : goal.returns-in-Ok-clause-tabled
returns-in-Ok-clause-tabled g c =
    let t = c.args.held.now in
    let h : HeaderValue = view c.in_ok-meta.meta in
    let count : SlotCount = c.index-2.result.now in
    let id : c.index.result.now ≡ get_or t.ids.items c.args.slot 0 = get_or_read t.ids.items c.args.slot c.index.result.now c.requires.ids c.index.ensures 0 in
    let there : slice_get t.counts.items c.args.slot ≡ Some count = slice_get_read t.counts.items
    (length t.counts.items) c.args.slot count refl c.requires.counts c.index-2.ensures in
    tabled_by t c.args.slot count h there (ap (λ (n : ℕ). passes (header_checks n count h)) (sym id) ∙ sym c.in-Ok.ensures)

pub returns-in-Err-clause-only : goal.returns-in-Err-clause-only
returns-in-Err-clause-only g c =
    let t = c.args.held.now in
    let h : HeaderValue = view c.in_ok-meta.meta in
    let count : SlotCount = c.index-2.result.now in
    let id : c.index.result.now ≡ get_or t.ids.items c.args.slot 0 = get_or_read t.ids.items c.args.slot c.index.result.now c.requires.ids c.index.ensures 0 in
    let there : slice_get t.counts.items c.args.slot ≡ Some count = slice_get_read t.counts.items
    (length t.counts.items) c.args.slot count refl c.requires.counts c.index-2.ensures in
    let differs : passes (header_checks (get_or t.ids.items c.args.slot 0) count h) ≡ Err c.in-Err.why = ap (λ (n : ℕ). passes (header_checks n count h)) (sym id)
    ∙ sym c.in-Err.ensures in
    weaker _ _
    (λ image sized here k holds tabled. absurd
    (one_differs t c.args.slot count h k c.in-Err.why there (slot_once c.args.slot (Some h) (Some k) image here holds) differs tabled)) c.in_ok-meta.ensures.shown

pub returns-in-Err-clause-refused : goal.returns-in-Err-clause-refused
returns-in-Err-clause-refused g c =
    let t = c.args.held.now in
    let h : HeaderValue = view c.in_ok-meta.meta in
    let count : SlotCount = c.index-2.result.now in
    let id : c.index.result.now ≡ get_or t.ids.items c.args.slot 0 = get_or_read t.ids.items c.args.slot c.index.result.now c.requires.ids c.index.ensures 0 in (
      c.slot_at.ensures,
      inr (record {
        header = h;
        right = c.in_ok-meta.ensures.right;
        shown = c.in_ok-meta.ensures.shown;
        count = count;
        there = slice_get_read t.counts.items (length t.counts.items) c.args.slot count refl c.requires.counts c.index-2.ensures;
        first = ap (λ (n : ℕ). passes (header_checks n count h)) (sym id) ∙ sym c.in-Err.ensures;
      }),
    )
