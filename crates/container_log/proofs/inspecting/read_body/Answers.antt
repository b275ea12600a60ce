use Rattle.std.proofs.Common.{◌≡◌, ◌+◌, ◌-◌, length, arith, ap, ◌∙◌}
use Rattle.std.proofs.Math.ListN.{set}
use Rattle.std.proofs.lemmas.List.{length-set}
use borrow.Rule.Slice.PartMut.{mid_of, mid_len}
use Rattle.disk_format.specs.Layout.{slot_at}
use Rattle.dd_disk.proofs.Shows.{weaker}
use Rattle.container_log.proofs.Slots.{joined}
use Rattle.container_log.proofs.inspecting.read_body.Goals as goal

pub returns-in-Ok-clause-shown : goal.returns-in-Ok-clause-shown
returns-in-Ok-clause-shown g c =
    let bytes = c.args.bytes.now in
    let place : c.slot_at.result + 1 ≡ slot_at c.args.slot + 1 = ap (λ p. p + 1) c.slot_at.ensures in
    let count : length (mid_of 1 (length (set bytes 0 0xC5) - 1) (set bytes 0 0xC5)) ≡ 262143 = mid_len 1 (length (set bytes 0 0xC5)) (set bytes 0 0xC5) (omega arith)
    ∙ omega (arith, length-set bytes 0 0xC5, c.requires.length) in
    weaker _ _ (λ image sized read gate.
    joined 262143 (slot_at c.args.slot) _ _ 0xC5 image bytes _ (omega (arith, c.requires.place, sized)) (omega (arith, c.requires.length)) place count read gate)
    c.in-Ok.ensures.shown
