use Rattle.std.proofs.Common.{◌∙◌, sym}
use Rattle.dd_disk.proofs.Shows.{weaker, both}
use Rattle.container_log.proofs.inspecting.read_slot_into.Goals as goal

pub returns-then-gate-clause-shown : goal.returns-then-gate-clause-shown
returns-then-gate-clause-shown g c = weaker _ _ (λ image sized gate opened. c.if-gate.true (sym gate ∙ opened)) c.in-Ok.ensures.shown

pub returns-clause-shown : goal.returns-clause-shown
returns-clause-shown g c =
    weaker _ _ (λ image sized has. (has.0 ∙ c.if-gate.false, has.1 (has.0 ∙ c.if-gate.false)))
    (both _ _ _ c.in-Ok.ensures.shown c.in-Ok.ensures.reads.only c.in_ok-read_body.ensures.shown c.in_ok-read_body.ensures.reads.only.later)
