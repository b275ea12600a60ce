use Rattle.std.proofs.Common.{◌≡◌, Some, ap, sym, rules, refl, ◌∙◌}
use Rattle.dd_disk.proofs.Shows.{always, weaker}
use Rattle.container_meta.specs.Spelling.{held_with, with_entries}
use Rattle.container_log.proofs.Slots.{closed_holds, gate_read, holds_spelled, open_holds, spelled_of, unless_open}
use Rattle.container_log.proofs.slot.read_slot.Goals as goal

pub returns-in_err-count-clause-only : goal.returns-in_err-count-clause-only
returns-in_err-count-clause-only g c = always _ _ _ (λ image sized held holds. search rules)

pub returns-then-raw-clause-shown : goal.returns-then-raw-clause-shown
returns-then-raw-clause-shown g c =
    weaker _ _ (λ image sized read opened. c.if-raw.true (sym (gate_read c.args.slot image _ read c.read_header.new.raw _ refl c.in_ok-count.ensures.reach.0) ∙ opened))
    c.in_ok-count.ensures.shown

pub returns-then-raw-clause-only : goal.returns-then-raw-clause-only
returns-then-raw-clause-only g c =
    weaker _ _ (λ image sized read held. closed_holds image c.args.slot held (λ opened. c.if-raw.true
    (sym (gate_read c.args.slot image _ read c.read_header.new.raw _ refl c.in_ok-count.ensures.reach.0) ∙ opened)))
    c.in_ok-count.ensures.shown

pub returns-in_err-header-clause-only : goal.returns-in_err-header-clause-only
returns-in_err-header-clause-only g c =
    weaker _ _ (λ image sized read held holds. unless_open image c.args.slot c.from_residual-in_err-header.result
    (λ held header. held ≡ held_with header c.header_into.new.entries.items) c.in_err-header.field-0.0 c.from_residual-in_err-header.ensures.1
    (gate_read c.args.slot image _ read c.read_header.new.raw _ refl c.in_ok-count.ensures.reach.0 ∙ c.if-raw.false)
    (λ h is. c.in_err-header.ensures.only h (spelled_of c.args.slot image _ read c.in_ok-count.ensures.reach h is)) held holds)
    c.in_ok-count.ensures.shown

pub returns-clause-shown : goal.returns-clause-shown
returns-clause-shown g c =
    weaker _ _ (λ image sized read. holds_spelled c.args.slot image _ read (with_entries c.in_ok-header.header c.header_into.new.entries.items) c.in_ok-header.ensures.found)
    c.in_ok-count.ensures.shown

pub returns-clause-only : goal.returns-clause-only
returns-clause-only g c =
    weaker _ _ (λ image sized read held holds. let h = open_holds image c.args.slot held
    (gate_read c.args.slot image _ read c.read_header.new.raw _ refl c.in_ok-count.ensures.reach.0 ∙ c.if-raw.false) holds in
    h.1 ∙ ap (λ x. Some x) (sym (c.in_ok-header.ensures.only h.0 (spelled_of c.args.slot image _ read c.in_ok-count.ensures.reach h.0 h.2))))
    c.in_ok-count.ensures.shown
