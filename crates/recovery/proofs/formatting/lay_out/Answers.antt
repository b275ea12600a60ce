use Rattle.recovery.proofs.Prelude.{length, arith, ap, ◌∙◌, written, length-zeros, FIRST_SELECTOR}
use Rattle.std.proofs.Common.{option_map}
use Rattle.std.proofs.lemmas.Result.{on_ok_weaker}
use Rattle.recovery.specs.Formatting.{with_closed}
use Rattle.recovery.proofs.Blank.{stays_write, stays_on}
use Rattle.recovery.proofs.Formatted.{BLANKS, length-first_selector, laid_told}
use Rattle.recovery.proofs.formatting.lay_out.Goals as goal

pub write-requires : goal.write-requires
write-requires g c = omega (arith, c.requires.size, ap length c.requires.blanks ∙ length-zeros BLANKS)

pub returns-in_err-write-clause-stays : goal.returns-in_err-write-clause-stays
returns-in_err-write-clause-stays g c =
    stays_write c.args.slots FIRST_SELECTOR _ _ _ (omega arith) (omega (arith, ap length c.requires.blanks ∙ length-zeros BLANKS)) c.in_err-write.ensures.later
    c.in_err-write.ensures.leaves

pub returns-in_err-close_slots-clause-stays : goal.returns-in_err-close_slots-clause-stays
returns-in_err-close_slots-clause-stays g c =
    stays_on c.args.slots _ _ _
    (stays_write c.args.slots FIRST_SELECTOR _ _ _ (omega arith) (omega (arith, ap length c.requires.blanks ∙ length-zeros BLANKS)) c.in_ok-write.ensures.later
    c.in_ok-write.ensures.leaves)
    c.in_err-close_slots.ensures.stays

pub write-requires-2 : goal.write-requires-2
write-requires-2 g c =
    omega (arith, c.requires.size, ap length c.requires.selector ∙ length-first_selector, c.in_ok-write.ensures.later.size_is, c.in_ok-close_slots.ensures.stays.later.size_is)

pub returns-clause-ok : goal.returns-clause-ok
returns-clause-ok g c =
    let old = g.D.Disk.view c.args.disk.now in
    let selector = c.args.selector.now in
    let mid = c.in_ok-close_slots.ensures.ok ∙ ap (option_map (with_closed c.args.slots)) c.in_ok-write.ensures.ok in
    on_ok_weaker c.write-2.result
    (λ is. is ∙ ap (option_map (written FIRST_SELECTOR selector)) mid ∙ laid_told c.args.slots c.args.blanks.now selector old.content c.requires.blanks c.requires.selector)
    c.write-2.ensures.ok

pub returns-clause-stays : goal.returns-clause-stays
returns-clause-stays g c =
    stays_on c.args.slots _ _ _
    (stays_on c.args.slots _ _ _
    (stays_write c.args.slots FIRST_SELECTOR _ _ _ (omega arith) (omega (arith, ap length c.requires.blanks ∙ length-zeros BLANKS)) c.in_ok-write.ensures.later
    c.in_ok-write.ensures.leaves)
    c.in_ok-close_slots.ensures.stays)
    (stays_write c.args.slots FIRST_SELECTOR _ _ _ (omega arith) (omega (arith, ap length c.requires.selector ∙ length-first_selector)) c.write-2.ensures.later
    c.write-2.ensures.leaves)
