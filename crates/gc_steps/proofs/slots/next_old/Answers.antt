use Rattle.gc_steps.proofs.Prelude.{sym, ◌∙◌, arith, is_old_slot}
use Rattle.gc_steps.proofs.Scanned.{first_hit, first_miss, first_end}
use Rattle.gc_steps.proofs.slots.next_old.Goals as goal

pub returns-then-is_old : goal.returns-then-is_old
returns-then-is_old c =
    let test = is_old_slot c.args.snapshot c.args.held.now in
    sym (c.loop-slot.invariant ∙ first_hit c.args.held.now test c.loop-slot.slot (omega arith) (sym c.is_old.ensures ∙ c.if-is_old.true))

pub loop-slot-preserved : goal.loop-slot-preserved
loop-slot-preserved c =
    let test = is_old_slot c.args.snapshot c.args.held.now in
    c.loop-slot.invariant ∙ first_miss c.args.held.now test c.loop-slot.slot (omega arith) (sym c.is_old.ensures ∙ c.if-is_old.false)

pub returns : goal.returns
returns c =
    let test = is_old_slot c.args.snapshot c.args.held.now in
    sym (c.loop-slot.invariant ∙ first_end c.args.held.now test c.loop-slot.slot (omega arith))
