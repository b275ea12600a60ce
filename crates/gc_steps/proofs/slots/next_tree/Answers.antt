use Rattle.gc_steps.proofs.Prelude.{sym, ◌∙◌, arith, is_tree_slot}
use Rattle.gc_steps.proofs.Scanned.{first_hit, first_miss, first_end}
use Rattle.gc_steps.proofs.slots.next_tree.Goals as goal

pub returns-then-is_old_tree : goal.returns-then-is_old_tree
returns-then-is_old_tree c =
    let test = is_tree_slot c.args.snapshot c.args.held.now in
    sym (c.loop-slot.invariant ∙ first_hit c.args.held.now test c.loop-slot.slot (omega arith) (sym c.is_old_tree.ensures ∙ c.if-is_old_tree.true))

pub loop-slot-preserved : goal.loop-slot-preserved
loop-slot-preserved c =
    let test = is_tree_slot c.args.snapshot c.args.held.now in
    c.loop-slot.invariant ∙ first_miss c.args.held.now test c.loop-slot.slot (omega arith) (sym c.is_old_tree.ensures ∙ c.if-is_old_tree.false)

pub returns : goal.returns
returns c =
    let test = is_tree_slot c.args.snapshot c.args.held.now in
    sym (c.loop-slot.invariant ∙ first_end c.args.held.now test c.loop-slot.slot (omega arith))
