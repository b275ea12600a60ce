use Rattle.recovery.proofs.Prelude.{ℕ, [], ◌∷◌, arith, ap, ◌∙◌, refl, written}
use Rattle.std.proofs.Common.{option_map}
use Rattle.recovery.proofs.Blank.{stays_here, stays_write, stays_on}
use Rattle.recovery.proofs.Formatted.{none_closed, more_closed}
use Rattle.recovery.proofs.formatting.close_slots.Goals as goal

pub loop-slot-init : goal.loop-slot-init
loop-slot-init g c =
    let view = g.D.Disk.view c.args.disk.now in
    (none_closed view.content, stays_here c.args.slots view, refl)

pub write-requires : goal.write-requires
write-requires g c =
    omega (arith, c.loop-slot.invariant.1.later.size_is, c.requires, c.slot_at.ensures, c.loop-slot-test.true)

-- the slots that were closed before, and the one whose write failed
pub returns-in_err-write-clause-stays : goal.returns-in_err-write-clause-stays
returns-in_err-write-clause-stays g c =
    stays_on c.args.slots _ _ _ c.loop-slot.invariant.1
    (stays_write c.args.slots _ 1 _ _ (omega (arith, c.slot_at.ensures)) (omega (arith, c.slot_at.ensures, c.loop-slot-test.true)) c.in_err-write.ensures.later
    c.in_err-write.ensures.leaves)

pub loop-slot-preserved : goal.loop-slot-preserved
loop-slot-preserved g c =
    let old = g.D.Disk.view c.args.disk.now in
    let mid = g.D.Disk.view c.loop-slot.disk in (
      c.in_ok-write.ensures.ok ∙ ap (λ (n : ℕ). option_map (written n (0 ∷ [])) mid.content) c.slot_at.ensures ∙ more_closed c.loop-slot.slot old.content mid.content
          c.loop-slot.invariant.0,
      stays_on c.args.slots _ _ _ c.loop-slot.invariant.1
          (stays_write c.args.slots _ 1 _ _ (omega (arith, c.slot_at.ensures)) (omega (arith, c.slot_at.ensures, c.loop-slot-test.true)) c.in_ok-write.ensures.later
          c.in_ok-write.ensures.leaves),
      c.in_ok-write.ensures.count ∙ c.loop-slot.invariant.2,
    )
