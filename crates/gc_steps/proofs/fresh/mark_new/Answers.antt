use Rattle.gc_steps.proofs.Prelude.{refl, sym, subst, LiveKeys, HasMarked}
use Rattle.gc_steps.proofs.FreshMarks.{marked_some, marked_turn, marked_whole, none_marked, some_turn}
use Rattle.gc_steps.proofs.fresh.mark_new.Goals as goal

pub loop-key-init : goal.loop-key-init
loop-key-init c = none_marked _ c.args.fresh.now.items c.args.live.now refl c.requires

pub loop-key-preserved : goal.loop-key-preserved
loop-key-preserved c =
    marked_turn c.args.keys.now c.loop-key.fresh.items c.mark_one.new.fresh.items c.loop-key.key-index c.args.live.now c.loop-key.live c.mark_one.new.live c.loop-key-test.true
    c.loop-key.invariant c.in_ok-mark_one.ensures.ok c.in_ok-mark_one.ensures.fresh

pub returns-in_err-mark_one-clause-some : goal.returns-in_err-mark_one-clause-some
returns-in_err-mark_one-clause-some c =
    subst (λ (live : LiveKeys). HasMarked c.mark_one.new.fresh.items c.args.live.now live) (sym c.in_err-mark_one.ensures.err)
    (some_turn _ c.loop-key.fresh.items c.mark_one.new.fresh.items _ c.args.live.now c.loop-key.live c.loop-key.invariant c.in_err-mark_one.ensures.some)

pub returns : goal.returns
returns c =
    let are = marked_whole c.args.keys.now c.loop-key.fresh.items c.loop-key.key-index c.args.live.now c.loop-key.live c.loop-key-test.false c.loop-key.invariant in
    record { ok = are.marks; fresh = are.fresh_are; some = marked_some c.args.keys.now c.loop-key.fresh.items c.args.live.now c.loop-key.live are }
