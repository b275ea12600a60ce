use Rattle.recovery.proofs.Prelude.{ending_of, blames, subst, Frees, IsFreed, Writes, Refusal}
use Rattle.recovery.proofs.Giving.{given_none, no_least, giving_first, giving_more, on_err, stands_cut}
use Rattle.recovery.proofs.freeing.give_back.Goals as goal

pub loop-free-init : goal.loop-free-init
loop-free-init g c = giving_first c.args.ids.now c.args.used.now c.args.closed _ c.requires.durable

pub returns-in_default-clause-given : goal.returns-in_default-clause-given
returns-in_default-clause-given g c = λ store visited ready.
    given_none (g.D.Disk.view c.args.disk.now).size store visited c.loop-free.ids c.args.used.now c.loop-free.free _ _ (c.loop-free.invariant.stands store visited ready)
    (no_least c.loop-free.ids c.args.used.now c.least_spare.result c.least_spare.ensures c.in_default.not-Some)

pub returns-in_err-close-clause-cut : goal.returns-in_err-close-clause-cut
returns-in_err-close-clause-cut g c =
    let view = g.D.Disk.view in
    on_err c.from_residual.result _ (λ store visited ready.
    stands_cut (view c.args.disk.now).size store visited c.loop-free.ids c.args.used.now c.loop-free.free _ _ _ c.loop-free.invariant.steady.later
    c.loop-free.invariant.steady.durable
    (c.loop-free.invariant.stands store visited ready) c.loop-free-test.true c.in-Some.slot c.in-Some.ensures
    (subst (λ (refusal : Refusal). Writes (λ _. Frees c.in-Some.slot) (IsFreed c.in-Some.slot) (ending_of (blames refusal)) (view c.loop-free.disk) (view c.close.new.disk))
    c.in_err-close.ensures.refused
    c.in_err-close.ensures.writes))

pub loop-free-preserved : goal.loop-free-preserved
loop-free-preserved g c =
    giving_more c.args.ids.now c.args.used.now c.args.closed c.loop-free.ids c.loop-free.free _ _ _ c.loop-free.invariant c.loop-free-test.true c.in-Some.slot
    c.in-Some.ensures c.in_ok-close.ensures.writes c.in_ok-close.ensures.whole
