use Rattle.std.proofs.Common.{rules, ◌+◌, ◌≤◌, Result, [], ◌++◌, Ok, Err, refl, subst, append-nil, arith}
use Rattle.refusals.specs.declared.refusal.Refusal.{Refusal}
use Rattle.session_turns.proofs.Results.{by_error}
use Rattle.ingest_workers.proofs.Feeding.{asks_append}
use Rattle.shared_work.specs.Working.{Again, Broke, CollectsBeside, CollectsOften, Ended}
use Rattle.shared_work.proofs.Sweeping.{often_append, often_wider}
use Rattle.shared_work.proofs.collecting.collect_often.Goals as goal

pub loop-i-init : goal.loop-i-init
loop-i-init g c = ([], refl, Ended 0 refl)

pub returns-then-load-eq0 : goal.returns-then-load-eq0
returns-then-load-eq0 g c = let i = c.loop-i.invariant in
    let few : c.loop-i.i ≤ 1024 = search rules in
    (i.0, i.1, often_wider c.args.percent (Ok tt) c.loop-i.i 1024 i.0 few i.2)

pub returns-in_err-collect_once : goal.returns-in_err-collect_once
returns-in_err-collect_once g c =
    let i = c.loop-i.invariant in
    let e = c.in_err-collect_once.field-0.0 in
    let once = c.in_err-collect_once.ensures in
    let few : c.loop-i.i + 1 ≤ 1024 = search rules in
    let percent = c.args.percent in (
      i.0 ++ once.0,
      asks_append g.S.StoreCalls.asks c.args.caller.now c.loop-i.caller c.collect_once.new.caller i.0 once.0 i.1 once.1,
      by_error (λ (r : Result (Unit {0}) Refusal). CollectsBeside percent r (i.0 ++ once.0)) c.from_residual.result e c.from_residual.ensures.1
          (often_append percent (Err e) c.loop-i.i 1 1024 i.0 once.0 few i.2 (Broke 0 e once.0 refl once.2)),
    )

pub loop-i-preserved : goal.loop-i-preserved
loop-i-preserved g c =
    let i = c.loop-i.invariant in
    let once = c.in_ok-collect_once.ensures in
    let percent = c.args.percent in
    let again : CollectsOften percent (Ok tt) 1 once.0 = subst (CollectsOften percent (Ok tt) 1) (append-nil once.0) (Again 0 once.0 [] once.2 (Ended 0 refl)) in (
      i.0 ++ once.0,
      asks_append g.S.StoreCalls.asks c.args.caller.now c.loop-i.caller c.collect_once.new.caller i.0 once.0 i.1 once.1,
      often_append percent (Ok tt) c.loop-i.i 1 (c.loop-i.i + 1) i.0 once.0 (omega arith) i.2 again,
    )
