use Rattle.std.proofs.Common.{Result, ◌++◌, refl}
use Rattle.refusals.specs.declared.refusal.Refusal.{Refusal}
use Rattle.ingest_workers.proofs.Feeding.{asks_append}
use Rattle.session_turns.proofs.Results.{by_error}
use Rattle.shared_work.specs.Whole.{Concludes, Concluded, Uncollected, Uncounted, Unlisted}
use Rattle.shared_work.proofs.whole.conclude.Goals as goal

pub returns-in_err-collect_once : goal.returns-in_err-collect_once
returns-in_err-collect_once g c =
    let e = c.in_err-collect_once.field-0.0 in
    let all = c.in_err-collect_once.ensures in (
      all.0,
      all.1,
      by_error (λ (r : Result _ Refusal). Concludes c.args.percent r all.0) c.from_residual.result e c.from_residual.ensures.1 (Uncollected e all.0 refl all.2),
    )

pub returns-in_err-files : goal.returns-in_err-files
returns-in_err-files g c =
    let e = c.in_err-files.field-0.0 in
    let all = c.in_ok-collect_once.ensures in
    let list = c.in_err-files.ensures in (
      all.0 ++ list.0,
      asks_append g.S.StoreCalls.asks c.args.caller.now c.collect_once.new.caller c.list.new.caller all.0 list.0 all.1 list.1,
      by_error (λ (r : Result _ Refusal). Concludes c.args.percent r (all.0 ++ list.0)) c.from_residual-in_err-files.result e c.from_residual-in_err-files.ensures.1
          (Unlisted e all.0 list.0 refl all.2 list.2),
    )

pub returns-in_err-segments : goal.returns-in_err-segments
returns-in_err-segments g c =
    let e = c.in_err-segments.field-0.0 in
    let all = c.in_ok-collect_once.ensures in
    let list = c.in_ok-files.ensures in
    let count = c.in_err-segments.ensures in (
      all.0 ++ (list.0 ++ count.0),
      asks_append g.S.StoreCalls.asks c.args.caller.now c.collect_once.new.caller c.count.new.caller all.0 (list.0 ++ count.0) all.1
          (asks_append g.S.StoreCalls.asks c.collect_once.new.caller c.list.new.caller c.count.new.caller list.0 count.0 list.1 count.1),
      by_error (λ (r : Result _ Refusal). Concludes c.args.percent r (all.0 ++ (list.0 ++ count.0))) c.from_residual-in_err-segments.result e
          c.from_residual-in_err-segments.ensures.1 (Uncounted e all.0 list.0 count.0 _ refl all.2 list.2 count.2),
    )

pub returns : goal.returns
returns g c =
    let all = c.in_ok-collect_once.ensures in
    let list = c.in_ok-files.ensures in
    let count = c.in_ok-segments.ensures in (
      all.0 ++ (list.0 ++ count.0),
      asks_append g.S.StoreCalls.asks c.args.caller.now c.collect_once.new.caller c.count.new.caller all.0 (list.0 ++ count.0) all.1
          (asks_append g.S.StoreCalls.asks c.collect_once.new.caller c.list.new.caller c.count.new.caller list.0 count.0 list.1 count.1),
      Concluded _ all.0 list.0 count.0 refl all.2 list.2 count.2,
    )
