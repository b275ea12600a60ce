use Rattle.std.proofs.Common.{Result, [], ◌∷◌, ◌++◌, Ok, Err, refl, ap}
use Rattle.refusals.specs.declared.refusal.Refusal.{Refusal}
use Rattle.actor_parts.specs.Asking.{Ask}
use Rattle.actor_parts.specs.StepValue as asked
use Rattle.session_turns.proofs.Results.{by_error}
use Rattle.ingest_workers.specs.Giving.{More, Nothing, TakesAll}
use Rattle.ingest_workers.proofs.Feeding.{asks_snoc}
use Rattle.ingest_workers.proofs.serving.take_all.Goals as goal

pub loop-init : goal.loop-init
loop-init g c = (([], refl, Nothing), (tt, tt))

pub returns-in_err-make : goal.returns-in_err-make
returns-in_err-make g c =
    let i = c.loop.invariant.0 in
    let e = c.in_err-make.field-0.0 in
    let a : Ask = record { step = asked.ReadNext; answer = Err e; buf = c.make.new.buf } in (
      i.0 ++ a ∷ [],
      asks_snoc g.S.StoreCalls.asks c.args.caller.now c.loop.caller c.make.new.self i.0 a i.1 c.in_err-make.ensures.made,
      by_error (λ (r : Result (Unit {0}) Refusal). TakesAll r (i.0 ++ a ∷ [])) c.from_residual.result e c.from_residual.ensures.1
          (record { taken = i.0; last = a; takes = i.2; step_is = refl; is_last = refl; all_is = refl }),
    )

pub returns-in-End : goal.returns-in-End
returns-in-End g c =
    let i = c.loop.invariant.0 in
    let a : Ask = record { step = asked.ReadNext; answer = Ok c.in_ok-make.field-0; buf = c.make.new.buf } in (
      i.0 ++ a ∷ [],
      asks_snoc g.S.StoreCalls.asks c.args.caller.now c.loop.caller c.make.new.self i.0 a i.1 c.in_ok-make.ensures.made,
      record { taken = i.0; last = a; takes = i.2; step_is = refl; is_last = ap Ok c.in-End.is; all_is = refl },
    )

pub loop-preserved : goal.loop-preserved
loop-preserved g c =
    let i = c.loop.invariant.0 in
    let a : Ask = record { step = asked.ReadNext; answer = Ok c.in_ok-make.field-0; buf = c.make.new.buf } in (
      (
        i.0 ++ a ∷ [],
        asks_snoc g.S.StoreCalls.asks c.args.caller.now c.loop.caller c.make.new.self i.0 a i.1 c.in_ok-make.ensures.made,
        More i.0 a c.in-Bytes.count i.2 refl (ap Ok c.in-Bytes.is),
      ),
      (tt, tt),
    )
