use Rattle.std.proofs.Common.{Result, [], ◌∷◌, ◌++◌, Ok, Err, refl, ap}
use Rattle.refusals.specs.declared.refusal.Refusal.{Refusal}
use Rattle.actor_parts.specs.Asking.{Ask}
use Rattle.actor_parts.specs.StepValue as asked
use Rattle.session_turns.proofs.Results.{by_error}
use Rattle.ingest_workers.proofs.Feeding.{asks_snoc}
use Rattle.shared_work.specs.Working.{Sweeps}
use Rattle.shared_work.proofs.Sweeping.{goes_further}
use Rattle.shared_work.proofs.collecting.sweep.Goals as goal

pub returns-in_err-ask : goal.returns-in_err-ask
returns-in_err-ask g c =
    let i = c.loop.invariant.0 in
    let e = c.in_err-ask.field-0.0 in
    let a : Ask = record { step = asked.GcStep; answer = Err e; buf = c.ask.new.buf } in (
      i.0 ++ a ∷ [],
      asks_snoc g.S.StoreCalls.asks c.args.caller.now c.loop.caller c.ask.new.self i.0 a i.1 c.in_err-ask.ensures.asks,
      by_error (λ (r : Result (Unit {0}) Refusal). Sweeps r (i.0 ++ a ∷ [])) c.from_residual.result e c.from_residual.ensures.1
          (record { steps = i.0; last = a; each = i.2; last_is = refl; ends = refl; all_is = refl }),
    )

pub returns-in-Done : goal.returns-in-Done
returns-in-Done g c =
    let i = c.loop.invariant.0 in
    let a : Ask = record { step = asked.GcStep; answer = Ok c.in_ok-ask.field-0; buf = c.ask.new.buf } in (
      i.0 ++ a ∷ [],
      asks_snoc g.S.StoreCalls.asks c.args.caller.now c.loop.caller c.ask.new.self i.0 a i.1 c.in_ok-ask.ensures.asks,
      record { steps = i.0; last = a; each = i.2; last_is = refl; ends = (c.in-Done.freed, c.in-Done.copied, ap Ok c.in-Done.is); all_is = refl },
    )

pub loop-preserved : goal.loop-preserved
loop-preserved g c =
    let i = c.loop.invariant.0 in
    let a : Ask = record { step = asked.GcStep; answer = Ok c.in_ok-ask.field-0; buf = c.ask.new.buf } in (
      (
        i.0 ++ a ∷ [],
        asks_snoc g.S.StoreCalls.asks c.args.caller.now c.loop.caller c.ask.new.self i.0 a i.1 c.in_ok-ask.ensures.asks,
        goes_further i.0 a i.2 (refl, (c.in-Did.phase, ap Ok c.in-Did.is)),
      ),
      (tt, tt),
    )
