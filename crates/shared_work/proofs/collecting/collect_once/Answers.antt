use Rattle.std.proofs.Common.{Result, [], ◌∷◌, Ok, Err, refl}
use Rattle.refusals.specs.declared.refusal.Refusal.{Refusal}
use Rattle.actor_parts.specs.Asking.{Ask}
use Rattle.actor_parts.specs.StepValue as asked
use Rattle.session_turns.proofs.Results.{by_error}
use Rattle.shared_work.specs.Working.{CollectsOnce, Swept, Unbegun}
use Rattle.shared_work.proofs.collecting.collect_once.Goals as goal

pub returns-in_err-ask : goal.returns-in_err-ask
returns-in_err-ask g c =
    let e = c.in_err-ask.field-0.0 in
    let a : Ask = record { step = asked.GcStart c.args.percent; answer = Err e; buf = c.ask.new.buf } in (
      a ∷ [],
      (c.ask.new.self, (c.in_err-ask.ensures.asks, refl)),
      by_error (λ (r : Result (Unit {0}) Refusal). CollectsOnce c.args.percent r (a ∷ [])) c.from_residual.result e c.from_residual.ensures.1 (Unbegun a e refl refl refl),
    )

pub returns : goal.returns
returns g c =
    let a : Ask = record { step = asked.GcStart c.args.percent; answer = Ok c.in_ok-ask.field-0; buf = c.ask.new.buf } in
    let swept = c.sweep.ensures in (
      a ∷ swept.0,
      (c.ask.new.self, (c.in_ok-ask.ensures.asks, swept.1)),
      Swept a swept.0 refl (c.in_ok-ask.field-0, refl, c.in_ok-ask.ensures.fits) swept.2,
    )
