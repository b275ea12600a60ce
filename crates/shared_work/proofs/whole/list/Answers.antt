use Rattle.std.proofs.Common.{Result, [], ◌∷◌, Ok, Err, refl, ap}
use Rattle.actor_parts.specs.Asking.{Ask}
use Rattle.actor_parts.specs.StepValue as asked
use Rattle.refusals.specs.declared.refusal.Refusal.{Refusal}
use Rattle.session_turns.proofs.Results.{by_error}
use Rattle.shared_work.specs.Whole.{Lists}
use Rattle.shared_work.proofs.whole.list.Goals as goal

pub returns-in_err-files : goal.returns-in_err-files
returns-in_err-files g c =
    let e = c.in_err-files.field-0.0 in
    let a : Ask = record { step = asked.ListNames; answer = Err e; buf = c.ask.new.buf } in (
      a ∷ [],
      (c.ask.new.self, (c.in_err-files.ensures.asks, refl)),
      by_error (λ (r : Result _ Refusal). Lists r (a ∷ [])) c.from_residual.result e c.from_residual.ensures.1 (a, (refl, refl, refl)),
    )

pub returns : goal.returns
returns g c =
    let a : Ask = record { step = asked.ListNames; answer = Ok c.in_ok-files.field-0; buf = c.ask.new.buf } in (
      a ∷ [],
      (c.ask.new.self, (c.in_ok-files.ensures.asks, refl)),
      (a, (refl, refl, ap Ok c.in-Listed.is)),
    )
