use Rattle.std.proofs.Common.{Result, [], ◌∷◌, ◌++◌, Ok, Err, refl}
use Rattle.refusals.specs.declared.refusal.Refusal.{Refusal}
use Rattle.actor_parts.specs.Asking.{Ask}
use Rattle.actor_parts.specs.StepValue as asked
use Rattle.session_turns.proofs.Results.{by_error}
use Rattle.ingest_workers.specs.Giving.{IsRead, Unclosed, Unended, Unopened}
use Rattle.ingest_workers.proofs.Feeding.{asks_snoc}
use Rattle.ingest_workers.proofs.serving.read.Goals as goal

pub returns-in_err-make : goal.returns-in_err-make
returns-in_err-make g c =
    let e = c.in_err-make.field-0.0 in
    let a : Ask = record { step = asked.OpenRead c.args.name.now; answer = Err e; buf = c.make.new.buf } in (
      a ∷ [],
      (c.make.new.self, (c.in_err-make.ensures.made, refl)),
      by_error (λ (r : Result (Unit {0}) Refusal). IsRead c.args.name.now r (a ∷ [])) c.from_residual.result e c.from_residual.ensures.1 (Unopened a refl refl),
    )

pub returns-in-Err : goal.returns-in-Err
returns-in-Err g c =
    let a : Ask = record { step = asked.OpenRead c.args.name.now; answer = Ok c.in_ok-make.field-0; buf = c.make.new.buf } in
    let e : Ask = record { step = asked.EndRead; answer = c.make-given_up.result; buf = c.make-given_up.new.buf } in
    let taken = c.in-Err.ensures in (
      a ∷ (taken.0 ++ e ∷ []),
      (
        c.make.new.self,
        (
          c.in_ok-make.ensures.made,
          asks_snoc g.S.StoreCalls.asks c.make.new.self c.take_all.new.caller c.make-given_up.new.self taken.0 e taken.1 c.make-given_up.ensures.made,
        ),
      ),
      Unended a taken.0 e refl (c.in_ok-make.field-0, refl, c.in_ok-make.ensures.fits) taken.2 refl,
    )

pub returns-in_err-make-in-Ok : goal.returns-in_err-make-in-Ok
returns-in_err-make-in-Ok g c =
    let a : Ask = record { step = asked.OpenRead c.args.name.now; answer = Ok c.in_ok-make.field-0; buf = c.make.new.buf } in
    let refusal = c.in_err-make-in-Ok.field-0.0 in
    let e : Ask = record { step = asked.EndRead; answer = Err refusal; buf = c.make-in-Ok.new.buf } in
    let taken = c.in-Ok.ensures in (
      a ∷ (taken.0 ++ e ∷ []),
      (
        c.make.new.self,
        (
          c.in_ok-make.ensures.made,
          asks_snoc g.S.StoreCalls.asks c.make.new.self c.take_all.new.caller c.make-in-Ok.new.self taken.0 e taken.1 c.in_err-make-in-Ok.ensures.made,
        ),
      ),
      by_error (λ (r : Result (Unit {0}) Refusal). IsRead c.args.name.now r (a ∷ (taken.0 ++ e ∷ []))) c.from_residual-in_err-make-in-Ok.result refusal
          c.from_residual-in_err-make-in-Ok.ensures.1 (Unclosed a taken.0 e refl (c.in_ok-make.field-0, refl, c.in_ok-make.ensures.fits) taken.2 refl refl),
    )

pub returns-in_ok-make-in-Ok : goal.returns-in_ok-make-in-Ok
returns-in_ok-make-in-Ok g c =
    let a : Ask = record { step = asked.OpenRead c.args.name.now; answer = Ok c.in_ok-make.field-0; buf = c.make.new.buf } in
    let e : Ask = record { step = asked.EndRead; answer = Ok c.in_ok-make-in-Ok.field-0; buf = c.make-in-Ok.new.buf } in
    let taken = c.in-Ok.ensures in (
      a ∷ (taken.0 ++ e ∷ []),
      (
        c.make.new.self,
        (
          c.in_ok-make.ensures.made,
          asks_snoc g.S.StoreCalls.asks c.make.new.self c.take_all.new.caller c.make-in-Ok.new.self taken.0 e taken.1 c.in_ok-make-in-Ok.ensures.made,
        ),
      ),
      record {
        opening = a;
        taken = taken.0;
        closing = e;
        opening_is = refl;
        opened = (c.in_ok-make.field-0, refl, c.in_ok-make.ensures.fits);
        takes = taken.2;
        closing_is = refl;
        closed = (c.in_ok-make-in-Ok.field-0, refl, c.in_ok-make-in-Ok.ensures.fits);
        all_is = refl;
      },
    )
