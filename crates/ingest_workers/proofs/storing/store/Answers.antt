use Rattle.std.proofs.Common.{Result, [], ◌∷◌, ◌++◌, Ok, Err, refl}
use Rattle.disk_format.specs.Cells.{Root}
use Rattle.refusals.specs.declared.refusal.Refusal.{Refusal}
use Rattle.refusals.specs.declared.refusal.Refusal.TheVariants.{Memory}
use Rattle.actor_parts.specs.Asking.{Ask}
use Rattle.actor_parts.specs.StepValue as asked
use Rattle.session_turns.proofs.Results.{by_error}
use Rattle.ingest_workers.specs.Giving.{GivenUp, IsStored, Unbegun, Untaken}
use Rattle.ingest_workers.specs.Jobs.{file_of}
use Rattle.ingest_workers.proofs.Feeding.{asks_snoc, fresh_under}
use Rattle.ingest_workers.proofs.storing.store.Goals as goal

pub returns-in_err-session : goal.returns-in_err-session
returns-in_err-session g c = (
  [],
  refl,
  by_error (λ (r : Result Root Refusal). IsStored (file_of c.args.job.now) c.args.name.now r [])
      c.from_residual.result Memory c.from_residual.ensures.1 (Untaken refl),
)

pub returns-in_err-make : goal.returns-in_err-make
returns-in_err-make g c =
    let e = c.in_err-make.field-0.0 in
    let a : Ask = record { step = asked.Begin; answer = Err e; buf = c.make.new.buf } in (
      a ∷ [],
      (c.make.new.self, (c.in_err-make.ensures.made, refl)),
      by_error (λ (r : Result Root Refusal). IsStored (file_of c.args.job.now) c.args.name.now r (a ∷ []))
          c.from_residual-in_err-make.result e c.from_residual-in_err-make.ensures.1 (Unbegun a refl refl),
    )

pub returns-in-Ok : goal.returns-in-Ok
returns-in-Ok g c =
    let answer = c.in_ok-make.field-0 in
    let a : Ask = record { step = asked.Begin; answer = Ok answer; buf = c.make.new.buf } in
    let under = fresh_under g.S.StoreCalls.asks (file_of c.args.job.now) c.args.caller.now c.make.new.self c.in_ok-session.session a answer refl refl
    c.in_ok-make.ensures.fits c.in_ok-make.ensures.made
    c.in_ok-session.ensures.history c.in_ok-session.ensures.begun in
    c.in-Ok.ensures c.args.caller.now under.0 under.1

pub returns : goal.returns
returns g c =
    let answer = c.in_ok-make.field-0 in
    let a : Ask = record { step = asked.Begin; answer = Ok answer; buf = c.make.new.buf } in
    let under = fresh_under g.S.StoreCalls.asks (file_of c.args.job.now) c.args.caller.now c.make.new.self c.in_ok-session.session a answer refl refl
    c.in_ok-make.ensures.fits c.in_ok-make.ensures.made
    c.in_ok-session.ensures.history c.in_ok-session.ensures.begun in
    let stopped = c.in-Err.ensures c.args.caller.now under.0 under.1 in
    let e : Ask = record { step = asked.Abort; answer = c.make-given_up.result; buf = c.make-given_up.new.buf } in (
      stopped.0 ++ e ∷ [],
      asks_snoc g.S.StoreCalls.asks c.args.caller.now c.give.new.caller c.make-given_up.new.self stopped.0 e stopped.1 c.make-given_up.ensures.made,
      GivenUp stopped.0 e stopped.2 refl,
    )
