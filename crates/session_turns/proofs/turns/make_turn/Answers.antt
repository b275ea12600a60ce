use Rattle.std.proofs.Common.{◌∙◌, inl, inr, Option, Result, Ok, Err, refl, ap, subst, rules}
use Rattle.actor_parts.specs.declared.step.Answer.{Answer}
use Rattle.refusals.specs.declared.refusal.Refusal.{Refusal}
use Rattle.refusals.specs.declared.refusal.Refusal.TheVariants.{Memory}
use Rattle.ingest_session.specs.State.{SessionState}
use Rattle.session_turns.specs.Turning.{AskedFor, TakesTurnBy, does, maker_of}
use Rattle.session_turns.proofs.Results.{by_error}
use Rattle.ingest_session.proofs.Staying.{told}
use Rattle.session_turns.proofs.turns.make_turn.Goals as goal

pub returns-in_err-due-clause-turn : goal.returns-in_err-due-clause-turn
returns-in_err-due-clause-turn g c =
    let core = c.args.core.now in
    by_error
    (λ (r : Result (Option Answer) Refusal). TakesTurnBy (maker_of g.C.MakesSteps.runs g.C.MakesSteps.makes) c.args.actor r
    c.args.session.now c.due.new.self core core)
    c.from_residual.result Memory c.from_residual.ensures.1
    (inl (refl, record { places = c.due.ensures.places; keeps = c.due.ensures.keeps }, refl))

pub returns-in-Nothing-clause-turn : goal.returns-in-Nothing-clause-turn
returns-in-Nothing-clause-turn g c =
    (record { places = c.due.ensures.places; keeps = c.due.ensures.keeps }, c.in_ok-due.ensures.ok, search rules, refl)

pub returns-in_err-answer-clause-turn : goal.returns-in_err-answer-clause-turn
returns-in_err-answer-clause-turn g c =
    let maker = maker_of g.C.MakesSteps.runs g.C.MakesSteps.makes in
    let e = c.in_err-answer.field-0.0 in
    let t = c.due.new.self in
    let new = c.ask.new.core in
    by_error (λ (r : Result (Option Answer) Refusal). TakesTurnBy maker c.args.actor r c.args.session.now t c.args.core.now new) c.from_residual-in_err-answer.result e
    c.from_residual-in_err-answer.ensures.1
    (inr (
      record { places = c.due.ensures.places; keeps = c.due.ensures.keeps },
      c.in_ok-due.ensures.ok,
      subst (λ (d : _). AskedFor (does maker c.args.actor c.args.core.now new) d t (Err e)) c.in_ok-due.ensures.due c.in_err-answer.ensures.asks,
    ))

pub returns-clause-turn : goal.returns-clause-turn
returns-clause-turn g c =
    let maker = maker_of g.C.MakesSteps.runs g.C.MakesSteps.makes in
    let t = c.due.new.self in
    record {
      before = t;
      paused = record { places = c.due.ensures.places; keeps = c.due.ensures.keeps };
      settled = c.in_ok-due.ensures.ok;
      asks = subst (λ (d : _). AskedFor (does maker c.args.actor c.args.core.now c.ask.new.core) d t (Ok c.in_ok-answer.answer))
          c.in_ok-due.ensures.due c.in_ok-answer.ensures.asks;
      running = c.in_ok-answer.ensures.running;
      fits = c.in_ok-answer.ensures.fits;
      told = c.told.ensures.told;
      history = c.told.ensures.history;
    }

pub returns-clause-ended : goal.returns-clause-ended
returns-clause-ended g c = ap (λ (x : SessionState). x.ended) c.told.ensures.told ∙ (told c.in_ok-answer.answer c.due.new.self).ended ∙ c.due.ensures.keeps.ended

pub returns-clause-count : goal.returns-clause-count
returns-clause-count g c = ap (λ (x : SessionState). x.count) c.told.ensures.told ∙ (told c.in_ok-answer.answer c.due.new.self).count ∙ c.due.ensures.keeps.count

pub returns-clause-most : goal.returns-clause-most
returns-clause-most g c = ap (λ (x : SessionState). x.most) c.told.ensures.told ∙ (told c.in_ok-answer.answer c.due.new.self).most ∙ c.due.ensures.keeps.most
