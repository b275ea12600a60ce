use Rattle.script_runner.proofs.Prelude.{◌∙◌, ℕ, Result, refl, ap, Refusal, has_ended, by_error}
use Rattle.script_runner.specs.Acts.{Finishes}
use Rattle.script_runner.proofs.SessionLists.{given_back, only_memory, replaced}
use Rattle.script_runner.proofs.giving.finish.Goals as goal

pub returns-in_err-ended : goal.returns-in_err-ended
returns-in_err-ended g c =
    let actor = c.args.actor in
    let s = c.in-Some.session in
    let t = c.finish-ended.new.self in
    let core = c.args.core.now in
    let e = c.in_err-ended.field-0.0 in
    record {
      finishes = by_error (λ (r : Result ℕ Refusal). Finishes _ actor r c.args.sessions.now c.set.new.self core core) c.from_residual.result e c.from_residual.ensures.1 (
        only_memory s e (ap has_ended c.in-Some.ensures.taken ∙ c.requires) c.in_err-ended.ensures.refusal,
        given_back actor s t c.args.sessions.now c.take.new.self c.set.new.self c.in-Some.ensures.taken c.take.ensures.left c.set.ensures.sessions c.in_err-ended.ensures.err,
        refl,
      );
    }

pub returns : goal.returns
returns g c =
    let actor = c.args.actor in
    let s = c.in-Some.session in
    let t = c.finish-ended.new.self in
    record {
      finishes = (
        s,
        t,
        replaced actor s t c.args.sessions.now c.take.new.self c.set.new.self c.in-Some.ensures.taken c.take.ensures.left c.set.ensures.sessions,
        c.in_ok-ended.ensures.ok,
        c.in_ok-ended.ensures.history,
        c.count-given.ensures,
        refl,
      );
    }
