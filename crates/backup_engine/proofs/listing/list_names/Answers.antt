use Rattle.backup_engine.proofs.Prelude.{Result, inl, inr, Ok, Err, ◌∙◌, refl, subst, List, ℕ, Answer, Memory, Refused, DoesStep, Sent, ListRun}
use Rattle.actor_parts.specs.declared.step.Answer.TheVariants as answers
use Rattle.actor_parts.specs.StepValue as asked
use Rattle.reply_text.specs.declared.ending.Ending.{Ending}
use Rattle.backup_engine.proofs.FirstActor.{as_first}
use Rattle.backup_engine.proofs.Kept.{by_error}
use Rattle.backup_engine.proofs.listing.list_names.Goals as goal

-- there was no memory for the list
pub returns-in_err-files-clause-ran : goal.returns-in_err-files-clause-ran
returns-in_err-files-clause-ran g c =
    let state = g.C.HasState.state in
    let old = c.args.core.now in
    let new = c.make_step.new.self in
    let e = c.in_err-files.field-0.0 in
    let sink = g.K.Sink.view c.args.sink.now in
    let step = as_first (state old) (state new) _ _ asked.ListNames (Err e) c.make_step.new.buf c.first.ensures refl c.in_err-files.ensures.step in
    by_error (λ (r : Result (Unit {0}) Ending). ListRun _ state r old new sink sink) c.from_residual.result (Refused e) c.from_residual.ensures.1
    (Err e, ((c.make_step.new.buf, step), (refl, refl)))

-- or for its text
pub returns-in_err-text-clause-ran : goal.returns-in_err-text-clause-ran
returns-in_err-text-clause-ran g c =
    let state = g.C.HasState.state in
    let old = c.args.core.now in
    let new = c.make_step.new.self in
    let sink = g.K.Sink.view c.args.sink.now in
    let step = as_first (state old) (state new) _ _ asked.ListNames (Ok c.in_ok-files.field-0) c.make_step.new.buf c.first.ensures refl c.in_ok-files.ensures.step in
    let listed : DoesStep 0 asked.ListNames (answers.Listed c.in-Listed.files) (state old) (state new) =
    subst (λ (a : Answer). DoesStep 0 asked.ListNames a (state old) (state new)) c.in-Listed.is (c.make_step.new.buf, step) in
    by_error (λ (r : Result (Unit {0}) Ending). ListRun _ state r old new sink sink) c.from_residual-in_err-text.result (Refused Memory) c.from_residual-in_err-text.ensures.1
    (Ok c.in-Listed.files, (listed, inr (refl, refl)))

pub returns-clause-ran : goal.returns-clause-ran
returns-clause-ran g c =
    let state = g.C.HasState.state in
    let old = c.args.core.now in
    let new = c.make_step.new.self in
    let sink = g.K.Sink.view c.args.sink.now in
    let sink_now = g.K.Sink.view c.send.new.sink in
    let step = as_first (state old) (state new) _ _ asked.ListNames (Ok c.in_ok-files.field-0) c.make_step.new.buf c.first.ensures refl c.in_ok-files.ensures.step in
    let listed : DoesStep 0 asked.ListNames (answers.Listed c.in-Listed.files) (state old) (state new) =
    subst (λ (a : Answer). DoesStep 0 asked.ListNames a (state old) (state new)) c.in-Listed.is (c.make_step.new.buf, step) in
    (Ok c.in-Listed.files, (listed, inl (subst (λ (text : List ℕ). Sent text c.send.result sink sink_now) (c.deref.ensures.value ∙ c.in_ok-text.ensures) c.send.ensures)))
