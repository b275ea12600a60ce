use Rattle.backup_engine.proofs.Prelude.{◌∙◌, inl, inr, ℕ, List, Result, refl, subst, Memory, Refused, Sent, CollectRun, no_sessions}
use Rattle.reply_text.specs.declared.ending.Ending.{Ending}
use Rattle.backup_engine.proofs.CollectBegun.{swept_err, swept_ok}
use Rattle.backup_engine.proofs.Kept.{by_error}
use Rattle.backup_engine.proofs.collecting.collect_all.Goals as goal

-- none was begun
pub returns-in_err-begin_collection-clause-ran : goal.returns-in_err-begin_collection-clause-ran
returns-in_err-begin_collection-clause-ran g c =
    let sink = g.K.Sink.view c.args.sink.now in
    by_error (λ (r : Result (Unit {0}) Ending). CollectRun _ g.C.HasState.state c.args.percent r c.args.core.now c.begin_collection.new.core sink sink) c.from_residual.result
    (Refused c.in_err-begin_collection.field-0.0) c.from_residual.ensures.1
    (inl (c.in_err-begin_collection.field-0.0, (c.in_err-begin_collection.ensures.starts, (refl, refl))))

-- there was no memory for the reply
pub returns-in_err-text-in-Ok-clause-ran : goal.returns-in_err-text-in-Ok-clause-ran
returns-in_err-text-in-Ok-clause-ran g c =
    let state = g.C.HasState.state in
    let sink = g.K.Sink.view c.args.sink.now in
    let mid = c.begin_collection.new.core in
    let new = c.sweep-swept.new.core in
    let swept = swept_ok _ state mid new c.sweep-swept.result c.in-Ok.reply c.in-Ok.is c.sweep-swept.ensures.tells (c.sweep-swept.ensures.sweeps no_sessions) in
    by_error (λ (r : Result (Unit {0}) Ending). CollectRun _ state c.args.percent r c.args.core.now new sink sink) c.from_residual-in_err-text-in-Ok.result (Refused Memory)
    c.from_residual-in_err-text-in-Ok.ensures.1
    (inr (c.in_ok-begin_collection.field-0, (mid, (c.in_ok-begin_collection.ensures.starts, inr (swept.freed, swept.copied, (swept.sweeps, inr (refl, refl)))))))

pub returns-in_ok-text-in-Ok-clause-ran : goal.returns-in_ok-text-in-Ok-clause-ran
returns-in_ok-text-in-Ok-clause-ran g c =
    let state = g.C.HasState.state in
    let sink = g.K.Sink.view c.args.sink.now in
    let sink_now = g.K.Sink.view c.send.new.sink in
    let mid = c.begin_collection.new.core in
    let new = c.sweep-swept.new.core in
    let swept = swept_ok _ state mid new c.sweep-swept.result c.in-Ok.reply c.in-Ok.is c.sweep-swept.ensures.tells (c.sweep-swept.ensures.sweeps no_sessions) in
    let sent = subst (λ (text : List ℕ). Sent text c.send.result sink sink_now) (c.deref.ensures.value ∙ c.in_ok-text-in-Ok.ensures ∙ swept.reply_is) c.send.ensures in
    inr (c.in_ok-begin_collection.field-0, (mid, (c.in_ok-begin_collection.ensures.starts, inr (swept.freed, swept.copied, (swept.sweeps, inl sent)))))

-- a step was refused
pub returns-in-Err-clause-ran : goal.returns-in-Err-clause-ran
returns-in-Err-clause-ran g c =
    let state = g.C.HasState.state in
    let mid = c.begin_collection.new.core in
    let new = c.sweep-swept.new.core in
    let sweeps = swept_err _ state mid new c.sweep-swept.result c.in-Err.refusal c.in-Err.is (c.sweep-swept.ensures.sweeps no_sessions) in
    inr (c.in_ok-begin_collection.field-0, (mid, (c.in_ok-begin_collection.ensures.starts, inl (c.in-Err.refusal, (sweeps, (refl, refl))))))
