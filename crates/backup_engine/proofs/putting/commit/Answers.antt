use Rattle.backup_engine.proofs.Prelude.{Result, Ok, Err, refl, Refusal, root_of, AsksPut}
use Rattle.actor_parts.specs.StepValue as asked
use Rattle.backup_engine.specs.Feeding.{IsPut}
use Rattle.backup_engine.proofs.Committed.{commit_is, put_done, put_refused}
use Rattle.backup_engine.proofs.FirstActor.{as_first}
use Rattle.backup_engine.proofs.Kept.{by_error}
use Rattle.backup_engine.proofs.putting.commit.Goals as goal

pub returns-in_err-make_step-clause-commits : goal.returns-in_err-make_step-clause-commits
returns-in_err-make_step-clause-commits g c = λ start given s all root_is.
    let state = g.C.HasState.state in
    let name = c.args.name.now in
    let old = c.args.core.now in
    let new = c.make_step.new.self in
    let e = c.in_err-make_step.field-0.0 in
    let step = as_first (state old) (state new) _ _ (asked.Commit name (root_of given)) (Err e) c.make_step.new.buf c.first.ensures
    (commit_is _ name _ (root_of given) c.as_bytes.ensures.value root_is) c.in_err-make_step.ensures.step in
    by_error (λ (r : Result (Unit {0}) Refusal). IsPut _ state name given r start new) c.from_residual.result e c.from_residual.ensures.1
    (put_refused _ state name given s start old new all c.all_is_kept.ensures c.bytes_are_counted.ensures c.make_step.new.buf e step)

pub returns-clause-commits : goal.returns-clause-commits
returns-clause-commits g c = λ start given s all root_is.
    let state = g.C.HasState.state in
    let name = c.args.name.now in
    let old = c.args.core.now in
    let new = c.make_step.new.self in
    let answer = c.in_ok-make_step.field-0 in
    let step = as_first (state old) (state new) _ _ (asked.Commit name (root_of given)) (Ok answer) c.make_step.new.buf c.first.ensures
    (commit_is _ name _ (root_of given) c.as_bytes.ensures.value root_is) c.in_ok-make_step.ensures.step in
    put_done _ state name given s start old new all c.all_is_kept.ensures c.bytes_are_counted.ensures c.make_step.new.buf answer step

pub returns-in_err-make_step-clause-asks : goal.returns-in_err-make_step-clause-asks
returns-in_err-make_step-clause-asks g c =
    let state = g.C.HasState.state in
    let name = c.args.name.now in
    let root = c.args.root.now in
    let old = c.args.core.now in
    let new = c.make_step.new.self in
    let e = c.in_err-make_step.field-0.0 in
    let step = as_first (state old) (state new) _ _ (asked.Commit name root) (Err e) c.make_step.new.buf c.first.ensures (commit_is _ name _ root c.as_bytes.ensures.value refl)
    c.in_err-make_step.ensures.step in
    by_error (λ (r : Result (Unit {0}) Refusal). AsksPut _ state name root r old new) c.from_residual.result e c.from_residual.ensures.1 (c.make_step.new.buf, step)

pub returns-clause-asks : goal.returns-clause-asks
returns-clause-asks g c =
    let state = g.C.HasState.state in
    let name = c.args.name.now in
    let root = c.args.root.now in
    let old = c.args.core.now in
    let new = c.make_step.new.self in
    let answer = c.in_ok-make_step.field-0 in (
      answer,
      (
        c.make_step.new.buf,
        as_first (state old) (state new) _ _ (asked.Commit name root) (Ok answer) c.make_step.new.buf c.first.ensures
            (commit_is _ name _ root c.as_bytes.ensures.value refl) c.in_ok-make_step.ensures.step,
      ),
    )
