use Rattle.merkle_file.proofs.Prelude.{ℕ, Result, Ok, Err, [], set, ap, ◌∙◌, arith, length-take-le}
use Rattle.std.proofs.Common.{replicate}
use Rattle.std.specs.Prelude.{OnErr}
use Rattle.std.specs.declared.alloc.AllocError.{AllocError}
use Rattle.std.proofs.lemmas.List.{length-set}
use Rattle.merkle_file.proofs.Placing.{set_same, settled}
use Rattle.merkle_file.proofs.rows.settle.Goals as goal

on_err : (r : Result (Unit {0}) AllocError) (P : Type 0) → P → OnErr r P
on_err (Ok t) P h = tt
on_err (Err e) P h = h

pub returns-in_err-push-clause-err : goal.returns-in_err-push-clause-err
returns-in_err-push-clause-err c =
    on_err c.from_residual.result _ (set_same c.args.rows.now c.args.level c.push.new.self c.index-rows-level.result c.requires c.in_err-push.ensures.items)

pub returns-clause-ok : goal.returns-clause-ok
returns-clause-ok c =
    let pushed = set c.args.rows.now c.args.level c.push.new.self in
    let long = length-set c.args.rows.now c.args.level c.push.new.self in
    settled c.args.rows.now c.args.level c.push.new.self c.index-rows-level.result c.args.child c.clear.new.rows c.requires c.in_ok-push.ensures.items
    (c.clear.ensures ∙ ap (λ (k : ℕ). replicate k []) (length-take-le c.args.level pushed (omega (arith, long, c.requires))))
