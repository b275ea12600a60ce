use Rattle.script_runner.proofs.Prelude.{inr}
use Rattle.std.proofs.lemmas.Result.{err_from_is_err_and}
use Rattle.script_runner.proofs.reopening.reopen.Goals as goal

pub returns-in_err-reopen-clause-refused : goal.returns-in_err-reopen-clause-refused
returns-in_err-reopen-clause-refused g c =
    let p = err_from_is_err_and c.from_residual-in_err-reopen.result c.from_residual-in_err-reopen.ensures.1 in
    rw (p.1, p.2) (record { why = inr (c.in_err-reopen.ensures.refused, c.in_err-reopen.ensures.kept) })
