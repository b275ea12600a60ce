use Rattle.std.proofs.Common.{arith}
use Rattle.script_lines.proofs.Numbers.{length_is}
use Rattle.script_lines.proofs.words.read_number.Goals as goal

pub returns-in_default-clause-none : goal.returns-in_default-clause-none
returns-in_default-clause-none c = λ number small is.
    let sizes = length_is number c.args.word.now small is in
    omega (arith, sizes.0, sizes.1, c.in_default.len_below)

pub returns-in_default-2-clause-none : goal.returns-in_default-2-clause-none
returns-in_default-2-clause-none c = λ number small is.
    let sizes = length_is number c.args.word.now small is in
    omega (arith, sizes.0, sizes.1, c.in_default.len_at_least)
