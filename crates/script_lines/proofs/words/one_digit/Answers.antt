use Rattle.std.proofs.Common.{sym}
use Rattle.script_lines.proofs.Numbers.{spelled_one, one_is, one_below}
use Rattle.script_lines.proofs.words.one_digit.Goals as goal

pub returns-then-is_ascii_digit-clause-found : goal.returns-then-is_ascii_digit-clause-found
returns-then-is_ascii_digit-clause-found c =
    let digit = sym c.if-is_ascii_digit.ensures.value in
    rw c.from.ensures (one_below c.args.ones digit, spelled_one c.args.ones digit)

pub returns-else-is_ascii_digit-clause-none : goal.returns-else-is_ascii_digit-clause-none
returns-else-is_ascii_digit-clause-none c = λ number small spelled. cc (c.if-is_ascii_digit.ensures.value, one_is number c.args.ones small spelled)
