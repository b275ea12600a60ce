use Rattle.std.proofs.Common.{sym}
use Rattle.script_lines.proofs.Numbers.{spelled_two, two_is, two_below}
use Rattle.script_lines.proofs.words.two_digits.Goals as goal
use Rattle.script_lines.proofs.words.two_digits.Goals.{else-is_ascii_digit-via-then-is_ascii_digit+then-tens-ne48+else-is_ascii_digit-2, else-is_ascii_digit-via-then-is_ascii_digit+else-tens-ne48, else-is_ascii_digit-via-else-is_ascii_digit}

pub returns-then-is_ascii_digit-2-clause-found : goal.returns-then-is_ascii_digit-2-clause-found
returns-then-is_ascii_digit-2-clause-found c =
    let first = sym c.if-is_ascii_digit.ensures.value in
    let second = sym c.if-is_ascii_digit-2.ensures.value in
    rw (c.from.ensures, c.from-then-is_ascii_digit-2.ensures)
    (two_below c.args.tens c.args.ones first second, spelled_two c.args.tens c.args.ones first c.if-tens-ne48.true second)

pub returns-else-is_ascii_digit-clause-none : goal.returns-else-is_ascii_digit-clause-none
returns-else-is_ascii_digit-clause-none c = λ number small spelled.
    let is = two_is number c.args.tens c.args.ones small spelled in
    elim c.else-is_ascii_digit.branch [
      | else-is_ascii_digit-via-then-is_ascii_digit+then-tens-ne48+else-is_ascii_digit-2 w ↦ cc (w.if-is_ascii_digit-2.ensures.value, is.2)
      | else-is_ascii_digit-via-then-is_ascii_digit+else-tens-ne48 w ↦ is.1 w.if-tens-ne48.false
      | else-is_ascii_digit-via-else-is_ascii_digit w ↦ cc (w.if-is_ascii_digit.ensures.value, is.0)
    ]
