use Rattle.std.proofs.Common.{leb}
use Rattle.std.proofs.lemmas.Bool.{leb-true}
use Rattle.script_lines.specs.Grammar.{IsPercent}
use Rattle.script_lines.proofs.Numbers.{hundred_made, made_is, no_percent}
use Rattle.script_lines.proofs.words.read_percent.Goals as goal

pub returns-then-eq-clause-found : goal.returns-then-eq-clause-found
returns-then-eq-clause-found c = hundred_made c.new.result c.args.word.now c.new.ensures (rw c.as_slice.ensures at c.if-eq.ensures)

pub returns-in_ok-read_number-clause-found : goal.returns-in_ok-read_number-clause-found
returns-in_ok-read_number-clause-found c =
    let n = c.in_ok-read_number.field-0 in
    let read = c.in_ok-read_number.ensures.found in
    made_is (leb n 100) c.new-else-eq.result IsPercent n c.args.word.now c.new-else-eq.ensures (leb-true n 100) read.1

pub returns-in_err-read_number-clause-none : goal.returns-in_err-read_number-clause-none
returns-in_err-read_number-clause-none c =
    rw c.from_residual.ensures (no_percent c.args.word.now (rw c.as_slice.ensures at c.if-eq.ensures) c.in_err-read_number.ensures.none)
