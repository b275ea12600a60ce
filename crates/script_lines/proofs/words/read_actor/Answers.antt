use Rattle.std.proofs.Common.{ltb, sym, ◌∙◌, arith}
use Rattle.std.proofs.lemmas.Bool.{ltb-true, lt-ltb}
use Rattle.script_lines.specs.Grammar.{IsActor}
use Rattle.script_lines.proofs.Numbers.{made_is, made_not, one_number}
use Rattle.script_lines.proofs.words.read_actor.Goals as goal

pub returns-clause-found : goal.returns-clause-found
returns-clause-found c =
    let n = c.in_ok-read_number.field-0 in
    let read = c.in_ok-read_number.ensures.found in
    made_is (ltb n 64) c.new.result IsActor n c.args.word.now c.new.ensures (ltb-true n 64) read.1

pub returns-clause-none : goal.returns-clause-none
returns-clause-none c =
    let n = c.in_ok-read_number.field-0 in
    let read = c.in_ok-read_number.ensures.found in
    made_not (ltb n 64) c.new.result IsActor n c.args.word.now c.new.ensures (lt-ltb n 64)
    (λ m actor spelled. one_number m n (sym spelled ∙ read.1) (omega (arith, actor)) (omega (arith, read.0)))

pub returns-in_err-read_number-clause-none : goal.returns-in_err-read_number-clause-none
returns-in_err-read_number-clause-none c =
    rw c.from_residual.ensures (λ actor small is. c.in_err-read_number.ensures.none actor (omega (arith, small)) is)
