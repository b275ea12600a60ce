use Rattle.backup_engine.proofs.Prelude.{◌≡◌, ◌<◌, ◌^◌, true, arith, rules, is_number}
use Rattle.backup_engine.proofs.Numbers.{no_number_parsed}
use Rattle.backup_engine.proofs.load_words.number_within.Goals as goal

pub returns-in-Err-clause-number : goal.returns-in-Err-clause-number
returns-in-Err-clause-number c =
    let number : is_number c.args.word.now ≡ true = grind rules in
    let fits : c.args.most < 2 ^ 64 = omega arith in
    no_number_parsed 64 c.args.word.now number c.in-Err.ensures.value.0 c.args.least c.args.most fits
