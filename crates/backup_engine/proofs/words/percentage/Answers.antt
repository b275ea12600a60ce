use Rattle.backup_engine.proofs.Prelude.{◌≡◌, true, rules, is_number}
use Rattle.backup_engine.proofs.Numbers.{no_percent_parsed}
use Rattle.backup_engine.proofs.words.percentage.Goals as goal

pub returns-in-Err : goal.returns-in-Err
returns-in-Err c =
    let number : is_number c.args.word.now ≡ true = grind rules in
    no_percent_parsed c.args.word.now number c.in-Err.ensures.value.0
