use Rattle.backup_engine.proofs.Prelude.{◌≡◌, true, rules, is_number}
use Rattle.backup_engine.proofs.Numbers.{no_slots_parsed}
use Rattle.backup_engine.proofs.words.slot_count.Goals as goal

pub returns-in-Err-clause-slots : goal.returns-in-Err-clause-slots
returns-in-Err-clause-slots c =
    let number : is_number c.args.word.now ≡ true = grind rules in
    no_slots_parsed c.args.word.now number c.in-Err.ensures.value.0
