use Rattle.reply_text.proofs.Texts.{wrong_part_text, sends_as}
use Rattle.reply_text.proofs.notes.write_wrong_part.Goals as goal

pub returns : goal.returns
returns g c =
    sends_as _ _ _ _ _ (wrong_part_text c.args.part.now c.word_of.result.now c.word_of.ensures) c.write_pieces.ensures
