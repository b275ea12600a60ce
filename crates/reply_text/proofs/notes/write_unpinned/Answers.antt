use Rattle.reply_text.proofs.Texts.{unpinned_text, sends_as}
use Rattle.reply_text.proofs.notes.write_unpinned.Goals as goal

pub returns : goal.returns
returns g c =
    sends_as _ _ _ _ _ (unpinned_text c.args.key.now c.put_digits.new.digits c.put_digits.ensures) c.write_pieces.ensures
