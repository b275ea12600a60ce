use Rattle.reply_text.proofs.Texts.{not_a_store_text, sends_as}
use Rattle.reply_text.proofs.notes.write_not_a_store.Goals as goal

pub returns : goal.returns
returns g c =
    sends_as _ _ _ _ _ (not_a_store_text c.args.gate c.args.magic.now c.put_digits.new.digits c.put_digits-2.new.digits c.put_digits.ensures c.put_digits-2.ensures)
    c.write_pieces.ensures
