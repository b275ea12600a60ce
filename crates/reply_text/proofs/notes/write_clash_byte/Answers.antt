use Rattle.std.proofs.Common.{◌∙◌}
use Rattle.reply_text.proofs.Texts.{clash_byte_text, sends_as}
use Rattle.reply_text.proofs.notes.write_clash_byte.Goals as goal

pub returns : goal.returns
returns g c =
    sends_as _ _ _ _ _ (clash_byte_text c.args.key.now c.args.place c.args.offered c.args.held c.put_digits.new.digits c.as_bytes.result.now c.put_digits-2.new.digits
    c.put_digits-3.new.digits c.put_digits.ensures (c.as_bytes.ensures.value ∙ c.format.ensures.text) c.put_digits-2.ensures c.put_digits-3.ensures) c.write_pieces.ensures
