use Rattle.std.proofs.Common.{◌∙◌}
use Rattle.reply_text.proofs.Texts.{corrupt_text, sends_as}
use Rattle.reply_text.proofs.notes.write_corrupt.Goals as goal

pub returns : goal.returns
returns g c =
    sends_as _ _ _ _ _ (corrupt_text c.args.slot c.args.offset c.args.length c.args.want.now c.args.got.now c.as_bytes.result.now c.as_bytes-2.result.now c.as_bytes-3.result.now
    c.put_digits.new.digits c.put_digits-2.new.digits (c.as_bytes.ensures.value ∙ c.format.ensures.text) (c.as_bytes-2.ensures.value ∙ c.format-2.ensures.text)
    (c.as_bytes-3.ensures.value ∙ c.format-3.ensures.text) c.put_digits.ensures c.put_digits-2.ensures) c.write_pieces.ensures
