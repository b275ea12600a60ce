use Rattle.std.proofs.Common.{◌∙◌}
use Rattle.reply_text.proofs.Texts.{wrong_size_text, sends_as}
use Rattle.reply_text.proofs.notes.write_wrong_size.Goals as goal

pub returns : goal.returns
returns g c =
    sends_as _ _ _ _ _ (wrong_size_text c.args.want c.args.got c.as_bytes.result.now c.as_bytes-2.result.now (c.as_bytes.ensures.value ∙ c.format.ensures.text)
    (c.as_bytes-2.ensures.value ∙ c.format-2.ensures.text)) c.write_pieces.ensures
