use Rattle.std.proofs.Common.{◌∙◌}
use Rattle.reply_text.proofs.Texts.{not_empty_text, sends_as}
use Rattle.reply_text.proofs.notes.write_not_empty.Goals as goal

pub returns : goal.returns
returns g c =
    sends_as _ _ _ _ _ (not_empty_text c.args.files c.as_bytes.result.now (c.as_bytes.ensures.value ∙ c.format.ensures.text)) c.write_pieces.ensures
