use Rattle.std.proofs.Common.{◌∙◌}
use Rattle.reply_text.proofs.Texts.{checked_text, sends_as}
use Rattle.reply_text.proofs.checking.write_checked.Goals as goal

pub returns : goal.returns
returns g c =
    sends_as _ _ _ _ _ (checked_text c.args.cells c.args.copies c.args.bad c.as_bytes.result.now c.as_bytes-2.result.now c.as_bytes-3.result.now
    (c.as_bytes.ensures.value ∙ c.format.ensures.text) (c.as_bytes-2.ensures.value ∙ c.format-2.ensures.text) (c.as_bytes-3.ensures.value ∙ c.format-3.ensures.text))
    c.write_pieces.ensures
