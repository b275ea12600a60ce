use Rattle.std.proofs.Common.{◌∙◌}
use Rattle.reply_text.proofs.Texts.{version_text, sends_as}
use Rattle.reply_text.proofs.notes.write_version.Goals as goal

pub returns : goal.returns
returns g c =
    sends_as _ _ _ _ _ (version_text c.args.n c.as_bytes.result.now (c.as_bytes.ensures.value ∙ c.format.ensures.text)) c.write_pieces.ensures
