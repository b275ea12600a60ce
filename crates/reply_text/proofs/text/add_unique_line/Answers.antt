use Rattle.std.proofs.Common.{◌∙◌}
use Rattle.reply_text.proofs.Added.{unique_added}
use Rattle.reply_text.proofs.text.add_unique_line.Goals as goal

pub returns : goal.returns
returns c =
    let added = unique_added c.args.text.now.items c.as_bytes.result.now c.args.segments c.args.bytes (c.as_bytes.ensures.value ∙ c.format.ensures.text) in
    cc (added, c.in_ok-extend_from_slice.ensures.items, c.in_ok-extend_from_slice-2.ensures.items, c.in_ok-add_number_line.ensures)
