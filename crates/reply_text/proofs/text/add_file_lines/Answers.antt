use Rattle.reply_text.specs.Text.{file_line}
use Rattle.reply_text.proofs.Added.{files_more}
use Rattle.reply_text.proofs.text.add_file_lines.Goals as goal

pub loop-named-preserved : goal.loop-named-preserved
unfolding file_line
loop-named-preserved c =
    let more = files_more c.args.text.now.items c.args.names.now c.loop-named.named-index c.named-item.result c.loop-named-test.true in
    cc (more, c.loop-named.invariant, c.in_ok-add_named_line.ensures, c.deref.ensures.value, c.named-item.is)
