use Rattle.std.proofs.Common.{ap, drop, length, arith}
use Rattle.reply_text.proofs.Texts.{note_written, note_length, note_tail}
use Rattle.reply_text.proofs.notes.refused_line.Goals as goal

pub after_first_word-requires : goal.after_first_word-requires
after_first_word-requires c =
    let whole = note_written c.write_refusal.result c.args.refusal.now _ _ c.bytes.result.now (cc) c.write_refusal.ensures c.new-note.ensures.written c.bytes.ensures in
    omega (arith, ap length whole, note_length c.args.refusal.now)

pub returns : goal.returns
returns c =
    let whole = note_written c.write_refusal.result c.args.refusal.now _ _ c.bytes.result.now (cc) c.write_refusal.ensures c.new-note.ensures.written c.bytes.ensures in
    let last = ap (drop 6) whole in
    let tail = note_tail c.args.refusal.now in
    cc (c.in_ok-line.ensures.items, c.in_ok-extend_from_slice.ensures.items)
