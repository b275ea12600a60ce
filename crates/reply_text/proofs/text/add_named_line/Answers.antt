use Rattle.std.proofs.Common.{◌++◌, ◌∙◌, ap}
use Rattle.disk_format.specs.Cells.{Root}
use Rattle.reply_text.specs.Text.{named_line}
use Rattle.reply_text.proofs.Added.{named_added}
use Rattle.reply_text.proofs.text.add_named_line.Goals as goal

pub returns : goal.returns
returns c =
    let root : Root = record { length = c.root.inside.length; level = c.root.inside.level; digest = c.root.inside.digest } in
    let added = named_added c.args.text.now.items c.args.word.now c.args.name.now c.as_bytes.result.now c.as_bytes-2.result.now c.put_digits.new.digits root
    (c.as_bytes.ensures.value ∙ c.format.ensures.text) (c.as_bytes-2.ensures.value ∙ c.format-2.ensures.text) c.put_digits.ensures
    ∙ ap (λ (r : Root). c.args.text.now.items ++ named_line c.args.word.now c.args.name.now r) c.root.view_is in
    cc (
      added,
      c.in_ok-extend_from_slice.ensures.items,
      c.in_ok-extend_from_slice-2.ensures.items,
      c.in_ok-extend_from_slice-3.ensures.items,
      c.in_ok-extend_from_slice-4.ensures.items,
      c.in_ok-extend_from_slice-5.ensures.items,
      c.in_ok-extend_from_slice-6.ensures.items,
      c.in_ok-extend_from_slice-7.ensures.items,
      c.in_ok-extend_from_slice-8.ensures.items,
      c.in_ok-extend_from_slice-9.ensures.items,
    )
