use Rattle.std.proofs.Common.{◌∙◌, ap}
use Rattle.script_lines.proofs.Numbers.{percent_none}
use Rattle.script_lines.proofs.Reading.{after_gc, of_percent, no_line}
use Rattle.script_lines.proofs.line.line_of_gc.Goals as goal

pub returns-in_err-read_percent-clause-none : goal.returns-in_err-read_percent-clause-none
returns-in_err-read_percent-clause-none c =
    rw c.from_residual.ensures (no_line _ (after_gc c.args.number.now ∙ ap of_percent (percent_none c.args.number.now c.in_err-read_percent.ensures.none)))
