use Rattle.journal_cells.proofs.Prelude.{ap, sym, ◌∙◌}
use Rattle.std.specs.Option.{option_copied}
use Rattle.journal_cells.proofs.Prepared.{last_one}
use Rattle.journal_cells.proofs.checkpoint.last_number.Goals as goal

pub returns-in-Some : goal.returns-in-Some
returns-in-Some c = sym (last_one 0 c.args.records.now c.in-Some.record.now (sym (ap option_copied c.in-Some.is) ∙ c.last.ensures.value))
