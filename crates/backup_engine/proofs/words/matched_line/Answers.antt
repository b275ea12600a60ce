use Rattle.backup_engine.proofs.Prelude.{◌∙◌, sym, ap, line_matched}
use Rattle.backup_engine.proofs.ClapLines.{subcommand_is}
use Rattle.backup_engine.proofs.words.matched_line.Goals as goal

pub returns-clause-line : goal.returns-clause-line
returns-clause-line c =
    c.found_line.ensures.line
    ∙ sym (ap line_matched (subcommand_is c.args.matches.now _ _ c.in_ok-name.ensures.name c.in_ok-name.ensures.rows))
