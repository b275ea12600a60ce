use Rattle.backup_engine.proofs.Prelude.{◌≡◌, ◌∙◌, rules, codes, false, ap, bytes_eq}
use Rattle.clap.proofs.WalkLemmas.{first_value-rows}
use Rattle.clap.specs.Words.{found_of}
use Rattle.backup_engine.specs.Words.{line_named}
use Rattle.backup_engine.proofs.words.found_line.Goals as goal

pub returns-else-eq-clause-line : goal.returns-else-eq-clause-line
returns-else-eq-clause-line c =
    let argument = c.get_str.ensures ∙ first_value-rows (found_of c.args.inner.now) (codes "argument") in
    let other : bytes_eq c.args.name.now (codes "work") ≡ false = search rules in
    rw other (c.named_line.ensures.line ∙ ap (line_named c.args.name.now) argument)
