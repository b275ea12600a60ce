use Rattle.backup_engine.proofs.Prelude.{◌≡◌, ◌∙◌, inl, inr, ap, map, subst, sym, app_of, line_matched, table_app}
use Rattle.std.proofs.Common.{string_bytes}
use Rattle.clap.specs.Words.{IsAmong, fault_of, is_simple, is_simple_and_free, subcommand_of, kind_of}
use Rattle.backup_engine.proofs.ClapLines.{is_free_table, is_simple_table, refused_line, taken_line}
use Rattle.backup_engine.proofs.words.read_words.Goals as goal

pub returns-in-Ok-clause-line : goal.returns-in-Ok-clause-line
returns-in-Ok-clause-line c =
    let words = c.args.words.now in
    let table_is : app_of c.in_ok-table.field-0 ≡ table_app = c.in_ok-table.ensures in
    let taken = c.in-Ok.ensures.kinds (ap is_simple_and_free table_is ∙ is_free_table) in
    let matched = (c.in-Ok.ensures.matches (ap is_simple table_is ∙ is_simple_table)).1 in
    c.matched_line.ensures.line
    ∙ ap line_matched (matched ∙ ap (λ a. subcommand_of a (map string_bytes words)) table_is)
    ∙ taken_line words (ap (λ a. fault_of a (map string_bytes words)) (sym table_is) ∙ taken)

pub returns : goal.returns
returns c =
    let words = c.args.words.now in
    let table_is : app_of c.in_ok-table.field-0 ≡ table_app = c.in_ok-table.ensures in
    let failed = c.in-Err.ensures.kinds (ap is_simple_and_free table_is ∙ is_free_table) in
    record {
      line = elim failed [
        | inl memory ↦ absurd (c.in_default.not-OutOfMemory (c.kind.ensures ∙ memory))
        | inr among ↦ refused_line words _ (subst (λ a. IsAmong (kind_of c.in-Err.error) (fault_of a (map string_bytes words))) table_is among)
      ];
      right = tt;
    }
