use Rattle.backup_engine.proofs.Prelude.{codes, true, ◌≡◌, ◌∙◌, ap, IfOk-weaker, App, app_of}
use Rattle.backup_engine.specs.Words.{no_commands, with_load, with_none, with_one}
use Rattle.backup_engine.proofs.words.table.Goals as goal

pub returns : goal.returns
returns c =
    let top_is : app_of c.subcommand_required-command.result ≡ no_commands =
    rw (
      c.subcommand_required-command.ensures,
      c.disable_version_flag.ensures,
      c.disable_help_subcommand.ensures,
      c.disable_help_flag.ensures,
      c.no_binary_name.ensures,
    ) (ap (λ (a : App). record a {
      top = record a.top {
        no_binary_name = true;
        disable_help_flag = true;
        disable_help_subcommand = true;
        disable_version_flag = true;
        subcommand_required = true;
      };
    }) c.new.ensures.app) in
    let format_is = c.in_ok-command.ensures ∙ ap (λ (a : App). with_one a (codes "format")) top_is in
    let ingest_is = c.in_ok-command-2.ensures ∙ ap (λ (a : App). with_one a (codes "ingest")) format_is in
    let restore_is = c.in_ok-command-3.ensures ∙ ap (λ (a : App). with_one a (codes "restore")) ingest_is in
    let delete_is = c.in_ok-command-4.ensures ∙ ap (λ (a : App). with_one a (codes "delete")) restore_is in
    let collect_is = c.in_ok-command-5.ensures ∙ ap (λ (a : App). with_one a (codes "collect")) delete_is in
    let list_is = c.in_ok-command-6.ensures ∙ ap (λ (a : App). with_none a (codes "list")) collect_is in
    let run_is = c.in_ok-command-7.ensures ∙ ap (λ (a : App). with_none a (codes "run")) list_is in
    let check_is = c.in_ok-command-8.ensures ∙ ap (λ (a : App). with_none a (codes "check")) run_is in
    IfOk-weaker c.with_arguments_of_load.result _ _ (λ more h. h ∙ ap with_load check_is) c.with_arguments_of_load.ensures
