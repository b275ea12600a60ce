use Rattle.backup_engine.proofs.Prelude.{rules, ◌≡◌, ◌∙◌, ap, ap₂, IfOk-weaker, App, app_of, one_argument}
use Rattle.clap.specs.Words.{with_rule, with_subcommand}
use Rattle.backup_engine.proofs.words.with_argument.Goals as goal

pub returns : goal.returns
returns c =
    let sub_is : app_of c.in_ok-arg.field-0 ≡ one_argument c.args.name.now =
    c.in_ok-arg.ensures.shape (search rules) ∙ ap₂ with_rule c.new.ensures.app c.argument.ensures.rule in
    IfOk-weaker c.subcommand.result _ _
    (λ more h. h.shape (search rules) ∙ ap (λ (sub : App). with_subcommand (app_of c.args.command) sub.top) sub_is)
    c.subcommand.ensures
