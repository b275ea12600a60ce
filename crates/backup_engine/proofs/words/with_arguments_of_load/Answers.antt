use Rattle.backup_engine.proofs.Prelude.{◌≡◌, ◌∙◌, List, ℕ, codes, false, refl, ap, ap₂, IfOk-weaker, App, app_of}
use Rattle.clap.specs.Words.{AddsArg, new_app, rule_of, with_rule, with_subcommand}
use Rattle.clap.specs.declared.builder.arg.Arg.{Arg}
use Rattle.clap.specs.declared.builder.command.Command.{Command}
use Rattle.clap.specs.declared.builder.command.Command.TheViews.{out-Command}
use Rattle.backup_engine.specs.Words.{argument_rule}
use Rattle.backup_engine.proofs.words.with_arguments_of_load.Goals as goal

record IsBegun (app : App) (command : Command) : Type 0 where
  app_is : app_of command ≡ app
  local : (out-Command command).has_globals ≡ false

one_more : (app : App) (old new : Command) (a : Arg) (id : List ℕ) → AddsArg old a new → rule_of a ≡ argument_rule id → a.global ≡ false → IsBegun app old
    → IsBegun (with_rule app (argument_rule id)) new
one_more app old new a id adds rule local begun =
    record { app_is = adds.shape local ∙ ap₂ with_rule begun.app_is rule; local = rw (adds.globals, begun.local, local) refl }

pub returns : goal.returns
returns c =
    let none : IsBegun (new_app (codes "work")) c.new.result = record { app_is = c.new.ensures.app; local = c.new.ensures.local } in
    let workers = one_more _ _ _ _ (codes "workers") c.in_ok-arg.ensures c.argument.ensures.rule c.argument.ensures.local none in
    let seed = one_more _ _ _ _ (codes "seed") c.in_ok-arg-2.ensures c.argument-2.ensures.rule c.argument-2.ensures.local workers in
    let files = one_more _ _ _ _ (codes "files") c.in_ok-arg-3.ensures c.argument-3.ensures.rule c.argument-3.ensures.local seed in
    let bytes = one_more _ _ _ _ (codes "bytes") c.in_ok-arg-4.ensures c.argument-4.ensures.rule c.argument-4.ensures.local files in
    let all = one_more _ _ _ _ (codes "percent") c.in_ok-work.ensures c.argument-5.ensures.rule c.argument-5.ensures.local bytes in
    IfOk-weaker c.subcommand.result _ _ (λ more h. h.shape all.local ∙ ap (λ (sub : App). with_subcommand (app_of c.args.command) sub.top) all.app_is)
    c.subcommand.ensures
