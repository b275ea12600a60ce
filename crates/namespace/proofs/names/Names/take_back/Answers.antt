use Rattle.std.proofs.Common.{sym, ap, ◌∙◌}
use Rattle.std.specs.FinMap as finite
use Rattle.namespace.specs.Names.{names_given}
use Rattle.namespace.proofs.TakenBack.{given_back}
use Rattle.namespace.proofs.names.Names.take_back.Goals as goal

pub returns-in-Some-clause-back : goal.returns-in-Some-clause-back
returns-in-Some-clause-back c names named had was =
    let name = c.args.name.items in
    c.put_back.ensures
    ∙ ap (λ m. finite.insert m name c.in-Some.named) was
    ∙ ap (λ b. names_given name b (finite.insert names name named)) (sym c.in-Some.is)
    ∙ given_back names name named c.args.before had

pub returns-in-None-clause-back : goal.returns-in-None-clause-back
returns-in-None-clause-back c names named had was =
    let name = c.args.name.items in
    c.remove.ensures.removed
    ∙ ap (λ bytes. finite.remove c.args.self.now bytes) c.deref.ensures.value
    ∙ ap (λ m. finite.remove m name) was
    ∙ ap (λ b. names_given name b (finite.insert names name named)) (sym c.in-None.is)
    ∙ given_back names name named c.args.before had
