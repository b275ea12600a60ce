use Rattle.std.proofs.Common.{rules, ◌≡◌, List, [], map, reverse, refl, sym, ap, subst, ◌∙◌}
use Rattle.std.proofs.lemmas.List.{reverse-reverse}
use Rattle.shared_store.specs.declared.caller.Caller.{Caller}
use Rattle.shared_store.specs.Calls.{JoinsPass}
use Rattle.shared_store.specs.Passes.{IsBusy}
use Rattle.ingest_workers.proofs.Seats.{all_fewer}
use Rattle.shared_work.specs.Working.{JoinsAll}
use Rattle.shared_work.proofs.Taking.{joins_last}
use Rattle.shared_work.proofs.working.take_in_all.Goals as goal

pub loop-caller-preserved : goal.loop-caller-preserved
loop-caller-preserved g c =
    let state = g.C.HasState.state in
    let i = c.loop-caller.invariant in
    let olds = c.loop-caller.callers.items in
    let news = c.pop.new.self.items in
    let caller = c.in-Some.caller in
    let is = c.in-Some.ensures.items in
    let one = subst (λ p. JoinsPass state c.loop-caller.pass p c.take_in.new.pass) c.into_pass.ensures c.take_in.ensures in record {
      pass = search rules;
      stores = all_fewer (λ x. x.0.store ≡ c.args.store.now) news olds caller is i.stores;
      free = all_fewer (λ x. IsBusy x.0 → ⊥) news olds caller is i.free;
      joins = λ last more. i.joins last (joins_last state (λ x. x.0) olds news caller c.loop-caller.pass c.take_in.new.pass last is one more);
    }

pub returns : goal.returns
returns g c =
    let state = g.C.HasState.state in
    let Callers = List (Caller g.row.C.Denot g.row.R.Denot) in
    let none : c.loop-caller.callers.items ≡ [] = search rules in
    let turned : reverse c.reverse.new.self.items ≡ c.args.callers.items = ap reverse c.reverse.ensures.items ∙ reverse-reverse c.args.callers.items in
    let over = subst (λ (l : Callers). JoinsAll state c.loop-caller.pass (map (λ x. x.0) (reverse l)) c.loop-caller.pass) (sym none) refl in
    subst (λ (l : Callers). JoinsAll state c.args.pass.now (map (λ x. x.0) l) c.loop-caller.pass) turned (c.loop-caller.invariant.joins c.loop-caller.pass over)
