use Rattle.ingest_session.proofs.Prelude.{◌≡◌, ◌∙◌, ◌≤◌, ◌-◌, List, ap, drop, take, rules, Contents}
use Rattle.std.specs.Prelude.{vec_capacity}
use Rattle.actor_parts.specs.declared.step.TheConstants.{MOST_TOGETHER}
use Rattle.ingest_session.specs.KeyTimes.{times, times_in}
use Rattle.ingest_session.proofs.KeyTimes.{dropped}
use Rattle.ingest_session.proofs.aside.Aside.remove_first.Goals as goal

pub invariant_of-self : goal.invariant_of-self
invariant_of-self c =
    let before : List Contents = c.self.inside.containers.items in
    let counted = dropped c.self.inside.counts c.discount_containers.new.counts before c.args.count c.self.invariant.1
    (λ key.
    c.discount_containers.ensures key ∙ ap (λ (cs : List Contents). times c.self.inside.counts key - times_in (take c.args.count cs) key) c.deref.ensures.value) in
    let room : MOST_TOGETHER ≤ vec_capacity c.drop-drain.new.self.0 = search rules in
    let items : c.drop-drain.new.self.0.items ≡ drop c.args.count before = search rules in
    (room, rw items counted)
