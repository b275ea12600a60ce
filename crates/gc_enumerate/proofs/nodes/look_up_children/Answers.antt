use Rattle.std.proofs.Common.{◌≡◌, ◌<◌, ◌-◌, ◌∙◌, ℕ, List, [], length, get_or, ap, subst}
use Rattle.base_model.proofs.Outcome.{passed_on}
use Rattle.merkle_file.specs.declared.node.Child.{Child}
use Rattle.gc_enumerate.specs.Scanning.{IsUnplaced, child_key}
use Rattle.gc_enumerate.proofs.Children.{child_more, child_stuck}
use Rattle.gc_enumerate.proofs.nodes.look_up_children.Goals as goal

pub returns-in_err-look_up-clause-refused : goal.returns-in_err-look_up-clause-refused
returns-in_err-look_up-clause-refused g c =
    let copies = g.C.Copies in
    let laws = g.met.C.Copies in
    let so_far = c.loop-child.invariant in
    let node = c.args.node.now in
    let i = c.loop-child.child-index in
    let blank : Child = record { digest = []; length = 0 } in
    let within : i < length node.children = subst (λ (cs : List Child). i < length cs) so_far.0 c.loop-child-test.true in
    let key_is : c.child_key.result ≡ child_key node.level (get_or node.children i blank) =
    c.child_key.ensures ∙ ap (λ (level : ℕ). child_key level (get_or c.children-child-items.result.now i blank)) so_far.1
    ∙ ap (λ (cs : List Child). child_key node.level (get_or cs i blank)) so_far.0 in
    passed_on c.from_residual.result _ c.in_err-look_up.field-0.0 c.from_residual.ensures.1
    (child_stuck (copies.places c.args.copies.now) (copies.places c.loop-child.copies) (laws.places_stay c.args.copies.now c.loop-child.copies so_far.3) node i blank within
    c.child_key.result key_is
    c.loop-child.found.items so_far.2 (copies.damaged c.args.copies.now c.look_up.new.copies) (copies.damaged c.loop-child.copies c.look_up.new.copies) c.in_err-look_up.field-0.0
    (λ at why is. laws.damaged_wider c.args.copies.now c.loop-child.copies c.look_up.new.copies c.look_up.new.copies at why so_far.3 c.in_err-look_up.ensures.later
    (laws.later_at_once c.look_up.new.copies) is)
    (subst (λ (level : ℕ). IsUnplaced (copies.places c.loop-child.copies) (copies.damaged c.loop-child.copies c.look_up.new.copies) (level - 1) c.child_key.result
    c.in_err-look_up.field-0.0) so_far.1
    c.in_err-look_up.ensures.refused))

pub loop-child-preserved : goal.loop-child-preserved
loop-child-preserved g c =
    let copies = g.C.Copies in
    let laws = g.met.C.Copies in
    let so_far = c.loop-child.invariant in
    let node = c.args.node.now in
    let i = c.loop-child.child-index in
    let blank : Child = record { digest = []; length = 0 } in
    let within : i < length node.children = subst (λ (cs : List Child). i < length cs) so_far.0 c.loop-child-test.true in
    let key_is : c.child_key.result ≡ child_key node.level (get_or node.children i blank) =
    c.child_key.ensures ∙ ap (λ (level : ℕ). child_key level (get_or c.children-child-items.result.now i blank)) so_far.1
    ∙ ap (λ (cs : List Child). child_key node.level (get_or cs i blank)) so_far.0 in (
      so_far.0,
      so_far.1,
      child_more (copies.places c.args.copies.now) (copies.places c.loop-child.copies) (laws.places_stay c.args.copies.now c.loop-child.copies so_far.3) node i blank within
          c.child_key.result key_is
          c.loop-child.found.items so_far.2 c.in_ok-look_up.field-0 c.push.new.self.items c.in_ok-look_up.ensures.key c.in_ok-look_up.ensures.place
          (c.in_ok-look_up.ensures.level ∙ ap (λ (level : ℕ). level - 1) so_far.1) c.in_ok-push.ensures.items,
      laws.later_on c.args.copies.now c.loop-child.copies c.look_up.new.copies so_far.3 c.in_ok-look_up.ensures.later,
      c.in_ok-look_up.ensures.counts ∙ so_far.4,
      c.in_ok-look_up.ensures.served,
    )
