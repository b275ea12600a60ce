use Rattle.merkle_file.proofs.Prelude.{◌+◌, ◌-◌, ◌++◌, ◌∷◌, [], drop, sym, ◌∙◌, ap, List, append_assoc, arith, Child, child_in}
use Rattle.merkle_file.specs.Reading.{children_in}
use Rattle.merkle_file.proofs.Nodes.{children_step}
use Rattle.merkle_file.proofs.reading.read_children.Goals as goal

pub loop-preserved : goal.loop-preserved
loop-preserved c =
    let step = children_step c.args.count c.loop.counter c.loop.rest.now c.loop-test.true in
    record {
      all = rw (c.in_ok-push.ensures.items, c.read_child.ensures, c.split_at.ensures.back)
          (append_assoc c.loop.children.items (child_in c.loop.rest.now ∷ []) (children_in (c.args.count - (c.loop.counter + 1)) (drop 40 c.loop.rest.now))
          ∙ ap (λ (t : List Child). c.loop.children.items ++ t) (sym step) ∙ c.loop.invariant.all);
      room = omega (arith, c.split_at.ensures.back_len, c.loop.invariant.room);
    }
