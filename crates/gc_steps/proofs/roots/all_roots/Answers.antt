use Rattle.gc_steps.proofs.Prelude.{◌∙◌, ◌++◌, ap, flat_map, keys_of_listed}
use Rattle.gc_steps.proofs.RootKeys.{first_none, first_turn}
use Rattle.gc_steps.proofs.roots.all_roots.Goals as goal

pub loop-number-init : goal.loop-number-init
loop-number-init c =
    first_none c.new-roots.result.items _ c.add_listed.new.roots.items c.args.parts.now c.new-roots.ensures.items
    (c.in_ok-add_listed.ensures ∙ ap (λ ns. c.new-roots.result.items ++ flat_map keys_of_listed ns) (c.names.ensures ∙ c.in_ok-files.ensures))

pub loop-number-preserved : goal.loop-number-preserved
loop-number-preserved c =
    first_turn _ c.args.parts.now c.loop-number.number c.loop-number.roots.items c.add_actor.new.roots.items c.loop-number.invariant c.in_ok-add_actor.ensures
