use Rattle.std.proofs.Common.{◌≡◌, sym, ap, subst, ◌∙◌, rules}
use Rattle.std.specs.Prelude.{take}
use Rattle.std.specs.List.Sorted.{IsPermutation}
use Rattle.std.proofs.lemmas.List.{take_all}
use Rattle.std.proofs.lemmas.List.Sorted.{IsNonDecreasingBy-from_sort}
use Rattle.container_meta.specs.declared.kind.Kind.TheVariants.{Leaf, Tree}
use Rattle.gc_select.specs.Selecting.{ids_of, of_kind, selected}
use Rattle.gc_select.proofs.Selected.{sources_once, sources_moved, which_ids, apart_ids}
use Rattle.gc_select.proofs.selection.select.Goals as goal

pub returns-clause-sources : goal.returns-clause-sources
returns-clause-sources c =
    let containers = c.args.liveness.now in
    let whole : take c.loop-container.container-index containers ≡ containers = take_all c.loop-container.container-index containers (search rules) in
    let leaves = c.loop-container.invariant.2 ∙ ap (λ cs. ids_of (of_kind Leaf (selected c.args.snapshot c.args.percent cs))) whole in
    let trees = c.loop-container.invariant.3 ∙ ap (λ cs. ids_of (of_kind Tree (selected c.args.snapshot c.args.percent cs))) whole in
    record {
      data_ids = c.sort_unstable.new.self.items;
      tree_ids = c.sort_unstable-2.new.self.items;
      data_first = search rules;
      all_data = subst (λ ids. IsPermutation ids c.sort_unstable.new.self.items) leaves c.sort_unstable.ensures.permutation;
      all_trees = subst (λ ids. IsPermutation ids c.sort_unstable-2.new.self.items) trees c.sort_unstable-2.ensures.permutation;
      data_rising = IsNonDecreasingBy-from_sort (λ n. n) _ c.sort_unstable.ensures.sorted;
      trees_rising = IsNonDecreasingBy-from_sort (λ n. n) _ c.sort_unstable-2.ensures.sorted;
    }

pub returns-clause-ids : goal.returns-clause-ids
returns-clause-ids c = sources_once (selected c.args.snapshot c.args.percent c.args.liveness.now) _ (returns-clause-sources c)

pub returns-clause-only : goal.returns-clause-only
returns-clause-only c = λ other are. sources_once (selected c.args.snapshot c.args.percent c.args.liveness.now) other are ∙ sym (returns-clause-ids c)

pub returns-clause-each : goal.returns-clause-each
returns-clause-each c = sources_moved (selected c.args.snapshot c.args.percent c.args.liveness.now) _ (returns-clause-sources c)

pub returns-clause-which : goal.returns-clause-which
returns-clause-which c = which_ids c.args.snapshot c.args.percent c.args.liveness.now _ (returns-clause-each c)

pub returns-clause-apart : goal.returns-clause-apart
returns-clause-apart c = apart_ids c.args.snapshot c.args.percent c.args.liveness.now _ (returns-clause-each c)
