use Rattle.std.proofs.Common.{rules}
use Rattle.std.proofs.lemmas.List.Sorted.{answers_always, IsNonDecreasingBy-from_sort_by_key}
use Rattle.namespace.proofs.Puts.{puts_sorted, puts_once}
use Rattle.namespace.proofs.names.Names.puts_in_order.Goals as goal

pub returns-clause-puts : goal.returns-clause-puts
returns-clause-puts c =
    puts_sorted c.args.self.now _ _ c.in_ok-puts.ensures.listed
    (IsNonDecreasingBy-from_sort_by_key (λ put. put.sequence) _ c.in_ok-sort_by_key.ensures.sorted (λ a r q k. search rules))
    (c.sort_by_key.ensures.stable (λ put. put.sequence) (answers_always _ _ _ (λ f a r g h. search rules)))

pub returns-clause-only : goal.returns-clause-only
returns-clause-only c = λ last puts. puts_once c.args.self.now last puts c.list.ensures.names

pub returns-in_err-puts-clause-only : goal.returns-in_err-puts-clause-only
returns-in_err-puts-clause-only c = λ last puts. puts_once c.args.self.now last puts c.list.ensures.names

pub returns-in_err-sort_by_key-clause-only : goal.returns-in_err-sort_by_key-clause-only
returns-in_err-sort_by_key-clause-only c = λ last puts. puts_once c.args.self.now last puts c.list.ensures.names
