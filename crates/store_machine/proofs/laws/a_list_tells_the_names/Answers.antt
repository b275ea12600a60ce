use Rattle.store_machine.proofs.Listing.{lists_by_map}
use Rattle.store_machine.proofs.Moments.{lists_through}
use Rattle.store_machine.proofs.laws.a_list_tells_the_names.Goals as goal

pub returns-clause-ended : goal.returns-clause-ended
returns-clause-ended c = lists_by_map

pub returns-clause-through : goal.returns-clause-through
returns-clause-through c = lists_through
