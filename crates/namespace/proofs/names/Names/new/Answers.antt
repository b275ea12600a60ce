use Rattle.std.proofs.Common.{ap}
use Rattle.std.specs.FinMap as finite
use Rattle.namespace.specs.Keys.{by_bytes}
use Rattle.namespace.proofs.Kept.{no_names}
use Rattle.namespace.proofs.names.Names.new.Goals as goal

pub invariant_of-result : goal.invariant_of-result
invariant_of-result c = no_names _ (ap (λ es. finite.from_entries (by_bytes es)) c.new.ensures.empty)

pub returns-clause-names : goal.returns-clause-names
returns-clause-names c = invariant_of-result c
